use native.Mathlib.Omega.{arith}
use Rattle.std.proofs.lemmas.Bool.Decides.{nat_tests}
use Rattle.points.proofs.Laws.{first-bad-here, rest-unused}
use Rattle.points.specs.Groups.{judged, record_size}
use Rattle.points.proofs.groups.judge_groups.Goals as goal

pub returns-then-is_bad : goal.returns-then-is_bad
unfolding judged
returns-then-is_bad c =
    let first = first-bad-here c.args.groups.now c.loop-g.g 16 c.loop-g.invariant.0 in
    grind (arith, nat_tests)

pub returns-then-size-gt-MOST_BYTES : goal.returns-then-size-gt-MOST_BYTES
unfolding judged record_size
returns-then-size-gt-MOST_BYTES c =
    let rest = rest-unused c.args.groups.now _ c.places_used-g-end.ensures.1 16 c.places_used-g-end.ensures.0 in
    grind (arith, nat_tests)

pub returns : goal.returns
unfolding judged record_size
returns c =
    let rest = rest-unused c.args.groups.now _ c.places_used-g-end.ensures.1 16 c.places_used-g-end.ensures.0 in
    grind (arith, nat_tests)
