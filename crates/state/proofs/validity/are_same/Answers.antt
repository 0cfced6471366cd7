use mathlib.Core.Path.{sym}
use native.Mathlib.Numerals.{add-one}
use Rattle.std.proofs.Common.{rules}
use Rattle.std.proofs.lemmas.List.{length-append}
use Rattle.std.proofs.lemmas.Slice.Zip.{zip_turn}
use Rattle.archive.specs.Layout.{every}
use Rattle.archive.proofs.Layouts.{every-none}
use Rattle.state.proofs.validity.are_same.Goals as goal

pub loop-x-init : goal.loop-x-init
loop-x-init c = sym (every-none _)

pub loop-x-preserved : goal.loop-x-preserved
unfolding every
loop-x-preserved c =
    let a = c.args in
    let at = c.loop-x in
    let turn = zip_turn a.a.now a.b.now at.yielded _ at.x-iterator c.next.new.self c.next.result (search rules) (search rules) at.yielded_by (c.in-Some.x, c.in-Some.y) c.in-Some.is c.next.ensures.steps in
    rw (length-append, add-one) (simp (at.invariant, turn.2 0, turn.3 0))
