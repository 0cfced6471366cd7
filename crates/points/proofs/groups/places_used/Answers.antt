use native.Mathlib.Omega.{arith}
use Rattle.points.proofs.Laws.{rest-zero}
use Rattle.points.proofs.groups.places_used.Goals as goal

pub returns-then-not-are_zero-2 : goal.returns-then-not-are_zero-2
returns-then-not-are_zero-2 c =
    (omega arith, rest-zero c.args.groups.now 16 16 (omega arith) (c.are_zero.ensures c.if-not-are_zero.false))

pub returns : goal.returns
returns c = (omega arith, rest-zero c.args.groups.now 4 28 (omega arith) (c.are_zero-2.ensures c.if-not-are_zero-2.false))
