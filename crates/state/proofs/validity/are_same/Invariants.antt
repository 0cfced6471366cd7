use mathlib.Core.Path.{◌≡◌}
use lib.Dec.{eqb}
use lib.ListN.{length, get_or}
use Rattle.archive.specs.Layout.{every}
use Rattle.state.proofs.validity.are_same.Given as goal

abbrev pub invariant-loop-x : goal.invariant-loop-x
invariant-loop-x l = l.same ≡ every (length l.yielded) (λ k. eqb (get_or l.a k 0) (get_or l.b k 0))
