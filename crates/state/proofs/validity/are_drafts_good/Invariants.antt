use mathlib.Core.Path.{◌≡◌}
use mathlib.Core.Bool.{true}
use Rattle.archive.specs.Layout.{every, definition, is_good}
use Rattle.state.proofs.validity.are_drafts_good.Given as goal

abbrev pub invariant-loop-f : goal.invariant-loop-f
invariant-loop-f l = every l.f (λ i. is_good (definition l.drafts.groups i)) ≡ true
