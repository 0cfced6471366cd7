use Rattle.std.proofs.Common.{◌≡◌, true, ◌<◌, ℕ, get_or}
use Rattle.points.proofs.groups.are_zero.Given as goal

abbrev pub invariant-loop-number : goal.invariant-loop-number
invariant-loop-number l = l.zero ≡ true → (k : ℕ) → k < l.number-index → get_or l.numbers k 0 ≡ 0
