-- As many copies were tried as bits are passed, and no more of them were refused.
use Rattle.std.proofs.Common.{◌≡◌, ◌≤◌}
use Rattle.frames.proofs.flipped.Given as goal

abbrev pub invariant-loop-bit : goal.invariant-loop-bit
invariant-loop-bit g l = (l.tally.tried ≡ l.bit) × (l.tally.refused ≤ l.tally.tried)
