use mathlib.Core.Path.{◌≡◌}
use Prim.Native.Nat.{ℕ}
use mathlib.Core.List.{List}
use lib.ListN.{length, get_or}
use Rattle.basics.proofs.Lists.{filled}
use Rattle.basics.proofs.copy_bytes.Given as goal

abbrev pub byte_at : List ℕ → ℕ → ℕ
byte_at bytes i = get_or bytes i 0

abbrev pub invariant-loop-i : goal.invariant-loop-i
invariant-loop-i l = (length l.to ≡ length l.fn.to) × (l.to ≡ filled (byte_at l.bytes) l.fn.to l.i)
