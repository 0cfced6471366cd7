use mathlib.Core.Path.{◌≡◌}
use Prim.Native.Nat.{ℕ}
use mathlib.Core.List.{List}
use lib.ListN.{length, get_or}
use Rattle.basics.proofs.Lists.{filled}
use Rattle.records.specs.Capture.{text_byte}
use Rattle.records.proofs.record.copy_texts.Given as goal

abbrev pub clean_at : List ℕ → ℕ → ℕ
clean_at texts i = text_byte (get_or texts i 0)

abbrev pub invariant-loop-i : goal.invariant-loop-i
invariant-loop-i l = (length l.part ≡ length l.fn.part) × (l.part ≡ filled (clean_at l.texts) l.fn.part l.i)
