use mathlib.Core.Path.{◌≡◌}
use lib.ListN.{length}
use Rattle.records.specs.Capture.{flags, packed_byte}
use Rattle.basics.proofs.Lists.{filled}
use Rattle.records.proofs.flags.write_flags.Given as goal

abbrev pub invariant-loop-i : goal.invariant-loop-i
invariant-loop-i l = (length l.part ≡ length l.fn.part) × (l.part ≡ filled (packed_byte (flags l.table l.offset l.first l.n)) l.fn.part l.i)
