use Rattle.std.proofs.lemmas.Grind.{common_steps}
use native.Mathlib.Nat.{min_comm}
use native.Mathlib.Omega.{arith}
use Rattle.records.specs.Capture.{flags, packed_byte}
use Rattle.basics.proofs.Lists.{filled_next}
use Rattle.records.proofs.Bits.{packed-window}
use Rattle.records.proofs.flags.write_flags.Goals as goal

pub loop-i-preserved : goal.loop-i-preserved
loop-i-preserved c =
    let rule = packed_byte (flags c.args.table.now c.args.offset c.args.first c.args.n) in
    grind (arith, common_steps, filled_next rule, packed-window, min_comm)
