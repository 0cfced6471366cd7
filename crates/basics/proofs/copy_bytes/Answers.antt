use native.Mathlib.Omega.{arith}
use Rattle.std.proofs.lemmas.Grind.{common_steps}
use Rattle.basics.proofs.Lists.{filled_next, filled-all, copied}
use Rattle.basics.proofs.copy_bytes.Invariants.{byte_at}
use Rattle.basics.proofs.copy_bytes.Goals as goal

pub loop-i-preserved : goal.loop-i-preserved
loop-i-preserved c = grind (arith, common_steps, filled_next (byte_at c.args.bytes.now))

pub returns : goal.returns
returns c = grind (arith, filled-all (byte_at c.args.bytes.now), copied c.args.bytes.now)
