use native.Mathlib.Omega.{arith}
use Rattle.basics.proofs.Lists.{length_part}
use Rattle.modbus.specs.Frame.{read_reply_by}
use Rattle.modbus.proofs.Laws.{length-framed, header-closed}
use Rattle.modbus.proofs.frame.close_read_reply.Goals as goal

pub returns : goal.returns
unfolding read_reply_by
returns c =
    let long = length_part c.args.buffer.now 3 c.args.size (omega arith) in
    record { size = simp (length-framed, long) (omega arith); left = grind (arith, header-closed) }
