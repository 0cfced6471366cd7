use mathlib.Core.Path.{refl}
use native.Mathlib.Omega.{arith}
use Rattle.modbus.specs.Frame.{exception_reply}
use Rattle.modbus.proofs.Laws.{length-framed, header-closed}
use Rattle.modbus.proofs.frame.write_exception.Goals as goal

pub returns : goal.returns
unfolding exception_reply
returns c =
    let closed = header-closed c.args.buffer.now c.args.unit c.high_bit_set.result c.args.code 0 3 (omega arith) refl in
    record { size = simp length-framed; left = cc }
