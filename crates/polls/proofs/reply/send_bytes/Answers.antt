use mathlib.Core.Path.{◌≡◌}
use Prim.Native.Nat.{◌+◌, ◌-◌}
use native.Mathlib.Omega.{arith}
use Rattle.basics.proofs.Lists.{length_part}
use Rattle.modbus.proofs.Laws.{closed-part}
use Rattle.polls.proofs.reply.send_bytes.Goals as goal

pub returns : goal.returns
returns c =
    let a = c.args in
    let from : a.at + a.size - a.at ≡ a.size = omega arith in
    closed-part _ _ _ _ _ _ _ _ (rw from at c.copy_bytes.ensures) (length_part a.archive.now a.at a.size (omega arith)) (omega arith) (rw c.from.ensures at c.close_read_reply.ensures)
