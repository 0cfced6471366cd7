use mathlib.Core.Path.{◌≡◌}
use native.Mathlib.Omega.{arith}
use Rattle.modbus.proofs.Laws.{closed-over}
use Rattle.polls.specs.View.{view_of}
use Rattle.polls.proofs.Laws.{length-registers}
use Rattle.polls.proofs.reply.send_registers.Goals as goal

pub returns : goal.returns
returns c =
    let a = c.args in
    let at = c.loop-i in
    let all : at.i ≡ a.count = omega arith in
    closed-over _ _ _ _ _ _ _ (length-registers (view_of a.view.now) a.first a.count) (omega arith)
    (rw (c.from.ensures, at.invariant, all) at c.close_read_reply.ensures)
