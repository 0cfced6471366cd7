use mathlib.Core.Path.{sym, ◌∙◌}
use native.Mathlib.Omega.{arith}
use Rattle.modbus.proofs.Laws.{closed-part}
use Rattle.points.specs.declared.groups.Group.TheVariants.{Points}
use Rattle.records.proofs.Laws.{length-captured}
use Rattle.polls.proofs.reply.send_points.Goals as goal

pub returns : goal.returns
returns c =
    let a = c.args in
    let long = length-captured a.table.now (Points a.run) ∙ sym c.bytes-size.ensures in
    closed-part _ _ _ _ _ _ _ _ c.write_points.ensures long (omega arith) c.close_read_reply.ensures
