use mathlib.Core.Path.{sym, ◌∙◌}
use borrow.Author.Tests.{eqb-true}
use Rattle.points.proofs.Laws.{group-sound}
use Rattle.records.proofs.Laws.{lent-flags}
use Rattle.records.proofs.record.write_points.Goals as goal

pub overflow_sub-run : goal.overflow_sub-run
overflow_sub-run c = (group-sound c.args.run.point c.args.run.count c.args.run.row c.requires.lent.grouped).looked.from

pub write_flags-requires : goal.write_flags-requires
write_flags-requires c =
    rw (c.from-offset.ensures, c.from-first.ensures, c.from.ensures) (lent-flags _ _ _ c.requires.lent c.requires.whole (eqb-true _ 0 (sym c.is_bits.ensures ∙ c.if-is_bits.true)))
