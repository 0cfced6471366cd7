use mathlib.Core.Path.{◌≡◌}
use lib.ListN.{length, take}
use Rattle.records.specs.Record.{captured_groups}
use Rattle.points.specs.Groups.{groups_size}
use Rattle.records.proofs.record.write_groups.Given as goal

abbrev pub invariant-loop-g : goal.invariant-loop-g
invariant-loop-g l = (length l.part ≡ length l.fn.part) × (l.at ≡ groups_size l.groups l.g) × (take l.at l.part ≡ captured_groups l.table l.groups l.g)
