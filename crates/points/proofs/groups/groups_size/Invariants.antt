use Rattle.std.proofs.Common.{◌≡◌}
use Rattle.points.specs.Groups.{groups_size}
use Rattle.points.proofs.groups.groups_size.Given as goal

abbrev pub invariant-loop-g : goal.invariant-loop-g
invariant-loop-g l = l.total ≡ groups_size l.groups l.g
