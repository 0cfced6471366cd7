use Rattle.std.proofs.Common.{◌≡◌, ◌+◌}
use Rattle.points.specs.Groups.{first_bad, groups_size}
use Rattle.points.proofs.groups.judge_groups.Given as goal

abbrev pub invariant-loop-g : goal.invariant-loop-g
invariant-loop-g l = (first_bad l.groups l.g ≡ 0) × (l.size ≡ 6 + groups_size l.groups l.g)
