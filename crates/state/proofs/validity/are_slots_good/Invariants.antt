use mathlib.Core.Path.{◌≡◌}
use Rattle.archive.specs.Layout.{every}
use Rattle.archive.specs.Alarms.{good_slot_at}
use Rattle.state.proofs.validity.are_slots_good.Given as goal

abbrev pub invariant-loop-slot : goal.invariant-loop-slot
invariant-loop-slot l = l.good ≡ every l.slot-index (good_slot_at l.slots)
