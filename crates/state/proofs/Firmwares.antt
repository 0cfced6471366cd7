-- Laws of the alarm file's depth by firmware. Assumes nothing.
--     depth-some    whatever the firmware, the alarm file has records
use mathlib.Core.Bool.{Bool, true, false, cond}
use Prim.Native.Nat.{ℕ, ◌≤◌}
use native.Mathlib.Omega.{arith}
use lib.Dec.{ltb}
use Rattle.state.specs.Firmware.{newer_firmware, alarm_depth}

pub depth-some : (firmware : ℕ) → 1 ≤ alarm_depth firmware
unfolding alarm_depth
depth-some firmware = go (ltb firmware newer_firmware)
  where
    go : (older : Bool) → 1 ≤ cond older 150 500
    go true = omega arith
    go false = omega arith
