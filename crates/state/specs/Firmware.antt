-- Two firmwares are in use, which differ in how many records the alarm file has.
use Rattle.std.specs.Prelude.{Bool, cond, ℕ, ◌*◌, ltb}
use Rattle.basics.specs.Numbers.{within}
use Rattle.archive.specs.Layout.{alarm_size}

-- 73 or 74; any other firmware is Foreign (2)
abbrev pub older_firmware : ℕ
older_firmware = 73

abbrev pub newer_firmware : ℕ
newer_firmware = 74

unfoldable pub good_firmware : ℕ → Bool
good_firmware firmware = within older_firmware newer_firmware firmware

-- by the Omni bulletin: 150 alarm records below firmware .74, 500 from .74 on
unfoldable pub alarm_depth : ℕ → ℕ
alarm_depth firmware = cond (ltb firmware newer_firmware) 150 500

-- the least memory at Fresh, under which it is Memory (1): the alarm file alone, 3,300 bytes for 73 and 11,000 for 74
abbrev pub least_memory : ℕ → ℕ
least_memory firmware = alarm_depth firmware * alarm_size
