-- What the plain machine looks like from outside: the state that calls hand on, and all archive memory.
use Rattle.std.specs.Prelude.{true, false, List, [], ◌++◌, ℕ, zero, suc, ◌-◌, replicate}
use Rattle.basics.specs.Lists.{tabulate}
use Rattle.points.specs.Table.{boolean_bytes}
use Rattle.archive.specs.Layout.{Layout, limit_of, size_of, layout_size, all_files}
use Rattle.archive.specs.Ring.{record_after}
use Rattle.state.specs.declared.parts.State.{State}
use Rattle.state.specs.declared.parts.Seen as Gateway
use Rattle.machine.specs.Machine.{Machine, Seen, nothing, remembered, layout, pointer_of}

-- ---- the state
-- the Booleans, zeros before the first accepted scan
abbrev pub seen_of : Seen → Gateway.Seen
seen_of nothing = record { scanned = false; booleans = replicate boolean_bytes 0 }
seen_of (remembered booleans) = record { scanned = true; booleans = booleans }

-- every file's pointer, by the number of its captures
unfoldable pub pointers_of : Layout → (ℕ → List (List ℕ)) → List ℕ
pointers_of l lists = tabulate all_files (pointer_of l lists)

unfoldable pub state_of : Machine → State
state_of m = record {
  site = record { archive_length = m.site.archive_length; unit = m.site.unit; day_first = m.site.day_first; firmware = m.site.firmware };
  flags = record { running = m.flags.running; unlocked = m.flags.unlocked; pending = m.flags.pending };
  seen = seen_of m.seen;
  files = record { layout = m.files.laid_out; pointers = pointers_of (layout m) m.files.lists };
  line = record { requested = m.files.requested };
  settings = record { draft = m.settings.drafted; triggers = m.settings.triggers; slots = m.settings.slots };
}

-- ---- archive memory
-- records 1 to k of a file of n records, each the newest capture j with j - k divisible by n, or zeros
unfoldable pub records_of : ℕ → ℕ → List (List ℕ) → ℕ → List ℕ
records_of n size rs zero = []
records_of n size rs (suc k) = records_of n size rs k ++ record_after n size rs (suc k)

-- the first f files in order
unfoldable pub files_of : Layout → (ℕ → List (List ℕ)) → ℕ → List ℕ
files_of l lists zero = []
files_of l lists (suc f) = files_of l lists f ++ records_of (limit_of l f) (size_of l f) (lists f) (limit_of l f)

-- all of them; bytes past the layout are zeros
unfoldable pub laid_out_memory : ℕ → Layout → (ℕ → List (List ℕ)) → List ℕ
laid_out_memory size l lists = files_of l lists all_files ++ replicate (size - layout_size l) 0

abbrev pub memory_of : Machine → List ℕ
memory_of m = laid_out_memory m.site.archive_length (layout m) m.files.lists
