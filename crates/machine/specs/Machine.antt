-- The plain machine: its state, and what each call does to it and is answered. It says what the gateway shall do, with lists of captures in
-- place of rings. Nothing here knows of the gateway's state; of its crate only the rules of firmware are cited. Archive memory is no part
-- of it: View.antt works it out from the lists of captures, so that emptied lists are memory all zeros. Files are counted from 0, as in the
-- archive's Layout.antt; calls name files and slots from 1.
use Rattle.std.specs.Prelude.{Bool, true, false, cond, not, ◌&&◌, ◌||◌, List, [], ◌∷◌, ℕ, ◌-◌, eqb, ltb, length, take, replicate, set}
use Rattle.basics.specs.Card.{Card, card, done_card, done_no, memory_no, foreign_no, table_no, clock_no, file_no, locked_no, trigger_no, running_no, room_no, alarm_no, reply_no}
use Rattle.basics.specs.Lists.{pasted}
use Rattle.basics.specs.Numbers.{within}
use Rattle.modbus.specs.Frame.{good_unit}
use Rattle.points.specs.Table.{table_bytes, boolean_bytes, boolean_or_none}
use Rattle.points.specs.Groups.{judged_card}
use Rattle.records.specs.declared.stamp.Stamp.{Stamp}
use Rattle.records.specs.Stamp.{in_range}
use Rattle.archive.specs.declared.alarms.Slot.{Slot}
use Rattle.archive.specs.declared.layout.Definitions.{Definitions}
use Rattle.archive.specs.Layout.{Layout, layout_of, limit_of, size_of, has_room, defined_files, all_files, idle_files, redefined}
use Rattle.archive.specs.Alarms.{off_slot, slot_count, good_slot}
use Rattle.archive.specs.Booleans.{sight}
use Rattle.archive.specs.Ring.{pointer_after, record_after}
use Rattle.archive.specs.Scan.{list_scanned}
use Rattle.polls.specs.View.{View}
use Rattle.polls.specs.Frames.{reply_to, requested_after}
use Rattle.polls.specs.Lent.{least_buffer}
use Rattle.state.specs.Firmware.{newer_firmware, good_firmware, alarm_depth}

-- ---- State
-- date order, unit and archive length; the firmware, 73 or 74
pub record Site : Type 0 where
  pub day_first : Bool
  pub unit : ℕ
  pub firmware : ℕ
  pub archive_length : ℕ

pub record Flags : Type 0 where
  pub running : Bool
  pub unlocked : Bool
  pub pending : Bool

-- drafted groups and n of files 1-10; ten triggers; 32 alarm slots
pub record Settings : Type 0 where
  pub drafted : Definitions
  pub triggers : List ℕ
  pub slots : List Slot

-- the Booleans of the latest accepted scan, if any
pub data Seen : Type 0 where
  nothing : Seen
  remembered : List ℕ → Seen

-- laid-out groups and n of files 1-10; for each of the 11 files, f < 11 here, a list of captures, newest first, and a requested number
pub record Files : Type 0 where
  pub laid_out : Definitions
  pub lists : ℕ → List (List ℕ)
  pub requested : List ℕ

pub record Machine : Type 0 where
  pub site : Site
  pub flags : Flags
  pub settings : Settings
  pub seen : Seen
  pub files : Files

-- ---- Fresh: all flags off, files idle, triggers and slots 0, lists empty, requested 0. Date order, unit, firmware and archive length are
-- fixed here
abbrev pub emptied : Definitions → Files
emptied definitions = record { laid_out = definitions; lists = λ f. []; requested = replicate all_files 0 }

unfoldable pub fresh : Bool → ℕ → ℕ → ℕ → Machine
fresh day_first unit firmware archive_length = record {
  site = record { day_first = day_first; unit = unit; firmware = firmware; archive_length = archive_length };
  flags = record { running = false; unlocked = false; pending = false };
  settings = record { drafted = idle_files; triggers = replicate defined_files 0; slots = replicate slot_count off_slot };
  seen = nothing;
  files = emptied idle_files;
}

-- ---- Calls: what each is given, except state and archive memory. Numbers may be any; from C an n has 16 bits, and a definition 32 numbers
pub data Call : Type 0 where
  unlock : Call
  lock : Call
  stop : Call
  -- file, its 32 numbers of groups, n
  define : ℕ → List ℕ → ℕ → Call
  start : Call
  -- file, point
  trigger : ℕ → ℕ → Call
  -- slot, point, type, transducer's point
  alarm : ℕ → ℕ → ℕ → ℕ → Call
  -- live table, stamp
  scan : List ℕ → Stamp → Call
  -- live table, frame, reply buffer
  poll : List ℕ → List ℕ → List ℕ → Call

-- ---- Layout: files 1 to 10 in order, then the alarm file, of as many records as the site's firmware has; of the drafted and of the
-- laid-out definitions
abbrev pub depth_of : Site → ℕ
depth_of site = alarm_depth site.firmware

abbrev pub draft_of : Machine → Layout
draft_of m = layout_of m.settings.drafted (depth_of m.site)

abbrev pub layout : Machine → Layout
layout m = layout_of m.files.laid_out (depth_of m.site)

-- a file's pointer by the number of its captures, and record k by the list of them
abbrev pub pointer_of : Layout → (ℕ → List (List ℕ)) → ℕ → ℕ
pointer_of l lists f = pointer_after (limit_of l f) (length (lists f))

abbrev pub record_now : Layout → (ℕ → List (List ℕ)) → ℕ → ℕ → List ℕ
record_now l lists f k = record_after (limit_of l f) (size_of l f) (lists f) k

-- what a poll sees: reads use the layout, never the draft; live points are read from the table that the poll is lent
unfoldable pub view_of : Machine → List ℕ → View
view_of m table = record {
  unit = m.site.unit;
  limit = limit_of (layout m);
  pointer = pointer_of (layout m) m.files.lists;
  requested = m.files.requested;
  reads = record_now (layout m) m.files.lists;
  table = table;
}

-- ---- what each call does where the service card does not refuse it
abbrev pub with_flags : Machine → Bool → Bool → Bool → Machine
with_flags m running unlocked pending = record {
  site = m.site;
  flags = record { running = running; unlocked = unlocked; pending = pending };
  settings = m.settings;
  seen = m.seen;
  files = m.files;
}

abbrev pub with_settings : Machine → Definitions → List ℕ → List Slot → Machine
with_settings m drafted triggers slots = record {
  site = m.site;
  flags = m.flags;
  settings = record { drafted = drafted; triggers = triggers; slots = slots };
  seen = m.seen;
  files = m.files;
}

-- Start, if pending: draft becomes layout, every list is emptied, every requested number 0, pending off; running on, unlocked off
abbrev pub restarted : Machine → Machine
restarted m = record {
  site = m.site;
  flags = record { running = true; unlocked = false; pending = false };
  settings = m.settings;
  seen = m.seen;
  files = emptied m.settings.drafted;
}

-- Scan: the first accepted scan only remembers its Booleans. A later one, if running, appends to each file with n > 0 whose trigger
-- went 0 to 1 a record of this scan's table and stamp, and slots log to the alarm file, cleared before raised (the archive's Captures.antt
-- and Alarms.antt)
abbrev pub lists_after : Machine → Seen → List ℕ → Stamp → ℕ → List (List ℕ)
lists_after m nothing table stamp f = m.files.lists f
lists_after m (remembered before) table stamp f =
    let sees = sight before table stamp m.site.day_first in
    cond m.flags.running
    (list_scanned sees (layout m) m.settings.triggers m.settings.slots m.files.lists f)
    (m.files.lists f)

-- running or not, the Booleans are then remembered
abbrev pub scanned : Machine → List ℕ → Stamp → Machine
scanned m table stamp = record {
  site = m.site;
  flags = m.flags;
  settings = m.settings;
  seen = remembered (take boolean_bytes table);
  files = record { laid_out = m.files.laid_out; lists = lists_after m m.seen table stamp; requested = m.files.requested };
}

abbrev pub with_requested : Machine → List ℕ → Machine
with_requested m requested = record {
  site = m.site;
  flags = m.flags;
  settings = m.settings;
  seen = m.seen;
  files = record { laid_out = m.files.laid_out; lists = m.files.lists; requested = requested };
}

unfoldable pub does : Machine → Call → Machine
-- Unlock: unlocked and pending on
does m unlock = with_flags m m.flags.running true true
-- Lock: unlocked off
does m lock = with_flags m m.flags.running false m.flags.pending
-- Stop: running off
does m stop = with_flags m false m.flags.unlocked m.flags.pending
-- Define: replaces one file's draft
does m (define f gs n) = with_settings m (redefined m.settings.drafted (f - 1) gs n) m.settings.triggers m.settings.slots
-- Start: running on, unlocked off, and more if pending
does m start = cond m.flags.pending (restarted m) (with_flags m true false m.flags.pending)
-- Trigger (0 = none) and alarm settings act any time and empty nothing
does m (trigger f p) = with_settings m m.settings.drafted (set m.settings.triggers (f - 1) p) m.settings.slots
does m (alarm k point type transducer) =
    let slot : Slot = record { point = point; transducer = transducer; kind = type } in
    with_settings m m.settings.drafted m.settings.triggers (set m.settings.slots (k - 1) slot)
does m (scan table stamp) = scanned m table stamp
-- a frame: only a 06 changes anything, a requested number
does m (poll table frame buffer) = with_requested m (requested_after (view_of m table) frame)

-- ---- the service card, judged by the machine's own state: the lowest number that applies, with what it carries, or done. Memory (1) and
-- Foreign (2) apply to Fresh alone, as the machine keeps its own state and archive memory

-- Fresh's least archive length, by firmware: under 3,300 for 73 and under 11,000 for 74 is Memory, in plain numbers (Runs.antt,
-- `FreshAnswers`, compares them with the gateway's, which are worked out from the alarm file)
abbrev pub least_archive : ℕ → ℕ
least_archive firmware = cond (ltb firmware newer_firmware) 3300 11000

abbrev pub most_archive : ℕ
most_archive = 1048576

-- Fresh: firmware neither 73 nor 74, the one check before Memory, though its number is the higher; archive length under the least or over
-- 1,048,576; unit not 1-247
unfoldable pub fresh_card : ℕ → ℕ → ℕ → Card
fresh_card unit firmware archive_length =
    cond (not (good_firmware firmware)) (card foreign_no 0)
    (cond (not (within (least_archive firmware) most_archive archive_length)) (card memory_no 0)
    (cond (not (good_unit unit)) (card foreign_no 0)
    done_card))

-- the drafted layout does not exceed archive memory
abbrev pub draft_fits : Machine → Bool
draft_fits m = has_room (draft_of m) m.site.archive_length

unfoldable pub card_for : Machine → Call → Card
card_for m unlock = cond m.flags.running (card running_no 0) done_card
card_for m lock = done_card
card_for m stop = done_card
card_for m (define f gs n) =
    cond (not (within 1 defined_files f)) (card file_no 0)
    (cond (not m.flags.unlocked) (card locked_no 0)
    (judged_card gs))
card_for m start = cond (m.flags.pending && not (draft_fits m)) (card room_no 0) done_card
card_for m (trigger f p) =
    cond (not (within 1 defined_files f)) (card file_no 0)
    (cond (not (boolean_or_none p)) (card trigger_no 0)
    done_card)
card_for m (alarm k point type transducer) =
    cond (not (within 1 slot_count k) || not (good_slot point type transducer)) (card alarm_no 0) done_card
card_for m (scan table stamp) =
    cond (not (eqb (length table) table_bytes)) (card table_no 0)
    (cond (not (in_range stamp)) (card clock_no 0)
    done_card)
card_for m (poll table frame buffer) =
    cond (not (eqb (length table) table_bytes)) (card table_no 0)
    (cond (ltb (length buffer) least_buffer) (card reply_no 0)
    done_card)

-- a call that the service card refuses changes nothing
unfoldable pub step : Machine → Call → Machine
step m c = cond (eqb (card_for m c).number done_no) (does m c) m

-- ---- what is compared of a call: its answer, done or the number, with what it carries; of a poll the number, the reply's length, and its
-- bytes with the rest of the reply buffer
pub data Outcome : Type 0 where
  answered : Card → Outcome
  replied : ℕ → ℕ → List ℕ → Outcome

-- a reply stands at the start of the buffer, with the rest as lent; a poll that is refused has none
unfoldable pub outcome : Machine → Call → Outcome
outcome m unlock = answered (card_for m unlock)
outcome m lock = answered (card_for m lock)
outcome m stop = answered (card_for m stop)
outcome m (define f gs n) = answered (card_for m (define f gs n))
outcome m start = answered (card_for m start)
outcome m (trigger f p) = answered (card_for m (trigger f p))
outcome m (alarm k point type transducer) = answered (card_for m (alarm k point type transducer))
outcome m (scan table stamp) = answered (card_for m (scan table stamp))
outcome m (poll table frame buffer) =
    let number = (card_for m (poll table frame buffer)).number in
    let reply = reply_to (view_of m table) frame in
    cond (eqb number done_no) (replied done_no (length reply) (pasted buffer 0 reply)) (replied number 0 buffer)

-- ---- a whole list
abbrev pub outcomes : Machine → List Call → List Outcome
outcomes m [] = []
outcomes m (c ∷ cs) = outcome m c ∷ outcomes (step m c) cs

abbrev pub after : Machine → List Call → Machine
after m [] = m
after m (c ∷ cs) = after (step m c) cs
