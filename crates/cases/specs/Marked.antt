-- The marked cases, inputs with what the rules give for them, as one list, with cases of the calendar, of clean text and of both firmwares.
-- proofs/Check.antt computes them all at once.
use Rattle.std.specs.Prelude.{Option, Some, None, List, [], ◌∷◌, ◌++◌, Bool, true, false, ◌&&◌, ℕ, zero, suc, ◌+◌, ◌-◌, ℤ, pos, negsuc, length, get_or, take, replicate}
use Rattle.basics.specs.Lists.{tabulate, same}
use Rattle.points.specs.declared.table.Row.{Row}
use Rattle.points.specs.Table.{table_bytes, row_of}
use Rattle.basics.specs.Card.{Card, done_no, memory_no, foreign_no, clock_no, group_no, long_no, garbled_no, empty_no}
use Rattle.modbus.specs.Word.{word_bytes}
use Rattle.modbus.specs.Crc.{with_crc}
use Rattle.modbus.specs.Frame.{read_reply}
use Rattle.points.specs.Groups.{group_of, record_size, judged_card}
use Rattle.records.specs.declared.stamp.Stamp.{Stamp}
use Rattle.records.specs.Stamp.{stamp_bytes}
use Rattle.records.specs.Capture.{captured_group}
use Rattle.records.specs.Value.{PointValue, flag, int16, int32, float, text, value_in_table}
use Rattle.reader.specs.Answers.{record_answer, point_value, point_answer}
use Rattle.archive.specs.Ring.{ring, captured_all, pointer_after, record_after}
use Rattle.state.specs.declared.parts.State.{State}
use Rattle.gateway.specs.declared.calls.Answer.{Answer}
use Rattle.state.specs.State.{fresh_state, with_scan, with_requested}
use Rattle.gateway.specs.Calls.{fresh_answer, unlock_answer, lock_answer, trigger_answer, define_answer, start_answer}
use Rattle.gateway.specs.Scan.{scan_answer, scan_memory}
use Rattle.gateway.specs.Poll.{poll_buffer}

-- what the definitions give, and what the rules say
pub record Case : Type 0 where
  pub given : List ℕ
  pub stated : List ℕ

abbrev pub ◌gives◌ : List ℕ → List ℕ → Case
given gives stated = record { given = given; stated = stated }

infix 80 ◌gives◌
-- ---- how a case is put as numbers
-- a definition with these groups at its first places, the others unused
abbrev groups : List ℕ → List ℕ
groups gs = gs ++ replicate (32 - length gs) 0

-- a definition judged: the card's number and what it carries, and its record's size
abbrev shown : Card → List ℕ
shown c = c.number ∷ c.carried ∷ []

abbrev card_shown : List ℕ → List ℕ
card_shown gs = shown (judged_card (groups gs))

abbrev bytes : List ℕ → List ℕ
bytes gs = record_size (groups gs) ∷ []

-- 29 August 2007 11:36:52
abbrev august : Stamp
august = record { month = 8; day = 29; year = 7; hour = 11; minute = 36; second = 52 }

-- a live table of zeros, but for some bytes from place i on
abbrev table_with : ℕ → List ℕ → List ℕ
table_with i bs = replicate i 0 ++ (bs ++ replicate (table_bytes - (i + length bs)) 0)

-- what a group of a table captures
abbrev group_bytes : List ℕ → ℕ → ℕ → List ℕ
group_bytes table p n = captured_group table (group_of p n)

-- a whole number: 0 and its size, or 1 and its size where it is below 0
abbrev shown_number : ℤ → List ℕ
shown_number (pos n) = 0 ∷ n ∷ []
shown_number (negsuc n) = 1 ∷ suc n ∷ []

-- a 16-bit value, or a text; anything else shows as nothing
abbrev shown_value : PointValue → List ℕ
shown_value (flag b) = []
shown_value (int16 z) = shown_number z
shown_value (int32 z) = []
shown_value (float x) = []
shown_value (text bs) = bs

abbrev value_in : Option Row → List ℕ → ℕ → List ℕ
value_in None table p = []
value_in (Some r) table p = shown_value (value_in_table table r p)

-- the number that Fresh answers: a unit, a firmware and a length of memory
abbrev fresh_told : ℕ → ℕ → ℕ → List ℕ
fresh_told unit firmware size = (fresh_answer false unit firmware size).number ∷ []

-- the number that Lock answers to a state over memory of some length
abbrev lock_told : State → ℕ → List ℕ
lock_told s size = (lock_answer s size).number ∷ []

-- a state as Fresh leaves it for unit 1, but of any firmware and length of memory
abbrev stored : ℕ → ℕ → State
stored firmware size = fresh_state false 1 firmware size

-- what Lock answers to such a state with a pointer or a requested number of the alarm file
abbrev pointer_told : ℕ → ℕ → ℕ → List ℕ
pointer_told firmware size pointer =
    lock_told (with_scan (stored firmware size) (replicate 10 0 ++ (pointer ∷ [])) (replicate 16 0)) size

abbrev requested_told : ℕ → ℕ → ℕ → List ℕ
requested_told firmware size number = lock_told (with_requested (stored firmware size) (replicate 10 0 ++ (number ∷ []))) size

-- fresh for unit 1 and a firmware, unlocked, file 1 defined as one record of these groups, then started: what Start answers
abbrev started : ℕ → ℕ → List ℕ → Answer
started firmware size gs =
    let fresh = (fresh_answer false 1 firmware size).state in
    let unlocked = (unlock_answer fresh size).state in
    start_answer (define_answer unlocked size 1 (groups gs) 1).state size

abbrev one_bare_stamp : ℕ → ℕ → List ℕ
one_bare_stamp firmware size = (started firmware size []).number ∷ []

-- the first n bytes of the reply to 03 on 731 for an alarm record with this number, zeros in memory
abbrev alarm_replied : ℕ → ℕ → ℕ → ℕ → List ℕ
alarm_replied firmware size k n =
    let frame = with_crc (0x01 ∷ 0x03 ∷ 0x02 ∷ 0xDB ∷ word_bytes k) in
    take n (poll_buffer (started firmware size []).state (replicate size 0) (table_with 0 []) frame (replicate 256 0))

-- captures 1 to c of one byte each, its own number, the newest first
abbrev numbered : ℕ → List (List ℕ)
numbered zero = []
numbered (suc c) = (suc c ∷ []) ∷ numbered c

-- pointer and records of an empty file of n such records after c captures, one by one; and by the formulas for a list of captures
abbrev captures : ℕ → ℕ → List ℕ
captures n c = let after = captured_all 0 1 n (ring 0 (replicate n 0)) (numbered c) in after.pointer ∷ after.memory

abbrev formulas : ℕ → ℕ → List ℕ
formulas n c = pointer_after n c ∷ tabulate n (λ i. get_or (record_after n 1 (numbered c) (i + 1)) 0 0)

-- file 1 of one bare stamp with trigger 1801, started
abbrev watching : State
watching = (trigger_answer (started 74 11006 []).state 11006 1 1801).state

abbrev nothing : List ℕ
nothing = replicate 11006 0

-- two scans one after the other: the number of each, then file 1's pointer and its record
abbrev two_scans : List ℕ → List ℕ → List ℕ
two_scans first second =
    let one = scan_answer watching nothing first august in
    let left = scan_memory watching nothing first august in
    let two = scan_answer one.state left second august in
    one.number ∷ two.number ∷ get_or two.state.files.pointers 0 0 ∷ take 6 (scan_memory one.state left second august)

abbrev flag_off : List ℕ
flag_off = table_with 0 []

abbrev flag_on : List ℕ
flag_on = table_with 0 (0x01 ∷ [])

-- the number that the reading end answers to the reply that carries a bare stamp of these bytes
abbrev read_as : Bool → List ℕ → ℕ
read_as day_first stamp = (record_answer (groups []) day_first (read_reply 1 stamp)).number

-- a day, a month and a year: the number that a scan answers, and the reading end, month first and day first
abbrev dated : ℕ → ℕ → ℕ → List ℕ
dated day month year =
    let midnight : Stamp = record { month = month; day = day; year = year; hour = 0; minute = 0; second = 0 } in
    (scan_answer watching nothing flag_off midnight).number
    ∷ read_as false (stamp_bytes false midnight) ∷ read_as true (stamp_bytes true midnight) ∷ []

abbrev taken : List ℕ
taken = done_no ∷ done_no ∷ done_no ∷ []

abbrev impossible : List ℕ
impossible = clock_no ∷ garbled_no ∷ garbled_no ∷ []

-- n bytes from b on
abbrev bytes_from : ℕ → ℕ → List ℕ
bytes_from b n = tabulate n (λ i. b + i)

-- all 256, and what they are captured as in a text
abbrev every_byte : List ℕ
every_byte = bytes_from 0x00 256

abbrev every_clean : List ℕ
every_clean = 0x00 ∷ replicate 31 0x3F ++ (bytes_from 0x20 95 ++ replicate 129 0x3F)

-- the reply to 03 on 721 for record 1, where file 1 is of a text of 8 and this is what lies in archive memory at the record's place
abbrev replied : List ℕ → List ℕ
replied kept =
    let frame = with_crc (0x01 ∷ 0x03 ∷ 0x02 ∷ 0xD1 ∷ 0x00 ∷ 0x01 ∷ []) in
    take (14 + 5) (poll_buffer (started 74 11014 (4001 ∷ 1 ∷ [])).state (kept ++ replicate 11000 0) flag_off frame (replicate 256 0))

-- what the reading end makes of such a reply's text: the number, the kind, the text's place and its length
abbrev text_told : List ℕ → List ℕ
text_told frame =
    let told = point_answer (point_value (groups (4001 ∷ 1 ∷ [])) false frame 1 1) in
    told.number ∷ told.kind ∷ told.place ∷ told.length ∷ []

-- a record as it was captured when texts were not cleaned yet, 57 1F 20 7E 7F 80 00 FF hex at 4001, and the reply that has it
abbrev old_record : List ℕ
old_record = 0x08 ∷ 0x1D ∷ 0x07 ∷ 0x0B ∷ 0x24 ∷ 0x34 ∷ 0x57 ∷ 0x1F ∷ 0x20 ∷ 0x7E ∷ 0x7F ∷ 0x80 ∷ 0x00 ∷ 0xFF ∷ []

abbrev old_reply : List ℕ
old_reply = 0x01 ∷ 0x03 ∷ 0x0E ∷ 0x08 ∷ 0x1D ∷ 0x07 ∷ 0x0B ∷ 0x24 ∷ 0x34 ∷ 0x57 ∷ 0x1F ∷ 0x20 ∷ 0x7E ∷ 0x7F ∷ 0x80 ∷ 0x00 ∷ 0xFF ∷ 0xE0 ∷ 0x9C ∷ []

-- ---- the cases
unfoldable pub marked : List Case
marked =
    -- 29 August 2007 11:36:52: 08 1D 07 0B 24 34 hex; day first: 1D 08 07 0B 24 34 (the Omni bulletin's)
    stamp_bytes false august gives (0x08 ∷ 0x1D ∷ 0x07 ∷ 0x0B ∷ 0x24 ∷ 0x34 ∷ [])
    ∷ stamp_bytes true august gives (0x1D ∷ 0x08 ∷ 0x07 ∷ 0x0B ∷ 0x24 ∷ 0x34 ∷ [])
    -- Groups (7101,3), (5101,3): 30 bytes (the Omni bulletin's example)
    ∷ bytes (7101 ∷ 3 ∷ 5101 ∷ 3 ∷ []) gives (30 ∷ [])
    ∷ card_shown (7101 ∷ 3 ∷ 5101 ∷ 3 ∷ []) gives (done_no ∷ 0 ∷ [])
    -- (7101,61): 250, taken; with (3001,1) besides, 252: 8
    ∷ bytes (7101 ∷ 61 ∷ []) gives (250 ∷ [])
    ∷ card_shown (7101 ∷ 61 ∷ []) gives (done_no ∷ 0 ∷ [])
    ∷ bytes (7101 ∷ 61 ∷ 3001 ∷ 1 ∷ []) gives (252 ∷ [])
    ∷ card_shown (7101 ∷ 61 ∷ 3001 ∷ 1 ∷ []) gives (long_no ∷ 0 ∷ [])
    -- (7228,1) taken; (7228,2): 7
    ∷ card_shown (7228 ∷ 1 ∷ []) gives (done_no ∷ 0 ∷ [])
    ∷ card_shown (7228 ∷ 2 ∷ []) gives (group_no ∷ 1 ∷ [])
    -- (1801,9), only 1801 and 1809 on: 01 01 hex
    ∷ group_bytes (table_with 0 (0x01 ∷ 0x01 ∷ [])) 1801 9 gives (0x01 ∷ 0x01 ∷ [])
    -- Value -5 at 3001: FF FB hex
    ∷ value_in (row_of 3001) (table_with 16 (0xFF ∷ 0xFB ∷ [])) 3001 gives shown_number (negsuc 4)
    ∷ group_bytes (table_with 16 (0xFF ∷ 0xFB ∷ [])) 3001 1 gives (0xFF ∷ 0xFB ∷ [])
    -- Memory 11,006: one file of one bare stamp starts; 11,005: 11 (for firmware 74)
    ∷ one_bare_stamp 74 11006 gives (0 ∷ [])
    ∷ one_bare_stamp 74 11005 gives (11 ∷ [])
    -- n = 4, c = 5: pointer 1, record 1 is capture 5, record 2 capture 2. c = 4: pointer 4
    ∷ captures 4 5 gives (1 ∷ 5 ∷ 2 ∷ 3 ∷ 4 ∷ [])
    ∷ formulas 4 5 gives (1 ∷ 5 ∷ 2 ∷ 3 ∷ 4 ∷ [])
    ∷ captures 4 4 gives (4 ∷ 1 ∷ 2 ∷ 3 ∷ 4 ∷ [])
    ∷ formulas 4 4 gives (4 ∷ 1 ∷ 2 ∷ 3 ∷ 4 ∷ [])
    -- n = 1, c = 7: pointer 1
    ∷ captures 1 7 gives (1 ∷ 7 ∷ [])
    ∷ formulas 1 7 gives (1 ∷ 7 ∷ [])
    -- a trigger on in the first scan: no record, nor while it stays on; one that rises in the second has one
    ∷ two_scans flag_on flag_off gives (0 ∷ 0 ∷ 0 ∷ 0 ∷ 0 ∷ 0 ∷ 0 ∷ 0 ∷ 0 ∷ [])
    ∷ two_scans flag_on flag_on gives (0 ∷ 0 ∷ 0 ∷ 0 ∷ 0 ∷ 0 ∷ 0 ∷ 0 ∷ 0 ∷ [])
    ∷ two_scans flag_off flag_on gives (0 ∷ 0 ∷ 1 ∷ 0x08 ∷ 0x1D ∷ 0x07 ∷ 0x0B ∷ 0x24 ∷ 0x34 ∷ [])
    -- a day must exist in its month: 29 February 2024 and 2000 are taken, 2023 is refused; 30 February and 31 April are refused,
    -- 31 December is taken
    ∷ dated 29 2 24 gives taken
    ∷ dated 29 2 23 gives impossible
    ∷ dated 29 2 0 gives taken
    ∷ dated 30 2 24 gives impossible
    ∷ dated 31 4 24 gives impossible
    ∷ dated 31 12 24 gives taken
    -- and a record of zeros stays Empty
    ∷ (read_as false (replicate 6 0) ∷ []) gives (empty_no ∷ [])
    -- clean text: all 256 bytes in each text row, and in the rows of numbers, where they stay
    ∷ group_bytes (table_with 144 every_byte) 4001 32 gives every_clean
    ∷ group_bytes (table_with 1168 every_byte) 14001 16 gives every_clean
    ∷ group_bytes (table_with 16 (bytes_from 0x00 128)) 3001 64 gives bytes_from 0x00 128
    ∷ group_bytes (table_with 16 (bytes_from 0x80 128)) 3001 64 gives bytes_from 0x80 128
    ∷ group_bytes (table_with 400 every_byte) 5101 64 gives every_byte
    ∷ group_bytes (table_with 656 every_byte) 7101 64 gives every_byte
    -- a byte is judged by itself: "Jürgen" in UTF-8, with two bytes for the second letter
    ∷ group_bytes (table_with 144 (0x4A ∷ 0xC3 ∷ 0xBC ∷ 0x72 ∷ 0x67 ∷ 0x65 ∷ 0x6E ∷ 0x00 ∷ [])) 4001 1
    gives (0x4A ∷ 0x3F ∷ 0x3F ∷ 0x72 ∷ 0x67 ∷ 0x65 ∷ 0x6E ∷ 0x00 ∷ [])
    -- the value that a text is captured with is the cleaned one
    ∷ value_in (row_of 4032) (table_with 392 (0x57 ∷ 0x1F ∷ 0x20 ∷ 0x7E ∷ 0x7F ∷ 0x80 ∷ 0x00 ∷ 0xFF ∷ [])) 4032
    gives (0x57 ∷ 0x3F ∷ 0x20 ∷ 0x7E ∷ 0x3F ∷ 0x3F ∷ 0x00 ∷ 0x3F ∷ [])
    ∷ value_in (row_of 14016) (table_with 1408 (bytes_from 0x77 16)) 14016 gives (bytes_from 0x77 8 ++ replicate 8 0x3F)
    -- what lies in archive memory is served as it is, and read as it stands
    ∷ replied old_record gives old_reply
    ∷ text_told old_reply gives (done_no ∷ 5 ∷ 9 ∷ 8 ∷ [])
    -- memory 3,306 and 3,305 for firmware 73, whose alarm file has 150 records
    ∷ one_bare_stamp 73 3306 gives (0 ∷ [])
    ∷ one_bare_stamp 73 3305 gives (11 ∷ [])
    -- Fresh: firmware, then memory, then unit; 329 is 73 + 256, 65,609 is 73 + 65,536
    ∷ fresh_told 1 72 0 gives (foreign_no ∷ [])
    ∷ fresh_told 1 75 11000 gives (foreign_no ∷ [])
    ∷ fresh_told 1 329 11000 gives (foreign_no ∷ [])
    ∷ fresh_told 1 65609 11000 gives (foreign_no ∷ [])
    ∷ fresh_told 0 73 0 gives (memory_no ∷ [])
    ∷ fresh_told 0 73 3299 gives (memory_no ∷ [])
    ∷ fresh_told 0 73 3300 gives (foreign_no ∷ [])
    ∷ fresh_told 1 73 3300 gives (done_no ∷ [])
    ∷ fresh_told 1 74 10999 gives (memory_no ∷ [])
    ∷ fresh_told 1 74 11000 gives (done_no ∷ [])
    ∷ fresh_told 247 73 1048576 gives (done_no ∷ [])
    ∷ fresh_told 1 73 1048577 gives (memory_no ∷ [])
    ∷ fresh_told 248 74 1048577 gives (memory_no ∷ [])
    -- a state of another firmware is Foreign, and over memory of another length the lower Memory; 74's alarm file does not fit 3,300 bytes
    ∷ lock_told (stored 74 11000) 11000 gives (done_no ∷ [])
    ∷ lock_told (stored 73 3300) 3300 gives (done_no ∷ [])
    ∷ lock_told (stored 72 11000) 11000 gives (foreign_no ∷ [])
    ∷ lock_told (stored 75 11000) 11000 gives (foreign_no ∷ [])
    ∷ lock_told (stored 329 11000) 11000 gives (foreign_no ∷ [])
    ∷ lock_told (stored 75 11000) 10999 gives (memory_no ∷ [])
    ∷ lock_told (stored 74 3300) 3300 gives (foreign_no ∷ [])
    -- pointer and requested number by the state's depth
    ∷ pointer_told 73 11000 150 gives (done_no ∷ [])
    ∷ pointer_told 73 11000 151 gives (foreign_no ∷ [])
    ∷ pointer_told 74 11000 500 gives (done_no ∷ [])
    ∷ pointer_told 74 11000 501 gives (foreign_no ∷ [])
    ∷ requested_told 73 11000 150 gives (done_no ∷ [])
    ∷ requested_told 73 11000 151 gives (foreign_no ∷ [])
    ∷ requested_told 74 11000 500 gives (done_no ∷ [])
    ∷ requested_told 74 11000 501 gives (foreign_no ∷ [])
    -- an old driver reads to the end: record 150 is 22 bytes, 151 exception 03; for 74 that is 500 and 501
    ∷ alarm_replied 73 3306 150 4 gives (0x01 ∷ 0x03 ∷ 0x16 ∷ 0x00 ∷ [])
    ∷ alarm_replied 73 3306 151 5 gives (0x01 ∷ 0x83 ∷ 0x03 ∷ 0x01 ∷ 0x31 ∷ [])
    ∷ alarm_replied 74 11006 151 4 gives (0x01 ∷ 0x03 ∷ 0x16 ∷ 0x00 ∷ [])
    ∷ alarm_replied 74 11006 500 4 gives (0x01 ∷ 0x03 ∷ 0x16 ∷ 0x00 ∷ [])
    ∷ alarm_replied 74 11006 501 5 gives (0x01 ∷ 0x83 ∷ 0x03 ∷ 0x01 ∷ 0x31 ∷ [])
    ∷ []

-- ---- the check
abbrev pub all_hold : List Case → Bool
all_hold [] = true
all_hold (c ∷ cs) = same c.given c.stated && all_hold cs
