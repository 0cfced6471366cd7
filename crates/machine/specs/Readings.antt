-- What is read at the end of a list of calls: the formulas for the pointer and for record k in plain arithmetic, the other things compared,
-- the alarm file's depth, and the reply to a poll of a whole record. M is the machine after the list; a file's captures are those since it
-- was last emptied.
use Rattle.std.specs.Prelude.{◌≡◌, List, [], ◌⊎◌, Bool, true, false, ℕ, ◌+◌, ◌-◌, ◌*◌, ◌%◌, ◌≤◌, ◌<◌, length, get_or, drop, replicate}
use Rattle.basics.specs.Card.{done_no}
use Rattle.basics.specs.Lists.{pasted, all_zero}
use Rattle.basics.specs.Numbers.{within}
use Rattle.modbus.specs.Frame.{unit_of, function_of, address_of, quantity_of, read_reply, exception_reply, illegal_value}
use Rattle.points.specs.Table.{table_bytes}
use Rattle.archive.specs.Layout.{limit_of, size_of, base_of, layout_size, all_files, alarm_file}
use Rattle.archive.specs.Ring.{record_in}
use Rattle.polls.specs.Frames.{is_heard}
use Rattle.polls.specs.Lent.{least_buffer}
use Rattle.state.specs.declared.parts.State.{State}
use Rattle.state.specs.Firmware.{older_firmware, alarm_depth}
use Rattle.state.specs.State.{laid_out}
use Rattle.machine.specs.Machine.{Machine, layout, fresh, Call, poll, Outcome, replied, after}
use Rattle.machine.specs.Runs.{Meets, Ran}

-- ---- the pointer is 0 if c = 0, otherwise 1 + (c - 1) mod n
pub record PointsTo (n c pointer : ℕ) : Type 0 where
  pub none : c ≡ 0 → pointer ≡ 0
  pub some : 1 ≤ c → pointer ≡ 1 + (c - 1) % n

-- ---- record k reads as capture j, the greatest j from 1 to c with j - k divisible by n, or as zeros if there is none
-- capture j of c, the oldest number 1, of a list that has the newest first; alarms of one scan are counted cleared before raised
abbrev pub capture_number : List (List ℕ) → ℕ → List ℕ
capture_number rs j = get_or rs (length rs - j) []

-- j - k is divisible by n, as whole numbers: j is k plus so many n, or k is j plus so many
abbrev pub Divisible : ℕ → ℕ → ℕ → Type 0
Divisible n j k = (q : ℕ) × ((j ≡ k + q * n) ⊎ (k ≡ j + q * n))

pub record Greatest (n c k j : ℕ) : Type 0 where
  pub first : 1 ≤ j
  pub last : j ≤ c
  pub divisible : Divisible n j k
  pub greatest : (i : ℕ) → 1 ≤ i → i ≤ c → Divisible n i k → i ≤ j

pub data ReadsAs (n size : ℕ) (rs : List (List ℕ)) (k : ℕ) (bytes : List ℕ) : Type 0 where
  capture : (j : ℕ) → Greatest n (length rs) k j → bytes ≡ capture_number rs j → ReadsAs n size rs k bytes
  zeros : ((j : ℕ) → 1 ≤ j → j ≤ length rs → Divisible n j k → ⊥) → bytes ≡ replicate size 0 → ReadsAs n size rs k bytes

-- ---- what is compared after the list
-- the bytes at record k's place in archive memory
abbrev pub record_bytes : State → List ℕ → ℕ → ℕ → List ℕ
record_bytes s m f k = let l = laid_out s in record_in m (base_of l f) (size_of l f) k

-- a file's laid-out n, its pointer and requested number, and its records 1 to n
pub record FileReads (M : Machine) (s : State) (m : List ℕ) (f : ℕ) : Type 0 where
  pub limit : limit_of (laid_out s) f ≡ limit_of (layout M) f
  pub pointer : PointsTo (limit_of (laid_out s) f) (length (M.files.lists f)) (get_or s.files.pointers f 0)
  pub requested : get_or s.line.requested f 0 ≡ get_or M.files.requested f 0
  pub reads : (k : ℕ) → 1 ≤ k → k ≤ limit_of (laid_out s) f →
      ReadsAs (limit_of (laid_out s) f) (size_of (laid_out s) f) (M.files.lists f) k (record_bytes s m f k)

-- the three flags, every file, and the bytes of archive memory past the layout, which are zeros
pub record EndReads (M : Machine) (s : State) (m : List ℕ) : Type 0 where
  pub running : s.flags.running ≡ M.flags.running
  pub unlocked : s.flags.unlocked ≡ M.flags.unlocked
  pub pending : s.flags.pending ≡ M.flags.pending
  pub files : (f : ℕ) → f < all_files → FileReads M s m f
  pub beyond : all_zero (drop (layout_size (laid_out s)) m) ≡ true

-- after any list
abbrev pub EndsAsRead : Type 0
EndsAsRead =
    (day_first : Bool) (unit firmware : ℕ) (m₀ : List ℕ) (cs : List Call) (os : List Outcome) (s : State) (m : List ℕ) →
    Ran day_first unit firmware m₀ cs os s m → EndReads (after (fresh day_first unit firmware (length m₀)) cs) s m

-- ---- after any list the alarm file has as many records as the firmware that Fresh was given has, 150 with 73 and 500 with 74
abbrev pub DepthKept : Type 0
DepthKept =
    (day_first : Bool) (unit firmware : ℕ) (m₀ : List ℕ) (cs : List Call) (os : List Outcome) (s : State) (m : List ℕ) →
    Ran day_first unit firmware m₀ cs os s m → limit_of (laid_out s) alarm_file ≡ alarm_depth firmware

-- ---- a 03 for the whole record replies with the same bytes
-- a 03 of 8 bytes to this unit that is heard, with this address and quantity
pub record Read (unit address quantity : ℕ) (frame : List ℕ) : Type 0 where
  pub heard : is_heard frame ≡ true
  pub long : length frame ≡ 8
  pub ours : unit_of frame ≡ unit
  pub reads : function_of frame ≡ 3
  pub at : address_of frame ≡ address
  pub asks : quantity_of frame ≡ quantity

-- for record k of file f, counted from 0 here, by both ways: on 720+f with quantity k, and on 700+f while k is requested
pub data ReadsRecord (unit : ℕ) (requested : List ℕ) (f k : ℕ) (frame : List ℕ) : Type 0 where
  by_quantity : Read unit (720 + (f + 1)) k frame → ReadsRecord unit requested f k frame
  by_requested : (q : ℕ) → get_or requested f 0 ≡ k → Read unit (700 + (f + 1)) q frame → ReadsRecord unit requested f k frame

-- such a poll over state s and archive memory m, with a live table of 1,424 bytes and a reply buffer that is not under 256, and its outcome
pub record NumberPolled (unit : ℕ) (s : State) (m : List ℕ) (f k : ℕ) (buffer : List ℕ) (o : Outcome) : Type 0 where
  pub table : List ℕ
  pub frame : List ℕ
  pub asks : ReadsRecord unit s.line.requested f k frame
  pub whole : length table ≡ table_bytes
  pub room : least_buffer ≤ length buffer
  pub state : State
  pub memory : List ℕ
  pub met : Meets s m (poll table frame buffer) o state memory

-- with k one of 1..n
pub record RecordPolled (unit : ℕ) (s : State) (m : List ℕ) (f k : ℕ) (buffer : List ℕ) (o : Outcome) : Type 0 where
  pub by : NumberPolled unit s m f k buffer o
  pub first : 1 ≤ k
  pub last : k ≤ limit_of (laid_out s) f

-- it is done, with the reply's length, and the reply at the start of the buffer, the rest as lent
abbrev pub replied_with : List ℕ → List ℕ → Outcome
replied_with buffer reply = replied done_no (length reply) (pasted buffer 0 reply)

-- after any list, for every file, the alarm file too
abbrev pub SameBytes : Type 0
SameBytes =
    (day_first : Bool) (unit firmware : ℕ) (m₀ : List ℕ) (cs : List Call) (os : List Outcome) (s : State) (m : List ℕ) →
    Ran day_first unit firmware m₀ cs os s m → (f : ℕ) → f < all_files → (k : ℕ) (buffer : List ℕ) (o : Outcome) → RecordPolled unit s m f k buffer o →
    o ≡ replied_with buffer (read_reply unit (record_bytes s m f k))

-- ---- with a number that is not 1..n it replies with exception 03
abbrev pub PastTheEnd : Type 0
PastTheEnd =
    (day_first : Bool) (unit firmware : ℕ) (m₀ : List ℕ) (cs : List Call) (os : List Outcome) (s : State) (m : List ℕ) →
    Ran day_first unit firmware m₀ cs os s m → (f : ℕ) → f < all_files → (k : ℕ) → within 1 (limit_of (laid_out s) f) k ≡ false →
    (buffer : List ℕ) (o : Outcome) → NumberPolled unit s m f k buffer o → o ≡ replied_with buffer (exception_reply unit 3 illegal_value)

-- so that a driver made for the older firmware, 73, finds the end of the alarm file after any list: it reads record 150, and 151 is refused
pub record FindsTheEnd (unit : ℕ) (s : State) (m : List ℕ) : Type 0 where
  pub last : (buffer : List ℕ) (o : Outcome) → NumberPolled unit s m alarm_file 150 buffer o →
      o ≡ replied_with buffer (read_reply unit (record_bytes s m alarm_file 150))
  pub past : (buffer : List ℕ) (o : Outcome) → NumberPolled unit s m alarm_file 151 buffer o →
      o ≡ replied_with buffer (exception_reply unit 3 illegal_value)

abbrev pub OldDriver : Type 0
OldDriver =
    (day_first : Bool) (unit : ℕ) (m₀ : List ℕ) (cs : List Call) (os : List Outcome) (s : State) (m : List ℕ) →
    Ran day_first unit older_firmware m₀ cs os s m → FindsTheEnd unit s m
