-- What was captured comes back, from end to end. A poll of record k after a list of calls sends a record that an accepted scan
-- of the list made, and from that frame the reading end gets the scan's stamp and every point's kind and value, of a text the cleaned
-- one; or zeros, told as Empty.
use Rattle.std.specs.Prelude.{Err, ◌≡◌, Bool, true, ℕ, ◌<◌, length, take, replicate}
use mathlib.Core.List.{List, [], Memᴰ}
use Rattle.basics.specs.declared.card.Refusal.TheVariants.{Empty}
use Rattle.basics.specs.Lists.{Bytes}
use Rattle.modbus.specs.Frame.{read_reply}
use Rattle.points.specs.Table.{table_bytes}
use Rattle.points.specs.Groups.{record_size}
use Rattle.records.specs.declared.stamp.Stamp.{Stamp}
use Rattle.records.specs.Stamp.{in_range}
use Rattle.records.specs.Record.{record_of}
use Rattle.reader.specs.declared.answers.Value.TheVariants.{Refused}
use Rattle.reader.specs.Answers.{told_of_part, told_of_stamp, record_answer, stretch_answer, stamp_answer, point_answer, point_value}
use Rattle.reader.specs.ReadsBack.{GetsBack}
use Rattle.archive.specs.Layout.{definition, defined_files}
use Rattle.state.specs.declared.parts.State.{State}
use Rattle.machine.specs.Machine.{Call, scan, Outcome, answered, replied}
use Rattle.machine.specs.Runs.{Ran}
use Rattle.machine.specs.Readings.{RecordPolled}

-- the live tables that the scans of a list were lent are of bytes, as slices of bytes are
abbrev pub LentBytes : List Call → Type 0
LentBytes cs = (table : List ℕ) (stamp : Stamp) → Memᴰ (scan table stamp) cs → Bytes table

-- an accepted scan of the list: neither Table (3) nor Clock (4) applies
pub record Accepted (cs : List Call) : Type 0 where
  pub table : List ℕ
  pub stamp : Stamp
  pub called : Memᴰ (scan table stamp) cs
  pub whole : length table ≡ table_bytes
  pub clock : in_range stamp ≡ true

-- the record that it makes by groups gs
abbrev pub made_by : {cs : List Call} → Accepted cs → Bool → List ℕ → List ℕ
made_by by day_first gs = record_of day_first by.stamp by.table gs

-- the reading end tells Empty (15), whatever it is asked of the frame
pub record TellsEmpty (gs : List ℕ) (day_first : Bool) (frame : List ℕ) : Type 0 where
  pub whole : record_answer gs day_first frame ≡ told_of_part (Err Empty)
  pub stamp : stamp_answer gs day_first frame ≡ told_of_stamp (Err Empty)
  pub stretch : (g : ℕ) → stretch_answer gs day_first frame g ≡ told_of_part (Err Empty)
  pub point : (g e : ℕ) → point_answer (point_value gs day_first frame g e) ≡ point_answer (Refused Empty)

-- what the frame that was sent is, and what the reading end makes of it
pub data ComesBack (cs : List Call) (day_first : Bool) (unit : ℕ) (gs frame : List ℕ) : Type 0 where
  empty : frame ≡ read_reply unit (replicate (record_size gs) 0) → TellsEmpty gs day_first frame → ComesBack cs day_first unit gs frame
  captured : (by : Accepted cs) → frame ≡ read_reply unit (made_by by day_first gs) →
      GetsBack unit (record_size gs) day_first by.stamp by.table gs → ComesBack cs day_first unit gs frame

-- the frame that goes out
abbrev pub sent_by : Outcome → List ℕ
sent_by (answered c) = []
sent_by (replied number size buffer) = take size buffer

-- after any list of calls that ran from an accepted Fresh, for files 1 to 10, by the file's laid-out groups
abbrev pub EachPollReadsBack : Type 0
EachPollReadsBack =
    (day_first : Bool) (unit firmware : ℕ) (m₀ : List ℕ) (cs : List Call) (os : List Outcome) (s : State) (m : List ℕ) →
    Ran day_first unit firmware m₀ cs os s m → LentBytes cs →
    (f : ℕ) → f < defined_files → (k : ℕ) (buffer : List ℕ) (o : Outcome) → RecordPolled unit s m f k buffer o →
    ComesBack cs day_first unit (definition s.files.layout.groups f) (sent_by o)
