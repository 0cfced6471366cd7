-- What was captured comes back, as site software sees it: what the reading end's exported calls answer, in numbers, from the reply that
-- carries a record.
use Rattle.std.specs.Prelude.{List, Ok, ◌≡◌, Bool, cond, ℕ, ◌+◌, ◌-◌, ◌≤◌, eqb, take, drop}
use Rattle.basics.specs.Card.{done_no}
use Rattle.modbus.specs.Frame.{read_reply}
use Rattle.points.specs.declared.table.Kind.{Kind}
use Rattle.points.specs.declared.table.Kind.TheVariants.{Boolean, Int16, Text8, Int32, Float, Text16}
use Rattle.points.specs.declared.table.Run.{Run}
use Rattle.points.specs.declared.groups.Group.TheVariants.{Points}
use Rattle.points.specs.Groups.{group_at}
use Rattle.records.specs.declared.stamp.Stamp.{Stamp}
use Rattle.records.specs.Record.{record_of}
use Rattle.records.specs.Value.{PointValue, flag, int16, int32, float, text, signed, value_in_table}
use Rattle.reader.specs.declared.answers.PointAnswer.{PointAnswer}
use Rattle.reader.specs.Answers.{part, told_of_part, told_of_stamp, point_value, record_answer, stamp_answer, point_answer}

-- what a driver makes of the numbers of an answer that is done, as windrow_reader.h says; f is the frame, which has the texts
abbrev pub told_by : List ℕ → PointAnswer → PointValue
told_by f a =
    cond (eqb a.kind 1) (flag (eqb a.bits 1))
    (cond (eqb a.kind 2) (int16 (signed 32 a.bits))
    (cond (eqb a.kind 3) (int32 (signed 32 a.bits))
    (cond (eqb a.kind 4) (float a.bits)
    (text (take a.length (drop a.place f))))))

-- the number by which C is told a row's kind
abbrev pub kind_number : Kind → ℕ
kind_number Boolean = 1
kind_number Int16 = 2
kind_number Int32 = 3
kind_number Float = 4
kind_number Text8 = 5
kind_number Text16 = 5

-- the reply to a poll of a record that a scan captured of table t, stamp s and groups gs
abbrev pub record_reply : ℕ → Bool → Stamp → List ℕ → List ℕ → List ℕ
record_reply unit d s t gs = read_reply unit (record_of d s t gs)

pub record GetsBack (unit size : ℕ) (d : Bool) (s : Stamp) (t gs : List ℕ) : Type 0 where
  -- the record is the part that starts at byte 3
  pub whole : record_answer gs d (record_reply unit d s t gs) ≡ told_of_part (Ok (part 3 size))
  -- the stamp comes back
  pub stamp : stamp_answer gs d (record_reply unit d s t gs) ≡ told_of_stamp (Ok s)
  -- at every place and point the answer is done, its kind is the row's, and its numbers tell the value that the point was captured with, of
  -- a text the cleaned one
  pub point : (g e : ℕ) (q : Run) → 1 ≤ g → g ≤ 16 → group_at gs (g - 1) ≡ Points q → 1 ≤ e → e ≤ q.count →
      let answer = point_answer (point_value gs d (record_reply unit d s t gs) g e) in
      (answer.number ≡ done_no) × (answer.kind ≡ kind_number q.row.kind)
      × (told_by (record_reply unit d s t gs) answer ≡ value_in_table t q.row (q.point + (e - 1)))
