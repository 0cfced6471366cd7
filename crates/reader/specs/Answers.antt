-- What the reading end finds and reads, the value of a point, and what C is told of it in numbers.
use Rattle.std.specs.Prelude.{List, Result, Ok, Err, Bool, cond, ℕ, ◌+◌, ◌-◌, ◌*◌, ◌^◌, ℤ, pos, negsuc, length}
use Rattle.basics.specs.declared.card.Refusal.{Refusal}
use Rattle.basics.specs.declared.card.Refusal.TheVariants.{Beyond}
use Rattle.basics.specs.Card.{Card, card_of, done_card, done_no}
use Rattle.basics.specs.Numbers.{within}
use Rattle.points.specs.declared.groups.Group.{Group}
use Rattle.points.specs.declared.groups.Group.TheVariants.{Unused, Points, Bad}
use Rattle.records.specs.declared.stamp.Stamp.{Stamp}
use Rattle.records.specs.Stamp.{stamp_from}
use Rattle.records.specs.Value.{PointValue, flag, int16, int32, float, text, value_in_stretch}
use Rattle.reader.specs.declared.answers.Part.{Part}
use Rattle.reader.specs.declared.answers.Value.{Value}
use Rattle.reader.specs.declared.answers.Value.TheVariants.{Flag, Int16, Int32, Float, Text, Refused}
use Rattle.reader.specs.declared.answers.PartAnswer.{PartAnswer}
use Rattle.reader.specs.declared.answers.StampAnswer.{StampAnswer}
use Rattle.reader.specs.declared.answers.PointAnswer.{PointAnswer}
use Rattle.reader.specs.Frame.{and_then, record_at, frame_checked, stretch_checked, group_named, stretch_from, stretch_length, record_part, stretch_part}

-- ---- parts of the frame, and the record's stamp
abbrev pub part : ℕ → ℕ → Part
part place length = record { place = place; length = length }

unfoldable pub found_record : List ℕ → Bool → List ℕ → Result Part Refusal
found_record gs d f = and_then (frame_checked gs d f) (λ size. Ok (part record_at size))

unfoldable pub found_stretch : List ℕ → Bool → List ℕ → ℕ → Result Part Refusal
found_stretch gs d f g = and_then (stretch_checked gs d f g) (λ size. Ok (part (record_at + stretch_from gs g) (stretch_length gs g)))

unfoldable pub found_stamp : List ℕ → Bool → List ℕ → Result Stamp Refusal
found_stamp gs d f = and_then (frame_checked gs d f) (λ size. Ok (stamp_from d (record_part f size)))

-- ---- the value of point e of place g, both counted from 1
-- a value as the reading end answers it; a text by its place in the frame and its length
abbrev pub answered : PointValue → ℕ → Value
answered (flag b) at = Flag b
answered (int16 z) at = Int16 z
answered (int32 z) at = Int32 z
answered (float x) at = Float x
answered (text bs) at = Text (part at (length bs))

-- point e of the stretch of a group, which starts at byte `from` of the frame; Beyond where e names nothing
abbrev pub point_in : Group → List ℕ → ℕ → ℕ → Value
point_in Unused stretch from e = Refused Beyond
point_in Bad stretch from e = Refused Beyond
point_in (Points q) stretch from e =
    cond (within 1 q.count e) (answered (value_in_stretch q.row stretch (e - 1)) (from + (e - 1) * q.row.size)) (Refused Beyond)

-- a text's place counts the frame's bytes from 0, and so from before the record
abbrev pub point_found : Result ℕ Refusal → List ℕ → List ℕ → ℕ → ℕ → Value
point_found (Ok size) gs f g e =
    point_in (group_named gs g) (stretch_part gs (record_part f size) g) (record_at + stretch_from gs g) e
point_found (Err refusal) gs f g e = Refused refusal

unfoldable pub point_value : List ℕ → Bool → List ℕ → ℕ → ℕ → Value
point_value gs d f g e = point_found (stretch_checked gs d f g) gs f g e

-- ---- what C is told, in numbers
-- a part of the frame, by its place and its length; one refused is empty
abbrev pub part_answer : Card → ℕ → ℕ → PartAnswer
part_answer c place length = record { number = c.number; carried = c.carried; place = place; length = length }

abbrev pub told_of_part : Result Part Refusal → PartAnswer
told_of_part (Ok found) = part_answer done_card found.place found.length
told_of_part (Err refusal) = part_answer (card_of refusal) 0 0

unfoldable pub record_answer : List ℕ → Bool → List ℕ → PartAnswer
record_answer gs d f = told_of_part (found_record gs d f)

unfoldable pub stretch_answer : List ℕ → Bool → List ℕ → ℕ → PartAnswer
stretch_answer gs d f g = told_of_part (found_stretch gs d f g)

-- month, day, year, hour, minute, second; zeros where it is refused
abbrev pub no_stamp : Stamp
no_stamp = record { month = 0; day = 0; year = 0; hour = 0; minute = 0; second = 0 }

abbrev pub stamp_told : Card → Stamp → StampAnswer
stamp_told c s = record { number = c.number; carried = c.carried; stamp = s }

abbrev pub told_of_stamp : Result Stamp Refusal → StampAnswer
told_of_stamp (Ok s) = stamp_told done_card s
told_of_stamp (Err refusal) = stamp_told (card_of refusal) no_stamp

unfoldable pub stamp_answer : List ℕ → Bool → List ℕ → StampAnswer
stamp_answer gs d f = told_of_stamp (found_stamp gs d f)

-- a whole number as 32 bits, in two's complement
abbrev pub bits32 : ℤ → ℕ
bits32 (pos n) = n
bits32 (negsuc n) = 2 ^ 32 - 1 - n

-- kinds on the C surface: 1 flag, 2 16-bit, 3 32-bit, 4 float, 5 text; 0 where refused
abbrev pub plain_answer : ℕ → ℕ → PointAnswer
plain_answer kind bits = record { number = done_no; carried = 0; kind = kind; bits = bits; place = 0; length = 0 }

-- the card's number and the values of each case of the enum
abbrev pub point_answer : Value → PointAnswer
point_answer (Flag b) = plain_answer 1 (cond b 1 0)
point_answer (Int16 z) = plain_answer 2 (bits32 z)
point_answer (Int32 z) = plain_answer 3 (bits32 z)
point_answer (Float x) = plain_answer 4 x
point_answer (Text p) = record { number = done_no; carried = 0; kind = 5; bits = 0; place = p.place; length = p.length }
point_answer (Refused refusal) =
    record { number = (card_of refusal).number; carried = (card_of refusal).carried; kind = 0; bits = 0; place = 0; length = 0 }
