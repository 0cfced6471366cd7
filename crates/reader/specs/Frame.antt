-- The reply frame, the record in it, and the stretch of a place.
-- gs is the list of group numbers, of any length; d says whether the day stands first; f is the reply frame, of any bytes.
use Rattle.std.specs.Prelude.{List, Result, Ok, Err, ◌≡◌, Bool, cond, ◌&&◌, ℕ, ◌+◌, ◌-◌, ◌≤◌, eqb, length, get_or, take, drop}
use Rattle.basics.specs.declared.card.Refusal.{Refusal}
use Rattle.basics.specs.declared.card.Refusal.TheVariants.{Garbled, Empty, Beyond}
use Rattle.basics.specs.Lists.{all_zero}
use Rattle.basics.specs.Numbers.{within}
use Rattle.modbus.specs.Crc.{ends_in_crc}
use Rattle.modbus.specs.Frame.{good_unit}
use Rattle.points.specs.declared.groups.Group.{Group}
use Rattle.points.specs.declared.groups.Group.TheVariants.{Unused, Points, Bad}
use Rattle.points.specs.Groups.{judged, group_at, group_size, groups_size, record_size}
use Rattle.records.specs.Stamp.{in_range, stamp_from}

-- a refusal stands; else what comes next, by what was found
abbrev pub and_then : {A B : Type 0} → Result A Refusal → (A → Result B Refusal) → Result B Refusal
and_then (Ok found) next = next found
and_then (Err refusal) next = Err refusal

-- ---- the frame and its record
-- a 03 reply with the right CRC, unit 1-247 and this record size, as byte count, the frame 5 bytes longer
unfoldable pub is_reply : List ℕ → ℕ → Bool
is_reply f size =
    eqb (length f) (size + 5)
    && (good_unit (get_or f 0 0) && (eqb (get_or f 1 0) 3 && (eqb (get_or f 2 0) size && ends_in_crc f)))

-- the record is the part of the frame that starts at byte 3
abbrev pub record_at : ℕ
record_at = 3

abbrev pub record_part : List ℕ → ℕ → List ℕ
record_part f size = take size (drop record_at f)

-- Empty where the record is all zeros, Garbled where its stamp is out of range; else the record's size
unfoldable pub record_checked : Bool → List ℕ → Result ℕ Refusal
record_checked d bs =
    cond (all_zero bs) (Err Empty)
    (cond (in_range (stamp_from d bs)) (Ok (length bs)) (Err Garbled))

-- Garbled where the frame is no such reply
unfoldable pub reply_checked : Bool → List ℕ → ℕ → Result ℕ Refusal
reply_checked d f size = cond (is_reply f size) (record_checked d (record_part f size)) (Err Garbled)

-- Group and Long first, then the frame
unfoldable pub frame_checked : List ℕ → Bool → List ℕ → Result ℕ Refusal
frame_checked gs d f = and_then (judged gs) (reply_checked d f)

-- what is known of a definition and a frame that pass, with the record's size
pub record Passed (gs f : List ℕ) (size : ℕ) : Type 0 where
  pub list : length gs ≡ 32
  pub sized : size ≡ record_size gs
  pub least : 6 ≤ size
  pub most : size ≤ 250
  pub long : length f ≡ size + 5

-- ---- the stretch of place g, counted from 1, unused places too
-- the group that g names; a g that is no place names nothing, as an unused place does
abbrev pub group_named : List ℕ → ℕ → Group
group_named gs g = cond (within 1 16 g) (group_at gs (g - 1)) Unused

-- Beyond where g names nothing
abbrev pub place_checked : Group → ℕ → Result ℕ Refusal
place_checked Unused size = Err Beyond
place_checked Bad size = Err Beyond
place_checked (Points q) size = Ok size

unfoldable pub stretch_checked : List ℕ → Bool → List ℕ → ℕ → Result ℕ Refusal
stretch_checked gs d f g = and_then (frame_checked gs d f) (place_checked (group_named gs g))

-- where the stretch of place g starts in the record, and its length
abbrev pub stretch_from : List ℕ → ℕ → ℕ
stretch_from gs g = 6 + groups_size gs (g - 1)

abbrev pub stretch_length : List ℕ → ℕ → ℕ
stretch_length gs g = group_size (group_at gs (g - 1))

-- the stretch is that part of the record bs
abbrev pub stretch_part : List ℕ → List ℕ → ℕ → List ℕ
stretch_part gs bs g = take (stretch_length gs g) (drop (stretch_from gs g) bs)
