-- A stretch as the code hands it on, and what its points' values ask of it.
use Rattle.std.specs.Prelude.{List, Result, Ok, Err, ◌≡◌, Bool, ℕ, ◌+◌, ◌-◌, ◌≤◌, length}
use Rattle.basics.specs.declared.card.Refusal.{Refusal}
use Rattle.points.specs.declared.groups.Group.TheVariants.{Points}
use Rattle.points.specs.Table.{points_size}
use Rattle.points.specs.Groups.{group_of, group_at}
use Rattle.reader.specs.declared.stretch.Stretch.{Stretch}
use Rattle.reader.specs.Frame.{record_at, record_part, stretch_checked, stretch_from, stretch_length, stretch_part}

-- the stretch of place g of a frame that passes, whose record has `size` bytes
pub record IsStretch (gs : List ℕ) (d : Bool) (f : List ℕ) (g : ℕ) (s : Stretch) : Type 0 where
  pub size : ℕ
  pub checked : stretch_checked gs d f g ≡ Ok size
  pub place : (1 ≤ g) × (g ≤ 16)
  pub group : group_at gs (g - 1) ≡ Points s.run
  pub from : s.from ≡ record_at + stretch_from gs g
  pub bytes : s.bytes.now ≡ stretch_part gs (record_part f size) g

-- what is answered where the stretch of place g is asked for
abbrev pub FoundStretch : List ℕ → Bool → List ℕ → ℕ → Result Stretch Refusal → Type 0
FoundStretch gs d f g (Ok s) = IsStretch gs d f g s
FoundStretch gs d f g (Err refusal) = stretch_checked gs d f g ≡ Err refusal

-- a place of a definition, a record that has its stretch, and the byte of the record where that starts
pub record LentRecord (gs bs : List ℕ) (g from : ℕ) : Type 0 where
  pub least : 1 ≤ g
  pub most : g ≤ 16
  pub starts : from ≡ stretch_from gs g
  pub inside : stretch_from gs g + stretch_length gs g ≤ length bs
  pub short : length bs ≤ 250

-- a stretch of a group, in a frame of at most 255 bytes
pub record IsLent (s : Stretch) : Type 0 where
  pub grouped : group_of s.run.point s.run.count ≡ Points s.run
  pub sized : length s.bytes.now ≡ points_size s.run.row s.run.count
  pub near : s.from + length s.bytes.now ≤ 255
