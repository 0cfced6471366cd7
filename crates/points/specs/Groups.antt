-- The 16 groups of a file, and the size of its record.
-- A definition is 32 numbers: a first point and a number of points for each of the 16 places.
use Rattle.std.specs.Prelude.{List, Option, Some, None, Result, Ok, Err, ◌≡◌, Bool, cond, not, ◌&&◌, ℕ, zero, suc, ◌+◌, ◌*◌, ◌≤◌, leb, ltb, eqb, length, get_or}
use Rattle.basics.specs.declared.card.Refusal.{Refusal}
use Rattle.basics.specs.declared.card.Refusal.TheVariants as refusal
use Rattle.basics.specs.Card.{Card, card_told, first_of}
use Rattle.points.specs.declared.table.Row.{Row}
use Rattle.points.specs.declared.table.Run.{Run}
use Rattle.points.specs.declared.groups.Group.{Group}
use Rattle.points.specs.declared.groups.Group.TheVariants.{Unused, Points, Bad}
use Rattle.points.specs.Table.{row_of, points_size}

-- (0, 0) is unused
unfoldable pub unused : ℕ → ℕ → Bool
unused p n = eqb p 0 && eqb n 0

-- n points from p on do not leave the row r of p
unfoldable pub ends_in_row : Row → ℕ → ℕ → Bool
ends_in_row r p n = leb (p + n) (r.last + 1)

-- n points of row r, from p on
abbrev pub run : Row → ℕ → ℕ → Run
run r p n = record { row = r; point = p; count = n }

-- n points from p on, where the row of p has been looked up: at least one, all in that row
abbrev pub points_from : Option Row → ℕ → ℕ → Group
points_from None p n = Bad
points_from (Some r) p n = cond (leb 1 n && ends_in_row r p n) (Points (run r p n)) Bad

-- what a group is: unused, or points that are all in one row, or bad
unfoldable pub group_of : ℕ → ℕ → Group
group_of p n = cond (unused p n) Unused (points_from (row_of p) p n)

-- the bytes that a group adds to a record
abbrev pub group_size : Group → ℕ
group_size Unused = 0
group_size Bad = 0
group_size (Points q) = points_size q.row q.count

abbrev pub is_bad : Group → Bool
is_bad Unused = Bool.false
is_bad Bad = Bool.true
is_bad (Points q) = Bool.false

-- the first point and the number of points at place g of a definition, counted from 0
abbrev pub first_point_at : List ℕ → ℕ → ℕ
first_point_at gs g = get_or gs (2 * g) 0

abbrev pub count_at : List ℕ → ℕ → ℕ
count_at gs g = get_or gs (2 * g + 1) 0

abbrev pub group_at : List ℕ → ℕ → Group
group_at gs g = group_of (first_point_at gs g) (count_at gs g)

-- the bytes of the groups at the first k places
unfoldable pub groups_size : List ℕ → ℕ → ℕ
groups_size gs zero = 0
groups_size gs (suc k) = groups_size gs k + group_size (group_at gs k)

-- the place of the first bad group among the first k, counted from 1; 0 where there is none
unfoldable pub first_bad : List ℕ → ℕ → ℕ
first_bad gs zero = 0
first_bad gs (suc k) = first_of (first_bad gs k) (cond (is_bad (group_at gs k)) (suc k) 0)

-- a record's size: 6 stamp bytes, then the groups
unfoldable pub record_size : List ℕ → ℕ
record_size gs = 6 + groups_size gs 16

-- a definition judged: the first bad group, or 0 for the reading end's list that is not of 32 numbers; over 250 bytes; else good,
-- with the record's size
unfoldable pub judged : List ℕ → Result ℕ Refusal
judged gs =
    cond (not (eqb (length gs) 32)) (Err (refusal.Group 0))
    (cond (ltb 0 (first_bad gs 16)) (Err (refusal.Group (first_bad gs 16)))
    (cond (ltb 250 (record_size gs)) (Err refusal.Long)
    (Ok (record_size gs))))

-- the same on the service card: Group (7), Long (8) or done
abbrev pub judged_card : List ℕ → Card
judged_card gs = card_told (judged gs)

-- ---- what the code's walk asks: every number from place k of a list on is 0
abbrev pub ZeroFrom : List ℕ → ℕ → Type 0
ZeroFrom gs k = (i : ℕ) → k ≤ i → get_or gs i 0 ≡ 0
