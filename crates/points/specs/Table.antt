-- The live table: its six rows, which row holds a point, and where a point's value stands.
use Rattle.std.specs.Prelude.{List, [], ◌∷◌, Option, find, Bool, cond, ◌||◌, ℕ, ◌+◌, ◌-◌, ◌*◌, ◌/◌, ◌%◌, ◌^◌, eqb, get_or}
use Rattle.basics.specs.Numbers.{within}
use Rattle.points.specs.declared.table.Kind.TheVariants.{Boolean, Int16, Text8, Int32, Float, Text16}
use Rattle.points.specs.declared.table.Row.{Row}

-- the live table's bytes
abbrev pub table_bytes : ℕ
table_bytes = 1424

-- two rows have names: triggers and slots name points of theirs
abbrev pub boolean_row : Row
boolean_row = record { kind = Boolean; first = 1801; last = 1928; size = 0; offset = 0 }

abbrev pub float_row : Row
float_row = record { kind = Float; first = 7101; last = 7228; size = 4; offset = 656 }

-- kind, first and last point, bytes a point (0 stands for one bit), from which byte of the table
unfoldable pub rows : List Row
rows =
    boolean_row
    ∷ record { kind = Int16; first = 3001; last = 3064; size = 2; offset = 16 }
    ∷ record { kind = Text8; first = 4001; last = 4032; size = 8; offset = 144 }
    ∷ record { kind = Int32; first = 5101; last = 5164; size = 4; offset = 400 }
    ∷ float_row
    ∷ record { kind = Text16; first = 14001; last = 14016; size = 16; offset = 1168 }
    ∷ []

-- point p is in row r
unfoldable pub in_row : Row → ℕ → Bool
in_row r p = within r.first r.last p

-- the row that holds point p
unfoldable pub row_of : ℕ → Option Row
row_of p = find (λ r. in_row r p) rows

-- a row's points are single bits
abbrev pub is_bits : Row → Bool
is_bits r = eqb r.size 0

-- Boolean number i of the row that starts at byte `offset`, counted from 0: bit i mod 8 of byte i/8, lowest bit first
abbrev pub flag_at : List ℕ → ℕ → ℕ → ℕ
flag_at table offset i = (get_or table (offset + i / 8) 0 / 2 ^ (i % 8)) % 2

-- Boolean number i, counted from 0, is point 1801 + i; there are 128, and they fill the table's first 16 bytes
abbrev pub boolean_point : ℕ → ℕ
boolean_point i = boolean_row.first + i

abbrev pub boolean_points : ℕ
boolean_points = boolean_row.last + 1 - boolean_row.first

abbrev pub boolean_bytes : ℕ
boolean_bytes = 16

-- where point p of row r starts in the table
abbrev pub place_of : Row → ℕ → ℕ
place_of r p = r.offset + (p - r.first) * r.size

-- n Booleans packed eight to a byte
abbrev pub packed_size : ℕ → ℕ
packed_size n = (n + 7) / 8

-- the bytes of n points of a row
unfoldable pub points_size : Row → ℕ → ℕ
points_size r n = cond (is_bits r) (packed_size n) (n * r.size)

-- ---- points of one row
-- a point of row r, or 0 for none
abbrev pub in_row_or_none : Row → ℕ → Bool
in_row_or_none r p = eqb p 0 || in_row r p

-- a Boolean point or 0, as a trigger is, and a slot's point
unfoldable pub boolean_or_none : ℕ → Bool
boolean_or_none p = in_row_or_none boolean_row p

-- a float point or 0, as a slot's transducer is
unfoldable pub float_or_none : ℕ → Bool
float_or_none p = in_row_or_none float_row p
