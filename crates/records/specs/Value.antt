-- The value of a point captured, made of a live table and of a captured stretch. A value is made from the point's own bytes, by kind; the
-- value of a text is the cleaned text.
use Rattle.std.specs.Prelude.{List, [], ◌∷◌, Bool, cond, ℕ, ◌-◌, ◌*◌, ◌^◌, eqb, ltb, ℤ, pos, ◌-ℤ◌, get_or, take, drop}
use Rattle.modbus.specs.Word.{number_of}
use Rattle.points.specs.declared.table.Kind.{Kind}
use Rattle.points.specs.declared.table.Kind.TheVariants.{Boolean, Int16, Text8, Int32, Float, Text16}
use Rattle.points.specs.declared.table.Row.{Row}
use Rattle.points.specs.Table.{is_bits, flag_at, place_of}
use Rattle.records.specs.Capture.{cleaned}

-- flag, signed 16-bit, signed 32-bit, float pattern, text
pub data PointValue : Type 0 where
  flag : Bool → PointValue
  int16 : ℤ → PointValue
  int32 : ℤ → PointValue
  float : ℕ → PointValue
  text : List ℕ → PointValue

-- a number of k bits, the highest of them the sign
abbrev pub signed : ℕ → ℕ → ℤ
signed k x = cond (ltb x (2 ^ (k - 1))) (pos x) (pos x -ℤ pos (2 ^ k))

-- the value of a point's own bytes; a Boolean's is its bit
abbrev pub value_of : Kind → List ℕ → PointValue
value_of Boolean bs = flag (eqb (get_or bs 0 0) 1)
value_of Int16 bs = int16 (signed 16 (number_of bs))
value_of Text8 bs = text bs
value_of Int32 bs = int32 (signed 32 (number_of bs))
value_of Float bs = float (number_of bs)
value_of Text16 bs = text bs

-- ---- in a live table
-- the own bytes of point p of row r, as they stand; a Boolean's is its bit
unfoldable pub bytes_in_table : List ℕ → Row → ℕ → List ℕ
bytes_in_table table r p =
    cond (is_bits r) (flag_at table r.offset (p - r.first) ∷ []) (take r.size (drop (place_of r p) table))

-- the value that a point's bytes in the table are captured with: of a text the cleaned one
abbrev pub table_value : Kind → List ℕ → PointValue
table_value Boolean bs = value_of Boolean bs
table_value Int16 bs = value_of Int16 bs
table_value Text8 bs = value_of Text8 (cleaned bs)
table_value Int32 bs = value_of Int32 bs
table_value Float bs = value_of Float bs
table_value Text16 bs = value_of Text16 (cleaned bs)

-- the value that point p of row r has in a capture of the table
unfoldable pub value_in_table : List ℕ → Row → ℕ → PointValue
value_in_table table r p = table_value r.kind (bytes_in_table table r p)

-- ---- in a captured stretch
-- the own bytes of point number e of a stretch, counted from 0
unfoldable pub bytes_in_stretch : Row → List ℕ → ℕ → List ℕ
bytes_in_stretch r stretch e = cond (is_bits r) (flag_at stretch 0 e ∷ []) (take r.size (drop (e * r.size) stretch))

-- the value of point number e of a stretch
unfoldable pub value_in_stretch : Row → List ℕ → ℕ → PointValue
value_in_stretch r stretch e = value_of r.kind (bytes_in_stretch r stretch e)
