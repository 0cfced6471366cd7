-- The numbers that C gets for a point tell its kind and value: nothing is lost at the boundary. Assumes nothing.
--     numbers-tell     for every value of 32 bits whose text stands in the frame
--     table_fits       a point's value in a table of bytes has 32 bits
use mathlib.Core.Path.{◌≡◌, refl, ap, ◌∙◌}
use mathlib.Core.List.{List}
use mathlib.Core.Bool.{Bool, true, false, cond}
use Prim.Native.Nat.{ℕ, suc, ◌+◌, ◌-◌, ◌*◌, ◌^◌, ◌≤◌, ◌<◌}
use native.Mathlib.Omega.{arith}
use borrow.Author.Tests.{ltb-true, ltb-false, lt-ltb, le-ltb, ne_eqb}
use lib.Dec.{ltb}
use lib.IntN.{ℤ, pos, negsuc, ◌-ℤ◌}
use lib.ListN.{length, get_or, take, drop}
use Rattle.basics.specs.Lists.{Bytes}
use Rattle.points.specs.declared.table.Kind.{Kind}
use Rattle.points.specs.declared.table.Kind.TheVariants.{Boolean, Int16, Text8, Int32, Float, Text16}
use Rattle.points.specs.declared.table.Row.{Row}
use Rattle.points.specs.Table.{place_of}
use Rattle.points.proofs.Laws.{kind_size}
use Rattle.modbus.specs.Word.{number_of, word_at}
use Rattle.records.specs.Value.{PointValue, flag, int16, int32, float, text, signed, table_value, bytes_in_table, value_in_table}
use Rattle.reader.specs.Answers.{answered, bits32, point_answer}
use Rattle.reader.proofs.Laws.{two_bytes, four_bytes}
use Rattle.reader.specs.ReadsBack.{told_by}

-- a number less a power that is above it
high : (x m : ℕ) → x ≤ m → pos x -ℤ pos (suc m) ≡ negsuc (m - x)
high x m h = simp (lt-ltb x (suc m) (omega arith)) (ap negsuc (omega arith))

-- a whole number of 32 bits, the highest of them the sign
abbrev in32 : ℤ → Bool
in32 (pos n) = ltb n (2 ^ 31)
in32 (negsuc n) = ltb n (2 ^ 31)

abbrev pub fits32 : PointValue → Bool
fits32 (flag b) = true
fits32 (int16 z) = in32 z
fits32 (int32 z) = in32 z
fits32 (float x) = true
fits32 (text bs) = true

bits-tell : (z : ℤ) → in32 z ≡ true → signed 32 (bits32 z) ≡ z
bits-tell (pos n) small = simp small
bits-tell (negsuc n) small =
    let below = ltb-true n (2 ^ 31) small in
    simp (le-ltb (2 ^ 32 - 1 - n) (2 ^ 31) (omega (arith, below))) (high (2 ^ 32 - 1 - n) (2 ^ 32 - 1) (omega (arith, below)) ∙ ap negsuc (omega (arith, below)))

pub numbers-tell : (f : List ℕ) (v : PointValue) (at : ℕ) → fits32 v ≡ true →
    ((bs : List ℕ) → v ≡ text bs → take (length bs) (drop at f) ≡ bs) → told_by f (point_answer (answered v at)) ≡ v
numbers-tell f (flag true) at fits words = refl
numbers-tell f (flag false) at fits words = refl
numbers-tell f (int16 z) at fits words = ap int16 (bits-tell z fits)
numbers-tell f (int32 z) at fits words = ap int32 (bits-tell z fits)
numbers-tell f (float x) at fits words = refl
numbers-tell f (text bs) at fits words = ap text (words bs refl)

-- ---- values of a table of bytes
-- a number of a width's suc m, less them from the half on
in-32 : (half m x : ℕ) → half ≤ 2 ^ 31 → m < 2 ^ 31 + half → x ≤ m → in32 (cond (ltb x half) (pos x) (pos x -ℤ pos (suc m))) ≡ true
in-32 half m x low wide below = go (ltb x half) refl
  where
    go : (b : Bool) → ltb x half ≡ b → in32 (cond b (pos x) (pos x -ℤ pos (suc m))) ≡ true
    go true is = let less = ltb-true x half is in lt-ltb x (2 ^ 31) (omega (arith, low, less))
    go false is =
        let least = ltb-false x half is in
        ap in32 (high x m below) ∙ lt-ltb (m - x) (2 ^ 31) (omega (arith, wide, below, least))

pub table_fits : (t : List ℕ) (r : Row) (p : ℕ) → Bytes t → r.size ≡ kind_size r.kind → ((r.size ≡ 0 → ⊥) → place_of r p + r.size ≤ length t) →
    fits32 (value_in_table t r p) ≡ true
unfolding value_in_table bytes_in_table
table_fits t r p bytes size inside = go r.kind refl
  where
    word : (i : ℕ) → get_or t i 0 * 256 + get_or t (i + 1) 0 < 65536
    word i = omega (arith, bytes i, bytes (i + 1))

    own : (k : Kind) → r.kind ≡ k → ltb 0 (kind_size k) ≡ true → (place_of r p + kind_size k ≤ length t) × (bytes_in_table t r p ≡ take (kind_size k) (drop (place_of r p) t))
    own k is wide =
        let same : r.size ≡ kind_size k = size ∙ ap kind_size is in
        let some : r.size ≡ 0 → ⊥ = λ none. omega (arith, ltb-true 0 (kind_size k) wide, same, none) in
        (omega (arith, inside some, same), simp (ne_eqb r.size 0 some) (ap (λ z. take z (drop (place_of r p) t)) same))

    go : (k : Kind) → r.kind ≡ k → fits32 (table_value r.kind (bytes_in_table t r p)) ≡ true
    go Boolean is = ap (λ k. fits32 (table_value k (bytes_in_table t r p))) is
    go Text8 is = ap (λ k. fits32 (table_value k (bytes_in_table t r p))) is
    go Text16 is = ap (λ k. fits32 (table_value k (bytes_in_table t r p))) is
    go Float is = ap (λ k. fits32 (table_value k (bytes_in_table t r p))) is
    go Int16 is =
        let both = own Int16 is refl in
        ap (λ k. fits32 (table_value k (bytes_in_table t r p))) is
        ∙ ap (λ x. in32 (signed 16 x)) (ap number_of both.1 ∙ two_bytes t (place_of r p) both.0)
        ∙ in-32 (2 ^ 15) 65535 (word_at t (place_of r p)) (omega arith) (omega arith) (omega (arith, word (place_of r p)))
    go Int32 is =
        let both = own Int32 is refl in
        ap (λ k. fits32 (table_value k (bytes_in_table t r p))) is
        ∙ ap (λ x. in32 (signed 32 x)) (ap number_of both.1 ∙ four_bytes t (place_of r p) both.0)
        ∙ in-32 (2 ^ 31) 4294967295 (word_at t (place_of r p) * 65536 + word_at t (place_of r p + 2)) (omega arith) (omega arith) (omega (arith, word (place_of r p), word (place_of r p + 2)))
