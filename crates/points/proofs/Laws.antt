-- Laws of the table's lookup and of groups. Assumes nothing.
--     row_here, row-past    the lookup from row i on, by the test on row i
--     lookup-sound          what a computed test says of every row holds of the row that the lookup gives
--     boolean-inside, boolean-is, float-inside, float_is    a point that is a Boolean or 0, or a float or 0, and is not 0: its bounds and its row
--     boolean_row_lem, boolean-found, boolean_point_lem    a Boolean point and its row
--     float_size            a float has four bytes
--     group-inside, group-sound, group_again    what is known of a group's points
--     group-of-run, group-of-one    points of a row that are a group
--     group-size-small     a group adds at most the live table's bytes
--     judged-done, judged-good, good_definition    a definition that is not refused
--     rest-zero, rest-unused    places of zeros behind those that the code walks
--     walk_laws             what the walks along the places need of one more place
use mathlib.Core.Path.{◌≡◌, refl, sym, ap, ◌∙◌, subst}
use mathlib.Core.List.{List, [], ◌∷◌}
use mathlib.Core.Bool.{Bool, true, false, cond, not, ◌&&◌}
use Prim.Native.Nat.{ℕ, zero, suc, ◌+◌, ◌-◌, ◌*◌, ◌/◌, ◌≤◌, ◌<◌}
use native.Mathlib.Nat.{mul-le-mul_right, add-mul, le_refl}
use native.Mathlib.Omega.{arith}
use native.Mathlib.Numerals.{add-one}
use native.Mathlib.Decide.{le_ind}
use lib.Dec.{leb, ltb, eqb, eqb-suc-zero}
use lib.ListN.{length, get_or, take, drop, length-drop}
use lib.Seq.{drop-cons, get_or-drop, take_all}
use borrow.Author.Tests.{eqb-true, leb-true, ltb-true, ltb-false, ne_eqb, le-leb, lt-leb}
use Rattle.basics.proofs.Tests.{and_left, and_right}
use Rattle.points.specs.declared.table.Kind.{Kind}
use Rattle.points.specs.declared.table.Kind.TheVariants.{Boolean, Int16, Text8, Int32, Float, Text16}
use Rattle.points.specs.declared.table.Row.{Row}
use Rattle.points.specs.declared.table.Run.{Run}
use Rattle.std.specs.Prelude.{Option, Some, None, Ok, Err, find}
use Rattle.std.proofs.lemmas.List.{length-take-le}
use Rattle.basics.specs.declared.card.Refusal.TheVariants as refusal
use Rattle.basics.specs.Card.{card_told}
use Rattle.points.specs.declared.groups.Group.{Group}
use Rattle.points.specs.declared.groups.Group.TheVariants.{Unused, Points, Bad}
use Rattle.points.specs.Table.{table_bytes, rows, in_row, row_of, points_size, boolean_row, float_row, boolean_point, boolean_points, in_row_or_none, boolean_or_none, float_or_none}
use Rattle.points.specs.Groups.{unused, ends_in_row, run, points_from, group_of, group_size, is_bad, first_point_at, count_at, group_at, groups_size, first_bad, record_size, judged, judged_card, ZeroFrom}

pub row_here : (rs : List Row) (i p : ℕ) (d : Row) → i < length rs → in_row (get_or rs i d) p ≡ true →
    find (λ r. in_row r p) (drop i rs) ≡ Some (get_or rs i d)
row_here rs i p d h t = rw (drop-cons rs i d h, t)

pub row-past : (rs : List Row) (i p : ℕ) (d : Row) → i < length rs → in_row (get_or rs i d) p ≡ false →
    find (λ r. in_row r p) (drop i rs) ≡ find (λ r. in_row r p) (drop (suc i) rs)
row-past rs i p d h t = rw (drop-cons rs i d h, t)

-- a test passes at every row of a list
abbrev pub every_row : (Row → Bool) → List Row → Bool
every_row f [] = true
every_row f (r ∷ rs) = f r && every_row f rs

module _ (f : Row → Bool) (p : ℕ) (r : Row) where
  found_in : (rs : List Row) → every_row f rs ≡ true → find (λ y. in_row y p) rs ≡ Some r → (f r ≡ true) × (in_row r p ≡ true)
  found_in [] a e = let z : ◌≡◌ {A = ℕ} 0 1 = cc in absurd (omega arith)
  found_in (x ∷ rs) a e = go (in_row x p) refl e (λ e'. found_in rs (and_right (f x) (every_row f rs) a) e')
    where
      go : (b : Bool) → in_row x p ≡ b → cond b (Some x) (find (λ y. in_row y p) rs) ≡ Some r → (find (λ y. in_row y p) rs ≡ Some r → (f r ≡ true) × (in_row r p ≡ true)) → (f r ≡ true) × (in_row r p ≡ true)
      go true h q later = let same : x ≡ r = cc in (subst (λ y. f y ≡ true) same (and_left (f x) (every_row f rs) a), subst (λ y. in_row y p ≡ true) same h)
      go false h q later = later q

-- what is computed of the table: a row has points, none of them 0; its values are 16 bytes at most and lie within the live table
abbrev pub row_sound : Row → Bool
row_sound r = ltb 0 r.first && (leb r.first r.last && (leb r.size 16 && leb (r.offset + points_size r (r.last + 1 - r.first)) table_bytes))

pub record Looked (r : Row) (p : ℕ) : Type 0 where
  pub named : 0 < r.first
  pub from : r.first ≤ p
  pub to : p ≤ r.last
  pub small : r.size ≤ 16
  pub within : r.offset + points_size r (r.last + 1 - r.first) ≤ table_bytes

pub lookup-sound : (p : ℕ) (r : Row) → row_of p ≡ Some r → Looked r p
unfolding row_of in_row rows points_size
lookup-sound p r e =
    let both = found_in row_sound p r rows refl e in
    let named = ltb 0 r.first in
    let ordered = leb r.first r.last in
    let small = leb r.size 16 in
    let within = leb (r.offset + points_size r (r.last + 1 - r.first)) table_bytes in
    let rest = and_right ordered (small && within) (and_right named (ordered && (small && within)) both.0) in
    let holds = both.1 in
    record {
      named = ltb-true 0 r.first (and_left named (ordered && (small && within)) both.0);
      from = leb-true r.first p (and_left (leb r.first p) (leb p r.last) holds);
      to = leb-true p r.last (and_right (leb r.first p) (leb p r.last) holds);
      small = leb-true r.size 16 (and_left small within rest);
      within = leb-true _ _ (and_right small within rest);
    }

-- the rows adjoin: each starts where the one before ends, the first at byte 0, and the last ends with the table
pub rows_adjoin : ℕ → List Row → Bool
rows_adjoin from [] = eqb from table_bytes
rows_adjoin from (r ∷ rs) = eqb r.offset from && rows_adjoin (from + points_size r (r.last + 1 - r.first)) rs

pub rows_adjoin_lem : rows_adjoin 0 rows ≡ true
unfolding rows_adjoin rows points_size
rows_adjoin_lem = refl

-- the bytes that a kind's value is made of, 0 standing for one bit: each row has its kind's
abbrev pub kind_size : Kind → ℕ
kind_size Boolean = 0
kind_size Int16 = 2
kind_size Text8 = 8
kind_size Int32 = 4
kind_size Float = 4
kind_size Text16 = 16

pub lookup-size : (p : ℕ) (r : Row) → row_of p ≡ Some r → r.size ≡ kind_size r.kind
unfolding row_of rows
lookup-size p r e = eqb-true _ _ (found_in (λ x. eqb x.size (kind_size x.kind)) p r rows refl e).0

-- a group of points: its first is in the row, there is at least one, and they end in the row
pub record Grouped (r : Row) (p n : ℕ) : Type 0 where
  pub looked : Looked r p
  pub some : 1 ≤ n
  pub ends : p + n ≤ r.last + 1

-- the points of a group are those that were asked for, and their row is the one that the lookup gives; there is a point, and they end in it
pub group-inside : (p n : ℕ) (q : Run) → group_of p n ≡ Points q →
    (q ≡ run q.row p n) × (row_of p ≡ Some q.row) × ((leb 1 n && ends_in_row q.row p n) ≡ true)
unfolding group_of
group-inside p n q e = go (unused p n) e
  where
    inside : (x : Row) → row_of p ≡ Some x → (b : Bool) → (leb 1 n && ends_in_row x p n) ≡ b → cond b (Points (run x p n)) Bad ≡ Points q →
        (q ≡ run q.row p n) × (row_of p ≡ Some q.row) × ((leb 1 n && ends_in_row q.row p n) ≡ true)
    inside x f true t e =
        let same : run x p n ≡ q = cc in
        subst (λ y. (y ≡ run y.row p n) × (row_of p ≡ Some y.row) × ((leb 1 n && ends_in_row y.row p n) ≡ true)) same (refl, f, t)
    inside x f false t e = let z : ◌≡◌ {A = ℕ} 0 1 = cc in absurd (omega arith)

    looked : (f : Option Row) → row_of p ≡ f → points_from f p n ≡ Points q →
        (q ≡ run q.row p n) × (row_of p ≡ Some q.row) × ((leb 1 n && ends_in_row q.row p n) ≡ true)
    looked None f e = let z : ◌≡◌ {A = ℕ} 0 1 = cc in absurd (omega arith)
    looked (Some x) f e = inside x f (leb 1 n && ends_in_row x p n) refl e

    go : (b : Bool) → cond b Unused (points_from (row_of p) p n) ≡ Points q →
        (q ≡ run q.row p n) × (row_of p ≡ Some q.row) × ((leb 1 n && ends_in_row q.row p n) ≡ true)
    go true e = let z : ◌≡◌ {A = ℕ} 0 1 = cc in absurd (omega arith)
    go false e = looked (row_of p) refl e

pub group-sound : (p n : ℕ) (r : Row) → group_of p n ≡ Points (run r p n) → Grouped r p n
unfolding ends_in_row
group-sound p n r e =
    let inside = group-inside p n (run r p n) e in
    record {
      looked = lookup-sound p r inside.1;
      some = leb-true 1 n (and_left (leb 1 n) (leb (p + n) (r.last + 1)) inside.2);
      ends = leb-true (p + n) (r.last + 1) (and_right (leb 1 n) (leb (p + n) (r.last + 1)) inside.2);
    }

-- the points of a group are that group
pub group_again : (p n : ℕ) (q : Run) → group_of p n ≡ Points q → group_of q.point q.count ≡ Points q
group_again p n q e = ap (λ x. group_of x.point x.count) (group-inside p n q e).0 ∙ e

-- more points take no fewer bytes
pub points-size-mono : (r : Row) (m n : ℕ) → m ≤ n → points_size r m ≤ points_size r n
unfolding points_size
points-size-mono r m n h = go (eqb r.size 0)
  where
    go : (b : Bool) → cond b ((m + 7) / 8) (m * r.size) ≤ cond b ((n + 7) / 8) (n * r.size)
    go true = omega arith
    go false = mul-le-mul_right r.size h

pub group-size-small : (p n : ℕ) → group_size (group_of p n) ≤ table_bytes
group-size-small p n = go (group_of p n) refl
  where
    go : (g : Group) → group_of p n ≡ g → group_size g ≤ table_bytes
    go Unused e = omega arith
    go Bad e = omega arith
    go (Points q) e =
        let same = (group-inside p n q e).0 in
        let r = q.row in
        let ok = group-sound p n r (e ∙ ap Points same) in
        let span : n ≤ r.last + 1 - r.first = omega (arith, ok.looked.from, ok.ends) in
        let most = points-size-mono r n (r.last + 1 - r.first) span in
        omega (arith, ok.looked.within, most, ap (λ x. points_size x.row x.count) same)

-- the values of a group of points lie within the live table
pub values-within : (r : Row) (p n : ℕ) → Grouped r p n → (r.size ≡ 0 → ⊥) → r.offset + (p - r.first) * r.size + n * r.size ≤ table_bytes
unfolding points_size
values-within r p n ok wide =
    let span : p - r.first + n ≤ r.last + 1 - r.first = omega (arith, ok.looked.from, ok.ends) in
    let most = mul-le-mul_right r.size span in
    let whole : r.offset + (r.last + 1 - r.first) * r.size ≤ table_bytes = simp (ne_eqb r.size 0 wide) at ok.looked.within in
    let sum = add-mul (p - r.first) n r.size in
    omega (arith, most, whole, sum)

-- a group of Booleans lies within its row, and the byte behind the row is still in the table
flags_inside : Row → Bool
flags_inside r = cond (eqb r.size 0) (ltb (r.offset + (r.last + 1 - r.first + 7) / 8) table_bytes) true

pub flags-within : (r : Row) (p n i : ℕ) → group_of p n ≡ Points (run r p n) → r.size ≡ 0 → i < n → r.offset + (p - r.first + i) / 8 + 1 < table_bytes
unfolding rows row_of flags_inside
flags-within r p n i e bits more =
    let ok = group-sound p n r e in
    let inside = (found_in flags_inside p r rows refl (group-inside p n (run r p n) e).1).0 in
    let room : r.offset + (r.last + 1 - r.first + 7) / 8 < table_bytes = ltb-true _ _ (simp bits at inside) in
    omega (arith, ok.looked.from, ok.ends, room)

-- points of a row, at least one and none past its end, are a group
pub group-of-run : (p n : ℕ) (r : Row) → row_of p ≡ Some r → 1 ≤ n → ends_in_row r p n ≡ true → group_of p n ≡ Points (run r p n)
unfolding group_of unused
group-of-run p n r e some ends =
    let ok = lookup-sound p r e in
    let used : eqb p 0 ≡ false = ne_eqb p 0 (λ z. omega (arith, ok.named, ok.from)) in
    simp (used, e, le-leb 1 n some, ends)

-- a point of a row is a group of one
pub group-of-one : (p : ℕ) (r : Row) → row_of p ≡ Some r → group_of p 1 ≡ Points (run r p 1)
unfolding ends_in_row
group-of-one p r e = group-of-run p 1 r e (omega arith) (le-leb (p + 1) (r.last + 1) (omega (arith, (lookup-sound p r e).to)))

-- ---- points of one row, or 0
-- a point of row r, or 0, that is not 0
in_row_lem : (r : Row) (p : ℕ) → in_row_or_none r p ≡ true → (p ≡ 0 → ⊥) → (r.first ≤ p) × (p ≤ r.last)
unfolding in_row
in_row_lem r p ok some =
    let both : (leb r.first p && leb p r.last) ≡ true = simp (ne_eqb p 0 some) at ok in
    (leb-true _ _ (and_left (leb r.first p) (leb p r.last) both), leb-true _ _ (and_right (leb r.first p) (leb p r.last) both))

-- a Boolean point, and its row
pub boolean-inside : (p : ℕ) → boolean_or_none p ≡ true → (p ≡ 0 → ⊥) → (1801 ≤ p) × (p ≤ 1928)
unfolding boolean_or_none
boolean-inside p ok some = in_row_lem boolean_row p ok some

boolean-looked : (p : ℕ) → 1801 ≤ p → p ≤ 1928 → row_of p ≡ Some boolean_row
unfolding row_of rows in_row
boolean-looked p from to = simp (le-leb 1801 p from, le-leb p 1928 to)

pub boolean-is : (p : ℕ) → boolean_or_none p ≡ true → (p ≡ 0 → ⊥) → row_of p ≡ Some boolean_row
boolean-is p ok some = let inside = boolean-inside p ok some in boolean-looked p inside.0 inside.1

-- a Boolean point is in the row that starts with the table, and is one of its 128
pub boolean_row_lem : (p : ℕ) (r : Row) → boolean_or_none p ≡ true → row_of p ≡ Some r →
    (r.offset ≡ 0) × (r.first ≤ p) × (p - r.first < boolean_points)
boolean_row_lem p r ok e =
    let seen = lookup-sound p r e in
    let some : p ≡ 0 → ⊥ = λ z. omega (arith, seen.named, seen.from, z) in
    let inside = boolean-inside p ok some in
    let found = boolean-is p ok some in
    let same : boolean_row ≡ r = cc (found, e) in
    subst (λ x. (x.offset ≡ 0) × (x.first ≤ p) × (p - x.first < boolean_points)) same (refl, inside.0, omega (arith, inside.0, inside.1))

-- Boolean number i is in it
pub boolean-found : (i : ℕ) → i < boolean_points → row_of (boolean_point i) ≡ Some boolean_row
boolean-found i below = boolean-looked (boolean_point i) (omega (arith, below)) (omega (arith, below))

pub boolean_point_lem : (i : ℕ) → i < boolean_points → boolean_or_none (boolean_point i) ≡ true
unfolding boolean_or_none in_row
boolean_point_lem i below =
    simp (ne_eqb (boolean_point i) 0 (λ z. omega (arith, z)), le-leb 1801 (boolean_point i) (omega (arith, below)), le-leb (boolean_point i) 1928 (omega (arith, below)))

-- a float point, its row and its four bytes
pub float-inside : (p : ℕ) → float_or_none p ≡ true → (p ≡ 0 → ⊥) → (7101 ≤ p) × (p ≤ 7228)
unfolding float_or_none
float-inside p ok some = in_row_lem float_row p ok some

-- a point behind a row is not in it
behind : (r : Row) (p : ℕ) → r.last < p → in_row r p ≡ false
unfolding in_row
behind r p after = rw (lt-leb p r.last after) (go (leb r.first p))
  where
    go : (b : Bool) → (b && false) ≡ false
    go true = refl
    go false = refl

pub float_is : (p : ℕ) → float_or_none p ≡ true → (p ≡ 0 → ⊥) → row_of p ≡ Some float_row
unfolding row_of rows float_or_none
float_is p ok some =
    let from = (float-inside p ok some).0 in
    let here : in_row float_row p ≡ true = simp (ne_eqb p 0 some) at ok in
    let past : (i : ℕ) → (get_or rows i float_row).last < 7101 → in_row (get_or rows i float_row) p ≡ false
    = λ i before. behind (get_or rows i float_row) p (omega (arith, from, before)) in
    simp (past 0 (omega arith), past 1 (omega arith), past 2 (omega arith), past 3 (omega arith), here)

pub float_size : (p : ℕ) → float_or_none p ≡ true → (p ≡ 0 → ⊥) → group_size (group_of p 1) ≡ 4
unfolding points_size
float_size p ok some = ap group_size (group-of-one p float_row (float_is p ok some))

-- the total of the first k places
pub groups-size-small : (gs : List ℕ) (k : ℕ) → groups_size gs k ≤ table_bytes * k
unfolding groups_size
groups-size-small gs zero = omega arith
groups-size-small gs (suc k) =
    omega (arith, groups-size-small gs k, group-size-small (first_point_at gs k) (count_at gs k))

-- more places take no fewer bytes
pub groups-size-mono : (gs : List ℕ) (k n : ℕ) → k ≤ n → groups_size gs k ≤ groups_size gs n
unfolding groups_size
groups-size-mono gs k n h =
    le_ind (λ (m : ℕ). groups_size gs k ≤ groups_size gs m) (le_refl (groups_size gs k)) (λ m l so_far. omega arith) n h

-- the bytes of one more place
pub groups-size-next : (gs : List ℕ) (k : ℕ) → groups_size gs (k + 1) ≡ groups_size gs k + group_size (group_at gs k)
unfolding groups_size
groups-size-next gs k = rw add-one refl

-- a bad group at place k, with none before, is the first of any greater number of places
pub first-bad-here : (gs : List ℕ) (k n : ℕ) → first_bad gs k ≡ 0 → is_bad (group_at gs k) ≡ true → k < n → first_bad gs n ≡ k + 1
unfolding first_bad
first-bad-here gs k n none bad more =
    rw add-one (le_ind (λ (m : ℕ). first_bad gs m ≡ suc k) (simp (none, bad)) (λ m h same. simp (same, eqb-suc-zero)) n more)

pub no-bad-more : (gs : List ℕ) (k : ℕ) → first_bad gs k ≡ 0 → is_bad (group_at gs k) ≡ false → first_bad gs (k + 1) ≡ 0
unfolding first_bad
no-bad-more gs k none good = rw add-one (simp (none, good))

-- a good definition: its size is its record's, from 6 to 250
pub record GoodDefinition (gs : List ℕ) (size : ℕ) : Type 0 where
  pub list : length gs ≡ 32
  pub none : first_bad gs 16 ≡ 0
  pub sized : size ≡ record_size gs
  pub least : 6 ≤ size
  pub most : size ≤ 250

-- a definition that the card does not refuse is good, with its record's size
pub judged-done : (gs : List ℕ) → (judged_card gs).number ≡ 0 → (judged gs ≡ Ok (record_size gs)) × GoodDefinition gs (record_size gs)
unfolding judged record_size
judged-done gs done = go (eqb (length gs) 32) (ltb 0 (first_bad gs 16)) (ltb 250 (6 + groups_size gs 16)) refl refl refl done
  where
    go : (b c d : Bool) → eqb (length gs) 32 ≡ b → ltb 0 (first_bad gs 16) ≡ c → ltb 250 (6 + groups_size gs 16) ≡ d
        → (card_told (cond (not b) (Err (refusal.Group 0)) (cond c (Err (refusal.Group (first_bad gs 16))) (cond d (Err refusal.Long) (Ok (6 + groups_size gs 16)))))).number ≡ 0
        → (cond (not b) (Err (refusal.Group 0)) (cond c (Err (refusal.Group (first_bad gs 16))) (cond d (Err refusal.Long) (Ok (6 + groups_size gs 16)))) ≡ Ok (6 + groups_size gs 16)) × GoodDefinition gs (6 + groups_size gs 16)
    go false c d long bad over q = absurd (omega arith)
    go true true d long bad over q = absurd (omega arith)
    go true false true long bad over q = absurd (omega arith)
    go true false false long bad over q =
        let first = ltb-false 0 (first_bad gs 16) bad in
        let fits = ltb-false 250 (6 + groups_size gs 16) over in
        (refl, record { list = eqb-true (length gs) 32 long; none = omega arith; sized = refl; least = omega arith; most = omega arith })

pub judged-good : (gs : List ℕ) (size : ℕ) → judged gs ≡ Ok size → GoodDefinition gs size
judged-good gs size is =
    let both = judged-done gs (ap (λ j. (card_told j).number) is) in
    let same : record_size gs ≡ size = cc (both.0, is) in
    subst (λ n. GoodDefinition gs n) same both.1

-- what is lent for the record of a good definition, out of a longer part
pub good_sized : (gs : List ℕ) (size : ℕ) → judged gs ≡ Ok size → size ≡ record_size gs
good_sized gs size is = (judged-good gs size is).sized

pub good_most : (gs : List ℕ) (size : ℕ) → judged gs ≡ Ok size → size ≤ 250
good_most gs size is = (judged-good gs size is).most

pub ruleset good_definition = (good_sized, good_most, length-take-le)

-- ---- the places that are not walked
pub rest-zero : (gs : List ℕ) (k n : ℕ) → length gs ≤ k + n → ZeroFrom (take n (drop k gs)) 0 → ZeroFrom gs k
rest-zero gs k n long none i behind =
    let all : take n (drop k gs) ≡ drop k gs = take_all n (drop k gs) (omega (arith, length-drop k gs)) in
    let here : k + (i - k) ≡ i = omega (arith, behind) in
    ap (λ j. get_or gs j 0) (sym here) ∙ sym (get_or-drop k gs (i - k) 0) ∙ ap (λ l. get_or l (i - k) 0) (sym all) ∙ none (i - k) (omega arith)

-- places of zeros are unused: they add nothing, and none is bad
module _ (gs : List ℕ) (used : ℕ) (none : ZeroFrom gs (2 * used)) where
  unused-at : (k : ℕ) → used ≤ k → group_at gs k ≡ Unused
  unfolding group_of unused
  unused-at k behind = rw (none (2 * k) (omega (arith, behind)), none (2 * k + 1) (omega (arith, behind))) refl

  pub rest-unused : (k : ℕ) → used ≤ k → (groups_size gs k ≡ groups_size gs used) × (first_bad gs used ≡ 0 → first_bad gs k ≡ 0)
  unfolding groups_size first_bad
  rest-unused k behind =
      le_ind (λ j. (groups_size gs j ≡ groups_size gs used) × (first_bad gs used ≡ 0 → first_bad gs j ≡ 0)) (refl, λ same. same)
      (λ j later so_far. (rw (unused-at j later) (omega (arith, so_far.0)), λ start. rw (so_far.1 start, unused-at j later) refl)) k behind

-- what a walk along the places of a definition needs: what one more place adds, and that sums of sizes stay small
pub ruleset walk_laws = (group-size-small, groups-size-small, groups-size-next, no-bad-more)
