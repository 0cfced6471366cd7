-- Laws of the reading end's answers. Assumes nothing.
--     record-good, frame-good    what a record and a frame are that are not refused
--     stretch-good     what a place is whose stretch is not refused
--     named-is, place-fits, place_inside    a place's group, and that its stretch ends within the record
--     lent-record, length-stretch    its record is as `stretch_of` asks, and how long the stretch is
--     two_bytes, four_bytes    numbers from bytes
--     value_of_lem, flag-of    a point's value in a stretch, by kind
--     stretch_laws     what a stretch holds of a point, and the point's value, by kind
use mathlib.Core.Path.{◌≡◌, refl, sym, ap, ap₂, ◌∙◌, subst}
use mathlib.Core.List.{List, [], ◌∷◌}
use mathlib.Core.Bool.{Bool, true, false, cond}
use mathlib.Core.Logic.{◌⊎◌, ⊎_elim}
use Prim.Native.Nat.{ℕ, ◌+◌, ◌-◌, ◌*◌, ◌<◌, ◌≤◌}
use native.Mathlib.Nat.{add-zero, add-mul, mul-le-mul_right}
use native.Mathlib.Omega.{arith}
use borrow.Author.Tests.{eqb-true, leb-true, le-leb, ltb-true, eq-eqb, ne_eqb}
use lib.Dec.{eqb, leb, ltb}
use lib.ListN.{length, get_or, take, drop}
use Rattle.std.specs.Prelude.{Result, Ok, Err}
use Rattle.basics.specs.declared.card.Refusal.{Refusal}
use Rattle.basics.specs.declared.card.Refusal.TheVariants.{Garbled}
use Rattle.basics.specs.Lists.{all_zero, tabulate}
use Rattle.basics.specs.Numbers.{within}
use Rattle.basics.proofs.Tests.{and_left, and_right, eq-or-not}
use Rattle.basics.proofs.Lists.{length_part, part-tabulate}
use Rattle.modbus.specs.Word.{number_of, word_at}
use Rattle.points.specs.declared.table.Kind.{Kind}
use Rattle.points.specs.declared.table.Kind.TheVariants.{Boolean, Int16, Text8, Int32, Float, Text16}
use Rattle.points.specs.declared.table.Row.{Row}
use Rattle.points.specs.declared.table.Run.{Run}
use Rattle.points.specs.declared.groups.Group.{Group}
use Rattle.points.specs.declared.groups.Group.TheVariants.{Unused, Points, Bad}
use Rattle.points.specs.Table.{flag_at, packed_size, points_size}
use Rattle.points.specs.Groups.{judged, group_at, group_size, groups_size, record_size}
use Rattle.points.proofs.Laws.{GoodDefinition, judged-good, group-inside, kind_size, lookup-size, groups-size-next, groups-size-mono}
use Rattle.records.specs.Stamp.{in_range, stamp_from}
use Rattle.records.specs.Value.{flag, int16, int32, float, signed, value_of, bytes_in_stretch, value_in_stretch}
use Rattle.reader.specs.declared.stretch.Stretch.{Stretch}
use Rattle.reader.specs.declared.answers.Value.TheVariants.{Text}
use Rattle.reader.specs.Answers.{part, answered}
use Rattle.reader.specs.Stretch.{LentRecord, IsLent}
use Rattle.reader.specs.Frame.{and_then, is_reply, record_part, record_checked, reply_checked, frame_checked, group_named, place_checked, stretch_checked, stretch_from, stretch_length, stretch_part}

never : {X : Type 0} → ◌≡◌ {A = ℕ} 0 1 → X
never z = absurd (omega arith)

-- ---- a frame that is not refused
pub record GoodFrame (gs : List ℕ) (d : Bool) (f : List ℕ) (size : ℕ) : Type 0 where
  pub definition : GoodDefinition gs size
  pub reply : is_reply f size ≡ true
  pub long : length f ≡ size + 5
  pub filled : all_zero (record_part f size) ≡ false
  pub dated : in_range (stamp_from d (record_part f size)) ≡ true

pub reply-long : (f : List ℕ) (size : ℕ) → is_reply f size ≡ true → length f ≡ size + 5
unfolding is_reply
reply-long f size e = eqb-true (length f) (size + 5) (and_left (eqb (length f) (size + 5)) _ e)

-- what a record is that passes
pub record-good : (d : Bool) (bs : List ℕ) (size : ℕ) → record_checked d bs ≡ Ok size →
    (all_zero bs ≡ false) × (in_range (stamp_from d bs) ≡ true) × (length bs ≡ size)
unfolding record_checked
record-good d bs size e = grind arith

pub frame-good : (gs : List ℕ) (d : Bool) (f : List ℕ) (size : ℕ) → frame_checked gs d f ≡ Ok size → GoodFrame gs d f size
unfolding frame_checked reply_checked
frame-good gs d f size e = go (judged gs) refl e
  where
    replied : (n : ℕ) → GoodDefinition gs n → (b : Bool) → is_reply f n ≡ b → cond b (record_checked d (record_part f n)) (Err Garbled) ≡ Ok size → GoodFrame gs d f size
    replied n ok true t q =
        let long = reply-long f n t in
        let good = record-good d (record_part f n) size q in
        let same : n ≡ size = sym (length_part f 3 n (omega (arith, long))) ∙ good.2 in
        subst (λ k. GoodFrame gs d f k) same (record { definition = ok; reply = t; long = long; filled = good.0; dated = good.1 })
    replied n ok false t q = never (cc)

    go : (j : Result ℕ Refusal) → judged gs ≡ j → and_then j (reply_checked d f) ≡ Ok size → GoodFrame gs d f size
    go (Ok n) is q = replied n (judged-good gs n is) (is_reply f n) refl q
    go (Err refusal) is q = never (cc)

pub length-record : (gs : List ℕ) (d : Bool) (f : List ℕ) (size : ℕ) → GoodFrame gs d f size → length (record_part f size) ≡ size
length-record gs d f size ok = length_part f 3 size (omega (arith, ok.long))

-- ---- places
-- the group of a place
pub named-is : (gs : List ℕ) (g : ℕ) → 1 ≤ g → g ≤ 16 → group_named gs g ≡ group_at gs (g - 1)
named-is gs g from to = simp (le-leb 1 g from, le-leb g 16 to)

-- the points of a place end within the record
pub place_inside : (gs : List ℕ) (k : ℕ) (q : Run) → k < 16 → group_at gs k ≡ Points q →
    6 + groups_size gs k + points_size q.row q.count ≤ record_size gs
unfolding record_size
place_inside gs k q below is =
    let sized : group_size (group_at gs k) ≡ points_size q.row q.count = ap group_size is in
    omega (arith, sized, groups-size-next gs k, groups-size-mono gs (k + 1) 16 (omega arith))

-- the stretch of any place ends within the record
pub place-fits : (gs : List ℕ) (g size : ℕ) → GoodDefinition gs size → 1 ≤ g → g ≤ 16 → stretch_from gs g + stretch_length gs g ≤ size
unfolding record_size
place-fits gs g size ok from to =
    let here : g - 1 + 1 ≡ g = omega arith in
    let next : groups_size gs g ≡ groups_size gs (g - 1) + stretch_length gs g = ap (groups_size gs) (sym here) ∙ groups-size-next gs (g - 1) in
    omega (arith, ok.sized, next, groups-size-mono gs g 16 to)

-- ---- a stretch that is not refused
pub record GoodStretch (gs : List ℕ) (d : Bool) (f : List ℕ) (g size : ℕ) : Type 0 where
  pub frame : GoodFrame gs d f size
  pub from : 1 ≤ g
  pub to : g ≤ 16
  pub fits : stretch_from gs g + stretch_length gs g ≤ size

pub stretch-good : (gs : List ℕ) (d : Bool) (f : List ℕ) (g size : ℕ) → stretch_checked gs d f g ≡ Ok size → GoodStretch gs d f g size
unfolding stretch_checked
stretch-good gs d f g size e = go (frame_checked gs d f) refl e
  where
    inside : (n : ℕ) → GoodFrame gs d f n → within 1 16 g ≡ true → (x : Group) → place_checked x n ≡ Ok size → GoodStretch gs d f g size
    inside n ok place Unused q = never (cc)
    inside n ok place Bad q = never (cc)
    inside n ok place (Points r) q =
        let from = leb-true 1 g (and_left (leb 1 g) (leb g 16) place) in
        let to = leb-true g 16 (and_right (leb 1 g) (leb g 16) place) in
        let same : n ≡ size = cc in
        subst (λ k. GoodStretch gs d f g k) same (record { frame = ok; from = from; to = to; fits = place-fits gs g n ok.definition from to })

    named : (n : ℕ) → GoodFrame gs d f n → (b : Bool) → within 1 16 g ≡ b → place_checked (cond b (group_at gs (g - 1)) Unused) n ≡ Ok size → GoodStretch gs d f g size
    named n ok true t q = inside n ok t (group_at gs (g - 1)) q
    named n ok false t q = never (cc)

    go : (c : Result ℕ Refusal) → frame_checked gs d f ≡ c → and_then c (place_checked (group_named gs g)) ≡ Ok size → GoodStretch gs d f g size
    go (Ok n) is q = named n (frame-good gs d f n is) (within 1 16 g) refl q
    go (Err refusal) is q = never (cc)

-- the record of such a stretch, as it is handed on
pub lent-record : (gs : List ℕ) (d : Bool) (f : List ℕ) (g size from : ℕ) → GoodStretch gs d f g size → from ≡ stretch_from gs g → LentRecord gs (record_part f size) g from
lent-record gs d f g size from ok starts =
    let long = length-record gs d f size ok.frame in
    record {
      least = ok.from;
      most = ok.to;
      starts = starts;
      inside = rw long ok.fits;
      short = rw long ok.frame.definition.most;
    }

pub length-stretch : (gs bs : List ℕ) (g from : ℕ) → LentRecord gs bs g from → length (stretch_part gs bs g) ≡ stretch_length gs g
length-stretch gs bs g from lent = length_part bs (stretch_from gs g) (stretch_length gs g) lent.inside

-- ---- numbers from bytes
pub two_bytes : (s : List ℕ) (i : ℕ) → i + 2 ≤ length s → number_of (take 2 (drop i s)) ≡ word_at s i
unfolding tabulate
two_bytes s i fits = ap number_of (part-tabulate s i 2 fits) ∙ ap (λ k. number_of (get_or s k 0 ∷ get_or s (i + 1) 0 ∷ [])) (add-zero i)

pub four_bytes : (s : List ℕ) (i : ℕ) → i + 4 ≤ length s → number_of (take 4 (drop i s)) ≡ word_at s i * 65536 + word_at s (i + 2)
unfolding tabulate
four_bytes s i fits =
    let next : i + 2 + 1 ≡ i + 3 = omega arith in
    ap number_of (part-tabulate s i 4 fits) ∙ rw (add-zero, next) (omega arith)

-- ---- a point's value in a stretch, by kind
-- a kind of whole bytes
pub value_of_lem : (r : Row) (stretch : List ℕ) (e : ℕ) (k : Kind) → r.kind ≡ k → r.size ≡ kind_size k → ltb 0 (kind_size k) ≡ true →
    value_in_stretch r stretch e ≡ value_of k (take (kind_size k) (drop (e * r.size) stretch))
unfolding value_in_stretch bytes_in_stretch
value_of_lem r stretch e k is size wide =
    let some : r.size ≡ 0 → ⊥ = λ none. omega (arith, ltb-true 0 (kind_size k) wide, size, none) in
    simp (ne_eqb r.size 0 some) (ap₂ (λ x z. value_of x (take z (drop (e * r.size) stretch))) is size)

-- single bits
pub flag-of : (r : Row) (stretch : List ℕ) (e : ℕ) → r.kind ≡ Boolean → r.size ≡ 0 → value_in_stretch r stretch e ≡ flag (eqb (flag_at stretch 0 e) 1)
unfolding value_in_stretch bytes_in_stretch
flag-of r stretch e is bits = simp (eq-eqb r.size 0 bits) (ap (λ x. value_of x (flag_at stretch 0 e ∷ [])) is)

-- ---- what a stretch holds of point e, counted from 0
-- the row's size is its kind's
lent-size : (s : Stretch) (k : Kind) → IsLent s → s.run.row.kind ≡ k → s.run.row.size ≡ kind_size k
lent-size s k lent is = lookup-size s.run.point s.run.row (group-inside s.run.point s.run.count s.run lent.grouped).1 ∙ ap kind_size is

-- Booleans
pub lent-flags : (s : Stretch) → IsLent s → s.run.row.kind ≡ Boolean → s.run.count ≤ 8 * length s.bytes.now
unfolding points_size
lent-flags s lent is =
    let test = eq-eqb s.run.row.size 0 (lent-size s Boolean lent is) in
    let packed : length s.bytes.now ≡ packed_size s.run.count = simp test at lent.sized in
    omega (arith, packed)

module _ (s : Stretch) (e : ℕ) (lent : IsLent s) (known : e < s.run.count) where
  -- a value of whole bytes
  whole-bytes : (s.run.row.size ≡ 0 → ⊥) → (e + 1) * s.run.row.size ≤ length s.bytes.now
  unfolding points_size
  whole-bytes some =
      let test = ne_eqb s.run.row.size 0 some in
      let wide : length s.bytes.now ≡ s.run.count * s.run.row.size = simp test at lent.sized in
      rw wide (mul-le-mul_right s.run.row.size (omega (arith, known)))

  -- the place of a value of any kind
  pub lent-place : e * s.run.row.size ≤ length s.bytes.now
  lent-place = ⊎_elim (λ none. rw none (omega arith)) (λ some. omega (arith, whole-bytes some, add-mul e 1 s.run.row.size)) (eq-or-not s.run.row.size 0)

  -- a Boolean
  pub flag-value : s.run.row.kind ≡ Boolean → value_in_stretch s.run.row s.bytes.now e ≡ flag (eqb (flag_at s.bytes.now 0 e) 1)
  flag-value is = flag-of s.run.row s.bytes.now e is (lent-size s Boolean lent is)

  -- a value of another kind
  module _ (k : Kind) (is : s.run.row.kind ≡ k) (wide : ltb 0 (kind_size k) ≡ true) where
    lent-bytes : e * s.run.row.size + kind_size k ≤ length s.bytes.now
    lent-bytes =
        let size = lent-size s k lent is in
        let some : s.run.row.size ≡ 0 → ⊥ = λ none. omega (arith, ltb-true 0 (kind_size k) wide, size, none) in
        omega (arith, whole-bytes some, add-mul e 1 s.run.row.size, size)

    own-value : value_in_stretch s.run.row s.bytes.now e ≡ value_of k (take (kind_size k) (drop (e * s.run.row.size) s.bytes.now))
    own-value = value_of_lem s.run.row s.bytes.now e k is (lent-size s k lent is) wide

    own-long : length (take (kind_size k) (drop (e * s.run.row.size) s.bytes.now)) ≡ s.run.row.size
    own-long = length_part s.bytes.now (e * s.run.row.size) (kind_size k) lent-bytes ∙ sym (lent-size s k lent is)

  -- a number
  pub lent-two : s.run.row.kind ≡ Int16 → e * s.run.row.size + 2 ≤ length s.bytes.now
  lent-two is = lent-bytes Int16 is refl

  pub lent-four : (s.run.row.kind ≡ Int32) ⊎ (s.run.row.kind ≡ Float) → e * s.run.row.size + 4 ≤ length s.bytes.now
  lent-four is = ⊎_elim (λ long. lent-bytes Int32 long refl) (λ single. lent-bytes Float single refl) is

  pub int16-value : s.run.row.kind ≡ Int16 → value_in_stretch s.run.row s.bytes.now e ≡ int16 (signed 16 (number_of (take 2 (drop (e * s.run.row.size) s.bytes.now))))
  int16-value is = own-value Int16 is refl

  pub int32-value : s.run.row.kind ≡ Int32 → value_in_stretch s.run.row s.bytes.now e ≡ int32 (signed 32 (number_of (take 4 (drop (e * s.run.row.size) s.bytes.now))))
  int32-value is = own-value Int32 is refl

  pub float-value : s.run.row.kind ≡ Float → value_in_stretch s.run.row s.bytes.now e ≡ float (number_of (take 4 (drop (e * s.run.row.size) s.bytes.now)))
  float-value is = own-value Float is refl

  -- a text
  pub text-value : (at : ℕ) → (s.run.row.kind ≡ Text8) ⊎ (s.run.row.kind ≡ Text16) → answered (value_in_stretch s.run.row s.bytes.now e) at ≡ Text (part at s.run.row.size)
  text-value at =
      ⊎_elim (λ is. rw (own-value Text8 is refl, own-long Text8 is refl) refl) (λ is. rw (own-value Text16 is refl, own-long Text16 is refl) refl)

pub ruleset stretch_laws = (lent-flags, lent-place, lent-two, lent-four, flag-value, int16-value, int32-value, float-value, text-value)
