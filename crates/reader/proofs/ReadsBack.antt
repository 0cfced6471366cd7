-- From the reply that carries a captured record the reading end gets back date, kind and value of every captured point.
-- Assumes nothing.
-- The frame is `read_reply`; that the gateway sends it is `machine`'s claim, `EachPollReadsBack`, from end to end.
--     gets_back        the theorem: what the exported calls answer, in numbers, gives back the record's place, its stamp, and for every
--                      point of every group the kind and value that it has in the table, which is one of bytes
--     zeros-empty, filled-not-empty    a record of zeros answers Empty, and a filled one never does
use mathlib.Core.Path.{◌≡◌, refl, sym, ap, ap₂, ◌∙◌}
use mathlib.Core.List.{List, ◌∷◌}
use mathlib.Core.Bool.{Bool, true, false, cond}
use Prim.Native.Nat.{ℕ, ◌+◌, ◌-◌, ◌*◌, ◌≤◌}
use native.Mathlib.Nat.{add-mul, mul-le-mul_right}
use native.Mathlib.Omega.{arith}
use borrow.Author.Tests.{ne_eqb, le-leb}
use lib.Dec.{ltb}
use Rattle.std.specs.Prelude.{Ok, Err}
use lib.ListN.{length, get_or, take, drop, length-append}
use lib.Seq.{take_at}
use Rattle.basics.specs.declared.card.Refusal.TheVariants.{Garbled}
use Rattle.basics.specs.Card.{card, card_told, done_no, empty_no}
use Rattle.basics.specs.Lists.{Bytes, all_zero}
use Rattle.basics.specs.Numbers.{within}
use Rattle.basics.proofs.Tests.{eqb_same}
use Rattle.basics.proofs.Lists.{length_part, part-part}
use Rattle.modbus.specs.Crc.{with_crc, ends_in_crc}
use Rattle.modbus.specs.Frame.{read_reply_by}
use Rattle.modbus.proofs.Laws.{framed-checks}
use Rattle.points.specs.declared.table.Kind.{Kind}
use Rattle.points.specs.declared.table.Kind.TheVariants.{Boolean, Int16, Text8, Int32, Float, Text16}
use Rattle.points.specs.declared.table.Row.{Row}
use Rattle.points.specs.declared.table.Run.{Run}
use Rattle.points.specs.declared.groups.Group.TheVariants.{Points}
use Rattle.points.specs.Table.{table_bytes, points_size}
use Rattle.points.specs.Groups.{group_of, group_at, group_size, judged}
use Rattle.points.proofs.Laws.{judged-good, group_again, group-inside, kind_size, lookup-size}
use Rattle.records.specs.declared.stamp.Stamp.{Stamp}
use Rattle.records.specs.Stamp.{in_range, stamp_from}
use Rattle.records.specs.Capture.{captured_points, captured_group}
use Rattle.records.specs.Record.{record_of}
use Rattle.records.specs.Value.{PointValue, flag, int16, int32, float, text, value_of, table_value, bytes_in_table, value_in_table, value_in_stretch}
use Rattle.records.proofs.Laws.{length-record as record-length}
use Rattle.records.proofs.Found.{stamp-back, record-not-zero, record-stretch, own-inside, found-value}
use Rattle.reader.specs.Frame.{is_reply, record_part, record_checked, reply_checked, frame_checked, stretch_checked, stretch_from, stretch_length, stretch_part}
use Rattle.reader.specs.Answers.{answered, point_in, point_found, point_value, found_record, found_stamp, record_answer, stamp_answer, point_answer}
use Rattle.reader.proofs.Laws.{place_inside, named-is, value_of_lem, flag-of}
use Rattle.reader.specs.ReadsBack.{record_reply, told_by, kind_number, GetsBack}
use Rattle.reader.proofs.Told.{numbers-tell, table_fits}

-- ---- Empty is told of zeros, and only of zeros
pub zeros-empty : (gs : List ℕ) (d : Bool) (f : List ℕ) (size : ℕ) → judged gs ≡ Ok size → is_reply f size ≡ true →
    all_zero (record_part f size) ≡ true → card_told (frame_checked gs d f) ≡ card empty_no 0
unfolding frame_checked reply_checked record_checked
zeros-empty gs d f size good reply zeros = simp (good, reply, zeros)

pub filled-not-empty : (gs : List ℕ) (d : Bool) (f : List ℕ) (size : ℕ) → judged gs ≡ Ok size → is_reply f size ≡ true →
    all_zero (record_part f size) ≡ false → (card_told (frame_checked gs d f)).number ≡ empty_no → ⊥
unfolding frame_checked reply_checked record_checked
filled-not-empty gs d f size good reply filled empty = go (in_range (stamp_from d (record_part f size))) (simp (good, reply, filled) at empty)
  where
    go : (b : Bool) → (card_told (cond b (Ok (length (record_part f size))) (Err Garbled))).number ≡ empty_no → ⊥
    go true e = omega arith
    go false e = omega arith

-- ---- a text's own bytes
-- a value that is a text is the point's own bytes, which are not bits
text-bytes : (r : Row) (stretch : List ℕ) (i : ℕ) (bs : List ℕ) → r.size ≡ kind_size r.kind → value_in_stretch r stretch i ≡ text bs →
    (r.size ≡ 0 → ⊥) × (take r.size (drop (i * r.size) stretch) ≡ bs)
text-bytes r stretch i bs size says = go r.kind refl
  where
    never : {X : Type 0} → ◌≡◌ {A = ℕ} 0 1 → X
    never z = absurd (omega arith)

    own : (k : Kind) → r.kind ≡ k → ltb 0 (kind_size k) ≡ true → value_of k (take (kind_size k) (drop (i * r.size) stretch)) ≡ text bs
    own k is wide = sym (value_of_lem r stretch i k is (size ∙ ap kind_size is) wide) ∙ says

    go : (k : Kind) → r.kind ≡ k → (r.size ≡ 0 → ⊥) × (take r.size (drop (i * r.size) stretch) ≡ bs)
    go Boolean is = let q = sym (flag-of r stretch i is (size ∙ ap kind_size is)) ∙ says in never (cc)
    go Int16 is = let q = own Int16 is refl in never (cc)
    go Int32 is = let q = own Int32 is refl in never (cc)
    go Float is = let q = own Float is refl in never (cc)
    go Text8 is =
        let q = own Text8 is refl in
        let same : take 8 (drop (i * r.size) stretch) ≡ bs = cc in
        let z : r.size ≡ 8 = size ∙ ap kind_size is in (λ none. omega (arith, z, none), ap (λ k. take k (drop (i * r.size) stretch)) z ∙ same)
    go Text16 is =
        let q = own Text16 is refl in
        let same : take 16 (drop (i * r.size) stretch) ≡ bs = cc in
        let z : r.size ≡ 16 = size ∙ ap kind_size is in (λ none. omega (arith, z, none), ap (λ k. take k (drop (i * r.size) stretch)) z ∙ same)

points-size-wide : (r : Row) (n : ℕ) → (r.size ≡ 0 → ⊥) → points_size r n ≡ n * r.size
unfolding points_size
points-size-wide r n wide = simp (ne_eqb r.size 0 wide)

-- ---- what the reading end gets back
-- a value that is answered is done
answered-done : (v : PointValue) (at : ℕ) → (point_answer (answered v at)).number ≡ done_no
answered-done (flag b) at = refl
answered-done (int16 z) at = refl
answered-done (int32 z) at = refl
answered-done (float x) at = refl
answered-done (text bs) at = refl

-- and its kind is the row's
answered-kind : (t : List ℕ) (r : Row) (p at : ℕ) → (point_answer (answered (value_in_table t r p) at)).kind ≡ kind_number r.kind
unfolding value_in_table
answered-kind t r p at = go r.kind
  where
    go : (k : Kind) → (point_answer (answered (table_value k (bytes_in_table t r p)) at)).kind ≡ kind_number k
    go Boolean = refl
    go Int16 = refl
    go Text8 = refl
    go Int32 = refl
    go Float = refl
    go Text16 = refl

module _ (unit size : ℕ) (d : Bool) (s : Stamp) (t gs : List ℕ)
    (ours : within 1 247 unit ≡ true) (good : judged gs ≡ Ok size) (table : length t ≡ table_bytes) (bytes : Bytes t) (dated : in_range s ≡ true) where
  long : length (record_of d s t gs) ≡ size
  long = record-length d s t gs ∙ sym (judged-good gs size good).sized

  reply-long : length (record_reply unit d s t gs) ≡ size + 5
  unfolding read_reply_by with_crc
  reply-long = simp length-append (omega (arith, long))

  record-in : record_part (record_reply unit d s t gs) size ≡ record_of d s t gs
  unfolding read_reply_by with_crc
  record-in = take_at (record_of d s t gs) _ size long

  ends : ends_in_crc (record_reply unit d s t gs) ≡ true
  unfolding read_reply_by
  ends = framed-checks (unit ∷ 3 ∷ length (record_of d s t gs) ∷ record_of d s t gs)

  -- unit, function and byte count
  head : (get_or (record_reply unit d s t gs) 0 0 ≡ unit) × (get_or (record_reply unit d s t gs) 1 0 ≡ 3) × (get_or (record_reply unit d s t gs) 2 0 ≡ length (record_of d s t gs))
  unfolding read_reply_by with_crc
  head = (refl, refl, refl)

  checks : is_reply (record_reply unit d s t gs) size ≡ true
  unfolding is_reply
  checks = simp (reply-long, eqb_same, head.0, ours, head.1, head.2, long, ends)

  frame-done : frame_checked gs d (record_reply unit d s t gs) ≡ Ok size
  unfolding frame_checked reply_checked record_checked
  frame-done = simp (good, checks, record-in, record-not-zero d s t gs dated, stamp-back d s t gs, dated, long)

  -- ---- a place of points
  module _ (g : ℕ) (q : Run) (from : 1 ≤ g) (to : g ≤ 16) (is : group_at gs (g - 1) ≡ Points q) where
    r : Row
    r = q.row

    p : ℕ
    p = q.point

    n : ℕ
    n = q.count

    own : group_of q.point q.count ≡ Points q
    own = group_again _ _ q is

    stretch-done : stretch_checked gs d (record_reply unit d s t gs) g ≡ Ok size
    unfolding stretch_checked
    stretch-done = simp (frame-done, le-leb 1 g from, le-leb g 16 to, is)

    fits : stretch_from gs g + stretch_length gs g ≤ size
    fits =
        let sized : stretch_length gs g ≡ points_size q.row q.count = ap group_size is in
        omega (arith, sized, place_inside gs (g - 1) q (omega arith) is, (judged-good gs size good).sized)

    in-record : stretch_part gs (record_part (record_reply unit d s t gs) size) g ≡ captured_points t r p n
    unfolding r p n
    in-record =
        ap (λ l. stretch_part gs l g) record-in ∙ record-stretch d s t gs (g - 1) (omega arith)
        ∙ ap (captured_group t) is

    in_frame : take (stretch_length gs g) (drop (3 + stretch_from gs g) (record_reply unit d s t gs)) ≡ captured_points t r p n
    in_frame =
        sym (part-part (record_reply unit d s t gs) 3 size (stretch_from gs g) (stretch_length gs g) (omega (arith, reply-long)) fits) ∙ in-record

    -- ---- a point of it
    module _ (e : ℕ) (some : 1 ≤ e) (most : e ≤ n) where
      in_table : value_in_stretch r (captured_points t r p n) (e - 1) ≡ value_in_table t r (p + (e - 1))
      unfolding r p n
      in_table = found-value t r p n (e - 1) table own (omega arith)

      value-back : point_value gs d (record_reply unit d s t gs) g e ≡ answered (value_in_table t r (p + (e - 1))) (3 + stretch_from gs g + (e - 1) * r.size)
      unfolding point_value r p n
      value-back =
          ap (λ c. point_found c gs (record_reply unit d s t gs) g e) stretch-done
          ∙ ap₂ (λ x l. point_in x l (3 + stretch_from gs g) e) (named-is gs g from to ∙ is) in-record
          ∙ simp (le-leb 1 e some, le-leb e n most) (ap (λ v. answered v (3 + stretch_from gs g + (e - 1) * r.size)) in_table)

      -- a text's bytes in the frame are the text
      words_back : (bs : List ℕ) → value_in_table t r (p + (e - 1)) ≡ text bs →
          take (length bs) (drop (3 + stretch_from gs g + (e - 1) * r.size) (record_reply unit d s t gs)) ≡ bs
      unfolding r p n
      words_back bs says =
          let z = r.size in
          let i = e - 1 in
          let words = text-bytes r (captured_points t r p n) i bs (lookup-size p r (group-inside p n q own).1) (in_table ∙ says) in
          let ends : (i + 1) * z ≤ n * z = mul-le-mul_right z (omega arith) in
          let next : (i + 1) * z ≡ i * z + 1 * z = add-mul i 1 z in
          let sized : stretch_length gs g ≡ n * z = ap group_size is ∙ points-size-wide r n words.0 in
          let here : take z (drop (3 + stretch_from gs g + i * z) (record_reply unit d s t gs)) ≡ bs
          = sym (part-part (record_reply unit d s t gs) (3 + stretch_from gs g) (stretch_length gs g) (i * z) z (omega (arith, reply-long, fits)) (omega (arith, ends, next, sized)))
          ∙ ap (λ l. take z (drop (i * z) l)) in_frame ∙ words.1 in
          let count : length bs ≡ z
          = ap length (sym here) ∙ length_part (record_reply unit d s t gs) (3 + stretch_from gs g + i * z) z (omega (arith, reply-long, fits, ends, next, sized)) in
          ap (λ k. take k (drop (3 + stretch_from gs g + i * z) (record_reply unit d s t gs))) count ∙ here

      -- the answer in numbers
      point-back : let answer = point_answer (point_value gs d (record_reply unit d s t gs) g e) in
          (answer.number ≡ done_no) × (answer.kind ≡ kind_number r.kind) × (told_by (record_reply unit d s t gs) answer ≡ value_in_table t r (p + (e - 1)))
      unfolding r p n
      point-back =
          let v = value_in_table t r (p + (e - 1)) in
          let at = 3 + stretch_from gs g + (e - 1) * r.size in
          let size = lookup-size p r (group-inside p n q own).1 in
          let fits = table_fits t r (p + (e - 1)) bytes size (own-inside t r p n (e - 1) table own (omega arith)) in (
            ap (λ x. (point_answer x).number) value-back ∙ answered-done v at,
            ap (λ x. (point_answer x).kind) value-back ∙ answered-kind t r (p + (e - 1)) at,
            ap (λ x. told_by (record_reply unit d s t gs) (point_answer x)) value-back ∙ numbers-tell (record_reply unit d s t gs) v at fits words_back,
          )

  pub gets_back : GetsBack unit size d s t gs
  unfolding record_answer stamp_answer found_record found_stamp r p n
  gets_back =
      record {
        whole = simp frame-done;
        stamp = simp (frame-done, record-in, stamp-back d s t gs);
        point = λ g e q from to is some most. point-back g q from to is e some most;
      }
