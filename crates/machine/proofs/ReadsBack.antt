-- What was captured comes back: from a scan of a list, by a poll after it, to the reading end's answers. Assumes nothing.
--     tells-empty             a reply of zeros is told as Empty (15)
--     each_poll_reads_back    the claim
use mathlib.Core.Path.{◌≡◌, refl, sym, ap, ◌∙◌, subst}
use mathlib.Core.List.{List, ◌∷◌}
use mathlib.Core.Logic.{◌⊎◌, inl, inr}
use mathlib.Core.Bool.{Bool, true}
use Prim.Native.Nat.{ℕ, zero, suc, ◌+◌, ◌<◌}
use native.Mathlib.Omega.{arith}
use borrow.Author.Tests.{eqb-true}
use lib.ListN.{length, get_or, replicate, length-append, length-replicate}
use lib.Seq.{take_at, take-append_seam}
use Rattle.basics.specs.declared.card.Refusal.TheVariants.{Empty}
use Rattle.basics.specs.Lists.{all_zero}
use Rattle.basics.proofs.Tests.{eqb_same}
use Rattle.modbus.specs.Crc.{with_crc, ends_in_crc}
use Rattle.modbus.specs.Frame.{good_unit, read_reply, read_reply_by}
use Rattle.modbus.proofs.Laws.{framed-checks}
use Rattle.std.specs.Prelude.{Ok, Err}
use Rattle.points.specs.Groups.{record_size, judged}
use Rattle.points.proofs.Laws.{judged-done}
use Rattle.reader.specs.Frame.{is_reply, record_part, record_checked, reply_checked, frame_checked, stretch_checked}
use Rattle.reader.specs.Answers.{found_record, found_stretch, found_stamp, record_answer, stretch_answer, stamp_answer, point_value}
use Rattle.reader.proofs.ReadsBack.{gets_back}
use Rattle.archive.specs.Layout.{definition, defined_files, all_files, is_good, good_files, limit_of}
use Rattle.archive.proofs.Layouts.{every-at, size-file}
use Rattle.state.specs.declared.parts.State.{State}
use Rattle.state.specs.State.{laid_out}
use Rattle.state.specs.Validity.{valid}
use Rattle.state.proofs.Clauses.{valid-split, site-split}
use Rattle.machine.specs.Machine.{Machine, Call, Outcome, after, fresh}
use Rattle.machine.specs.View.{state_of}
use Rattle.machine.specs.Runs.{Ran}
use Rattle.machine.specs.Readings.{ReadsAs, record_bytes, replied_with}
use Rattle.machine.specs.ReadsBack.{LentBytes, TellsEmpty, ComesBack, empty, captured, sent_by, EachPollReadsBack}
use Rattle.machine.proofs.Whole.{ended}
use Rattle.machine.proofs.Words.{end_reads}
use Rattle.machine.proofs.Sources.{site-kept, Made, EachMade, all_made, zeros-or-made}
use Rattle.machine.proofs.Replies.{unit_kept, same_bytes}

-- ---- a reply of zeros
all-zeros : (n : ℕ) → all_zero (replicate n 0) ≡ true
all-zeros zero = refl
all-zeros (suc n) = all-zeros n

module _ (unit size : ℕ) (gs : List ℕ) (day_first : Bool) (ours : good_unit unit ≡ true) (good : judged gs ≡ Ok size) where
  abbrev blank : List ℕ
  blank = replicate size 0

  abbrev frame : List ℕ
  frame = read_reply unit blank

  blank-long : length blank ≡ size
  blank-long = length-replicate size 0

  frame-long : length frame ≡ size + 5
  unfolding read_reply_by with_crc
  frame-long = simp length-append (omega (arith, blank-long))

  frame-head : (get_or frame 0 0 ≡ unit) × (get_or frame 1 0 ≡ 3) × (get_or frame 2 0 ≡ length blank)
  unfolding read_reply_by with_crc
  frame-head = (refl, refl, refl)

  frame-ends : ends_in_crc frame ≡ true
  unfolding read_reply_by
  frame-ends = framed-checks (unit ∷ 3 ∷ length blank ∷ blank)

  frame-part : record_part frame size ≡ blank
  unfolding read_reply_by with_crc
  frame-part = take_at blank _ size blank-long

  frame-replies : is_reply frame size ≡ true
  unfolding is_reply
  frame-replies = simp (frame-long, eqb_same, frame-head.0, ours, frame-head.1, frame-head.2, blank-long, frame-ends)

  frame-empty : frame_checked gs day_first frame ≡ Err Empty
  unfolding frame_checked reply_checked record_checked
  frame-empty = simp (good, frame-replies, frame-part, all-zeros size)

  pub tells-empty : TellsEmpty gs day_first frame
  unfolding record_answer stamp_answer stretch_answer found_record found_stamp found_stretch stretch_checked point_value
  tells-empty = record { whole = simp frame-empty; stamp = simp frame-empty; stretch = λ g. simp frame-empty; point = λ g e. simp frame-empty }

-- ---- the frame that goes out
sent-reply : (buffer reply : List ℕ) → sent_by (replied_with buffer reply) ≡ reply
sent-reply buffer reply = take-append_seam reply _

-- ---- file f after a list
module _ {day_first : Bool} {unit firmware : ℕ} {m₀ : List ℕ} {cs : List Call} {os : List Outcome} {s : State} {m : List ℕ}
    (ran : Ran day_first unit firmware m₀ cs os s m) (f : ℕ) (below : f < defined_files) where
  abbrev end_machine : Machine
  end_machine = after (fresh day_first unit firmware (length m₀)) cs

  abbrev gs : List ℕ
  gs = definition s.files.layout.groups f

  -- its captures
  file-made : EachMade cs day_first gs (end_machine.files.lists f)
  unfolding state_of fresh
  file-made =
      let site : end_machine.site.day_first ≡ day_first = ap (λ x. x.day_first) (site-kept (fresh day_first unit firmware (length m₀)) cs) in
      let laid : end_machine.files.laid_out ≡ s.files.layout = ap (λ t. t.files.layout) (sym (ended ran).0.state) in
      rw (site, laid) at (all_made day_first unit firmware (length m₀) cs f below)

  -- its definition, and the unit
  file-good : (judged gs ≡ Ok (record_size gs)) × (good_unit unit ≡ true)
  unfolding good_files is_good
  file-good =
      let end = ended ran in
      let k = valid-split s (subst (λ t. valid t ≡ true) (sym end.0.state) end.1.sound) in (
        (judged-done gs (eqb-true _ _ (every-at (λ i. is_good (definition s.files.layout.groups i)) defined_files f k.laid below))).0,
        subst (λ u. good_unit u ≡ true) (unit_kept ran) (site-split s.site k.site).0,
      )

  -- the reply with a record of it
  comes_back : LentBytes cs → (bytes : List ℕ) → (bytes ≡ replicate (record_size gs) 0) ⊎ Made cs day_first gs bytes →
      ComesBack cs day_first unit gs (read_reply unit bytes)
  comes_back lent bytes (inl is) =
      subst (λ b. ComesBack cs day_first unit gs (read_reply unit b)) (sym is)
      (empty refl (tells-empty unit (record_size gs) gs day_first file-good.1 file-good.0))
  comes_back lent bytes (inr made) =
      let by = made.0 in
      captured by (ap (read_reply unit) made.1)
      (gets_back unit (record_size gs) day_first by.stamp by.table gs file-good.1 file-good.0 by.whole
      (lent by.table by.stamp by.called) by.clock)

-- ---- the claim
pub each_poll_reads_back : EachPollReadsBack
each_poll_reads_back day_first unit firmware m₀ cs os s m ran lent f below k buffer o polled =
    let file : f < all_files = omega (arith, below) in
    let gs = definition s.files.layout.groups f in
    let bytes = record_bytes s m f k in
    let told = same_bytes day_first unit firmware m₀ cs os s m ran f file k buffer o polled in
    let sent = ap sent_by told ∙ sent-reply buffer (read_reply unit bytes) in
    let rs = (after (fresh day_first unit firmware (length m₀)) cs).files.lists f in
    let is = subst (λ size. ReadsAs (limit_of (laid_out s) f) size rs k bytes) (size-file (laid_out s) f below)
    (((end_reads _ _ _ _ _ _ _ _ ran).files f file).reads k polled.first polled.last) in
    subst (ComesBack cs day_first unit gs) (sym sent)
    (comes_back ran f below lent bytes (zeros-or-made cs day_first gs _ _ rs k bytes (file-made ran f below) is))
