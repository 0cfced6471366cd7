-- Two views that agree give the same reply and leave the same numbers requested. Assumes nothing.
--     Agree             on unit, requested numbers, the live table, every file's n and pointer, and its records 1 to n
--     asked-same        they are asked the same
--     replies-same, requested-same    the reply, and what is left requested
--     laid_agrees, answers_laid, laid_lends    the view of files that are laid out agrees with that of their layout, and has what a poll is lent
use mathlib.Core.Path.{◌≡◌, refl, ap, ap₂, ◌∙◌, subst}
use mathlib.Core.List.{List, []}
use mathlib.Core.Bool.{Bool, true, false, cond, not, ◌&&◌, ◌||◌}
use Prim.Native.Nat.{ℕ, ◌-◌, ◌/◌, ◌%◌, ◌≤◌, ◌<◌}
use native.Mathlib.Omega.{arith}
use lib.Dec.{eqb}
use lib.ListN.{length, get_or}
use Rattle.basics.proofs.Tests.{and_left}
use Rattle.modbus.specs.declared.frame.Function.{Function}
use Rattle.modbus.specs.declared.frame.Function.TheVariants.{ReadFlags, Read, Write}
use Rattle.modbus.specs.declared.frame.Exception.{Exception}
use Rattle.modbus.specs.Frame.{unit_of, function_of, address_of, quantity_of, function_by, code_of, read_reply, read_reply_by, exception_reply}
use Rattle.records.specs.Capture.{captured_points}
use Rattle.archive.specs.Layout.{Layout, all_files, good_files, layout_size}
use Rattle.std.specs.Prelude.{Result, Ok, Err}
use Rattle.polls.specs.declared.request.Part.TheVariants.{Whole, Stamp}
use Rattle.polls.specs.declared.request.Asked.{Asked}
use Rattle.polls.specs.declared.request.Asked.TheVariants.{Record, Registers, LivePoints, SetRequested}
use Rattle.polls.specs.View.{View, archive_view, limit_in}
use Rattle.archive.specs.Ring.{record_in}
use Rattle.archive.specs.Lent.{LaidOut, file_in}
use Rattle.archive.specs.declared.layout.File.{File}
use Rattle.archive.proofs.Layouts.{size-within, file-inside}
use Rattle.modbus.specs.Frame.{Sent}
use Rattle.polls.specs.Addresses.{on_file, file_at, all_registers, first_register, on_register, on_requested, record_asked, number_asked, read_asked, write_asked}
use Rattle.polls.specs.Frames.{is_heard, asked_as, asked_by, asked, register, part_of, reply_of, requested_by, asked_of, reply_to, requested_after, Answers}
use Rattle.polls.specs.Lent.{least_buffer, Passed, LentPoll}
use Rattle.polls.proofs.Laws.{on_file_lem, on-registers, registers-by, asked-passed}

pub record Agree (v w : View) : Type 0 where
  pub unit : v.unit ≡ w.unit
  pub limit : (f : ℕ) → f < all_files → v.limit f ≡ w.limit f
  pub pointer : (f : ℕ) → f < all_files → v.pointer f ≡ w.pointer f
  pub requested : v.requested ≡ w.requested
  pub reads : (f : ℕ) → f < all_files → (k : ℕ) → 1 ≤ k → k ≤ v.limit f → v.reads f k ≡ w.reads f k
  pub table : v.table ≡ w.table

-- the same test leads to the same
same_test : {A : Type 0} (b : Bool) {x x' y y' : A} → (b ≡ true → x ≡ x') → (b ≡ false → y ≡ y') → cond b x y ≡ cond b x' y'
same_test true p q = p refl
same_test false p q = q refl

-- ---- what is asked depends on n of the files alone
module _ (limit limit' : ℕ → ℕ) (same : (f : ℕ) → f < all_files → limit f ≡ limit' f) where
  read_same : (requested : List ℕ) (a q : ℕ) → read_asked limit requested a q ≡ read_asked limit' requested a q
  unfolding read_asked
  read_same requested a q =
      same_test (on_file 700 a) (λ is. let f = file_at 700 a in ap (λ n. record_asked n f (get_or requested f 0) Whole) (same f (on_file_lem 700 a is)))
      (λ _. same_test (on_file 720 a) (λ is. let f = file_at 720 a in ap (λ n. record_asked n f q Whole) (same f (on_file_lem 720 a is)))
      (λ _. same_test (on_file 750 a) (λ is. let f = file_at 750 a in ap (λ n. record_asked n f (get_or requested f 0) Stamp) (same f (on_file_lem 750 a is)))
      (λ _. same_test (on_file 770 a) (λ is. let f = file_at 770 a in ap (λ n. record_asked n f q Stamp) (same f (on_file_lem 770 a is)))
      (λ _. same_test (on_register a) (λ _. refl) (λ _. refl)))))

  write_same : (a x : ℕ) → write_asked limit a x ≡ write_asked limit' a x
  unfolding write_asked
  write_same a x =
      let f = (a - first_register) / 3 in
      same_test (on_requested a)
      (λ is. ap (λ n. number_asked n f x) (same f (on-registers a (and_left (on_register a) (eqb ((a - first_register) % 3) 2) is)))) (λ _. refl)

  as-same : (requested : List ℕ) (a q : ℕ) (function : Function) → asked_as limit requested a q function ≡ asked_as limit' requested a q function
  as-same requested a q ReadFlags = refl
  as-same requested a q Read = read_same requested a q
  as-same requested a q Write = write_same a q

  by-same : (requested frame : List ℕ) (function : Result Function Exception) →
      asked_by limit requested frame function ≡ asked_by limit' requested frame function
  by-same requested frame (Err exception) = refl
  by-same requested frame (Ok function) =
      same_test (not (eqb (length frame) 8)) (λ _. refl) (λ _. as-same requested (address_of frame) (quantity_of frame) function)

  pub asked-same : (requested frame : List ℕ) → asked limit requested frame ≡ asked limit' requested frame
  unfolding asked
  asked-same requested frame = by-same requested frame (function_by (function_of frame))

-- ---- what is answered
module _ (v w : View) (agree : Agree v w) where
  register-same : (i : ℕ) → i < all_registers → register v i ≡ register w i
  unfolding register
  register-same i below =
      let f : i / 3 < all_files = omega arith in
      same_test (eqb (i % 3) 0) (λ _. agree.limit (i / 3) f)
      (λ _. same_test (eqb (i % 3) 1) (λ _. agree.pointer (i / 3) f) (λ _. ap (λ l. get_or l (i / 3) 0) agree.requested))

  answer-same : (frame : List ℕ) (a : Result Asked Exception) → Passed v.limit a → reply_of v frame a ≡ reply_of w frame a
  unfolding reply_of
  answer-same frame (Err exception) passed = ap (λ u. exception_reply u (function_of frame) (code_of exception)) agree.unit
  answer-same frame (Ok (Record f k part)) passed =
      ap₂ (λ u bs. read_reply u (part_of part bs)) agree.unit (agree.reads f passed.file k passed.first passed.last)
  answer-same frame (Ok (Registers i q)) passed =
      ap₂ read_reply agree.unit (registers-by v w i q (λ j below. register-same j (omega (arith, below, passed))))
  answer-same frame (Ok (LivePoints q)) passed =
      ap₂ (λ u t. read_reply_by u (function_of frame) (captured_points t q.row q.point q.count)) agree.unit agree.table
  answer-same frame (Ok (SetRequested f x)) passed = refl

  asks-same : (frame : List ℕ) → asked_of v frame ≡ asked_of w frame
  asks-same frame =
      asked-same v.limit w.limit agree.limit v.requested frame ∙ ap (λ r. asked w.limit r frame) agree.requested

  pub replies-same : (frame : List ℕ) → reply_to v frame ≡ reply_to w frame
  unfolding reply_to
  replies-same frame =
      let answers = answer-same frame (asked_of v frame) (asked-passed v.limit v.requested frame) ∙ ap (reply_of w frame) (asks-same frame) in
      ap₂ (λ u bs. cond (is_heard frame && eqb (unit_of frame) u) bs []) agree.unit answers

  pub requested-same : (frame : List ℕ) → requested_after v frame ≡ requested_after w frame
  unfolding requested_after
  requested-same frame =
      ap (λ u. left u (requested_by (asked_of v frame) v.requested) v.requested) agree.unit
      ∙ ap₂ (left w.unit) (ap₂ requested_by (asks-same frame) agree.requested) agree.requested
    where
      left : ℕ → List ℕ → List ℕ → List ℕ
      left unit new old = cond (is_heard frame && (eqb (unit_of frame) unit || eqb (unit_of frame) 0)) new old

-- ---- files that are laid out
-- as the code's view has them
abbrev pub files_view : ℕ → List File → List ℕ → List ℕ → List ℕ → List ℕ → View
files_view unit files pointers requested m table = record {
  unit = unit;
  limit = limit_in files;
  pointer = λ f. get_or pointers f 0;
  requested = requested;
  reads = λ f k. record_in m (file_in files f).from (file_in files f).size k;
  table = table;
}

-- that agrees with the view of their layout
module _ (unit : ℕ) (l : Layout) (files : List File) (pointers requested m table : List ℕ) (laid : LaidOut l files) where
  abbrev v : View
  v = files_view unit files pointers requested m table

  pub laid_agrees : Agree v (archive_view unit l pointers requested m table)
  laid_agrees =
      record {
        unit = refl;
        limit = λ f below. ap (λ x. x.limit) (laid.each f below);
        pointer = λ f below. refl;
        requested = refl;
        reads = λ f below k first last. ap (λ x. record_in m x.from x.size k) (laid.each f below);
        table = refl;
      }

  pub answers_laid : (frame buffer : List ℕ) (told : ℕ) (buffer' requested' : List ℕ) →
      Answers v frame buffer told buffer' requested' →
      Answers (archive_view unit l pointers requested m table) frame buffer told buffer' requested'
  answers_laid frame buffer told buffer' requested' answers =
      let w = archive_view unit l pointers requested m table in
      record {
        sent = subst (λ r. Sent r buffer told buffer') (replies-same v w laid_agrees frame) answers.sent;
        asks = answers.asks ∙ requested-same v w laid_agrees frame;
      }

-- and a poll is lent them, where they fit archive memory
pub laid_lends : (l : Layout) (files : List File) (m buffer : List ℕ) → good_files l.groups ≡ true → LaidOut l files → layout_size l ≤ length m →
    least_buffer ≤ length buffer → LentPoll files m buffer
laid_lends l files m buffer good laid room buffered =
    record {
      fits = λ f below. rw (laid.each f below) (omega (arith, file-inside l f below, room));
      stamped = λ f below. rw (laid.each f below) (size-within l f good).0;
      short = λ f below. rw (laid.each f below) (size-within l f good).1;
      buffered = buffered;
    }
