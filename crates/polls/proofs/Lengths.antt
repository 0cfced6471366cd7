-- No reply is longer than the least reply buffer. Assumes nothing.
--     reply-short    the reply to any frame, over archive memory of good definitions
use mathlib.Core.Path.{◌≡◌}
use mathlib.Core.List.{List, []}
use mathlib.Core.Bool.{true, ◌&&◌}
use Prim.Native.Nat.{ℕ, ◌≤◌}
use native.Mathlib.Omega.{arith}
use lib.ListN.{length, take, drop, length-take}
use Rattle.basics.proofs.Tests.{by_cond, and_left}
use Rattle.modbus.specs.declared.frame.Exception.{Exception}
use Rattle.modbus.specs.Frame.{code_of, function_of, read_reply_by, exception_reply}
use Rattle.modbus.proofs.Laws.{length-framed}
use Rattle.points.specs.declared.groups.Group.TheVariants.{Points}
use Rattle.records.specs.Capture.{captured_points}
use Rattle.records.proofs.Laws.{length-captured}
use Rattle.archive.specs.Layout.{Layout, good_files, limit_of, size_of, base_of}
use Rattle.archive.specs.Ring.{record_place}
use Rattle.archive.proofs.Layouts.{size-within}
use Rattle.std.specs.Prelude.{Result, Ok, Err}
use Rattle.polls.specs.declared.request.Part.TheVariants.{Whole, Stamp}
use Rattle.polls.specs.declared.request.Asked.{Asked}
use Rattle.polls.specs.declared.request.Asked.TheVariants.{Record, Registers, LivePoints, SetRequested}
use Rattle.polls.specs.View.{View, archive_view}
use Rattle.polls.specs.Addresses.{most_data}
use Rattle.polls.specs.Frames.{is_heard, asked_of, is_ours, register_bytes, reply_of, reply_to}
use Rattle.polls.specs.Lent.{least_buffer, Passed}
use Rattle.polls.proofs.Laws.{asked-passed, length-registers, heard-long}

take_short : (n : ℕ) (xs : List ℕ) → length (take n xs) ≤ n
take_short n xs = rw length-take (omega arith)

-- a read reply of at most 250 bytes
read_short : (unit function : ℕ) (bytes : List ℕ) → length bytes ≤ most_data → length (read_reply_by unit function bytes) ≤ least_buffer
unfolding read_reply_by
read_short unit function bytes few = rw length-framed (omega arith)

exception-short : (unit function code : ℕ) → length (exception_reply unit function code) ≤ least_buffer
unfolding exception_reply
exception-short unit function code = rw length-framed (omega arith)

module _ (unit : ℕ) (l : Layout) (pointers requested m table : List ℕ) (good : good_files l.groups ≡ true) where
  abbrev view : View
  view = archive_view unit l pointers requested m table

  answer-short : (frame : List ℕ) (asks : Result Asked Exception) → Passed (limit_of l) asks → length frame ≤ least_buffer → length (reply_of view frame asks) ≤ least_buffer
  unfolding reply_of
  answer-short frame (Err exception) passed few = exception-short unit (function_of frame) (code_of exception)
  answer-short frame (Ok (Record f k Whole)) passed few =
      read_short unit 3 (view.reads f k) (omega (arith, take_short (size_of l f) (drop (record_place (base_of l f) (size_of l f) k) m), (size-within l f good).1))
  answer-short frame (Ok (Record f k Stamp)) passed few =
      read_short unit 3 (take 6 (view.reads f k)) (omega (arith, take_short 6 (view.reads f k)))
  answer-short frame (Ok (Registers i q)) passed few = read_short unit 3 (register_bytes view i q) (rw length-registers (omega (arith, passed)))
  answer-short frame (Ok (LivePoints q)) passed few =
      read_short unit (function_of frame) (captured_points table q.row q.point q.count) (omega (arith, length-captured table (Points q), passed.short))
  answer-short frame (Ok (SetRequested f x)) passed few = few

  pub reply-short : (frame : List ℕ) → length (reply_to view frame) ≤ least_buffer
  unfolding reply_to
  reply-short frame =
      by_cond (λ r. length r ≤ least_buffer) (is_heard frame && is_ours view frame) (reply_of view frame (asked_of view frame)) []
      (λ ours. answer-short frame (asked_of view frame) (asked-passed (limit_of l) requested frame)
      (heard-long frame (and_left (is_heard frame) (is_ours view frame) ours)).1)
      (λ _. omega arith)
