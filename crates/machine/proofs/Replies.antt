-- A 03 for the whole record, by both ways, replies with the bytes at the record's place in archive memory, and with exception 03 where
-- there is no such record. Assumes nothing.
--     record-reply, exception_reply_lem    what a poll sees decides: the reply to a 03 for record k is what it reads as, or exception 03
--     unit_kept, depth-kept    after any list unit and depth are by what Fresh was given
--     same_bytes, past_the_end    the two replies after any list
--     old-driver      so that the alarm file of firmware 73 ends behind record 150
use mathlib.Core.Path.{◌≡◌, refl, sym, ap, ap₂, ◌∙◌, subst}
use mathlib.Core.List.{List}
use mathlib.Core.Bool.{Bool, true, false}
use Prim.Native.Nat.{ℕ, ◌+◌, ◌-◌, ◌≤◌, ◌<◌}
use native.Mathlib.Omega.{arith}
use borrow.Author.Tests.{le-leb, lt-leb, le-ltb}
use lib.Dec.{leb}
use lib.ListN.{length, get_or}
use Rattle.basics.specs.Numbers.{within}
use Rattle.basics.proofs.Tests.{eqb_same}
use Rattle.modbus.specs.Frame.{function_of, address_of, quantity_of, read_reply, exception_reply, illegal_value}
use Rattle.points.specs.Table.{table_bytes}
use Rattle.archive.specs.Layout.{limit_of, alarm_file, all_files}
use Rattle.polls.specs.declared.request.Part.TheVariants.{Whole}
use Rattle.polls.specs.View.{View}
use Rattle.polls.specs.Addresses.{record_asked, read_asked}
use Rattle.polls.specs.Frames.{asked, reply_of, reply_to}
use Rattle.polls.specs.Lent.{least_buffer}
use Rattle.state.specs.declared.parts.State.{State}
use Rattle.state.specs.Firmware.{older_firmware, alarm_depth}
use Rattle.state.specs.State.{depth_of, laid_out}
use Rattle.state.specs.Validity.{state_number}
use Rattle.gateway.specs.Poll.{poll_view, poll_number, poll_answer, poll_buffer}
use Rattle.machine.specs.Machine.{Call, poll, Outcome, replied, after, fresh}
use Rattle.machine.specs.View.{state_of}
use Rattle.machine.specs.Runs.{Meets, Ran}
use Rattle.machine.specs.Readings.{Read, ReadsRecord, by_quantity, by_requested, record_bytes, DepthKept, NumberPolled, replied_with, SameBytes, PastTheEnd, OldDriver}
use Rattle.machine.proofs.Steps.{none-applies}
use Rattle.machine.proofs.Whole.{ended}
use Rattle.machine.proofs.Sources.{site-kept}

-- ---- what the two addresses ask for
module _ (limit : ℕ → ℕ) (requested : List ℕ) (f k : ℕ) (file : f < all_files) where
  on-720 : read_asked limit requested (720 + (f + 1)) k ≡ record_asked (limit f) f k Whole
  unfolding read_asked
  on-720 =
      let past : leb (720 + (f + 1)) 711 ≡ false = lt-leb (720 + (f + 1)) 711 (omega arith) in
      let high : leb 701 (720 + (f + 1)) ≡ true = le-leb 701 (720 + (f + 1)) (omega arith) in
      let from : leb 721 (720 + (f + 1)) ≡ true = le-leb 721 (720 + (f + 1)) (omega arith) in
      let to : leb (720 + (f + 1)) 731 ≡ true = le-leb (720 + (f + 1)) 731 (omega arith) in
      let own : 720 + (f + 1) - 721 ≡ f = omega arith in
      simp (past, high, from, to, own)

  on-700 : (q : ℕ) → get_or requested f 0 ≡ k → read_asked limit requested (700 + (f + 1)) q ≡ record_asked (limit f) f k Whole
  unfolding read_asked
  on-700 q is =
      let from : leb 701 (700 + (f + 1)) ≡ true = le-leb 701 (700 + (f + 1)) (omega arith) in
      let to : leb (700 + (f + 1)) 711 ≡ true = le-leb (700 + (f + 1)) 711 (omega arith) in
      let own : 700 + (f + 1) - 701 ≡ f = omega arith in
      simp (from, to, own, is)

-- ---- the reply, over what a poll sees
module _ (v : View) (frame : List ℕ) (f k : ℕ) (file : f < all_files) where
  read_reply_lem : (a q : ℕ) → Read v.unit a q frame → read_asked v.limit v.requested a q ≡ record_asked (v.limit f) f k Whole →
      reply_to v frame ≡ reply_of v frame (record_asked (v.limit f) f k Whole)
  unfolding reply_to asked
  read_reply_lem a q read asks =
      let is : read_asked v.limit v.requested (address_of frame) (quantity_of frame) ≡ record_asked (v.limit f) f k Whole
      = ap₂ (read_asked v.limit v.requested) read.at read.asks ∙ asks in
      rw (read.heard, read.ours, eqb_same v.unit, read.reads, read.long, is) refl

  number-reply : ReadsRecord v.unit v.requested f k frame → reply_to v frame ≡ reply_of v frame (record_asked (v.limit f) f k Whole)
  number-reply (by_quantity read) = read_reply_lem _ _ read (on-720 v.limit v.requested f k file)
  number-reply (by_requested q is read) = read_reply_lem _ _ read (on-700 v.limit v.requested f k file q is)

  pub record-reply : 1 ≤ k → k ≤ v.limit f → ReadsRecord v.unit v.requested f k frame → reply_to v frame ≡ read_reply v.unit (v.reads f k)
  unfolding record_asked reply_of
  record-reply first last asks = number-reply asks ∙ simp (le-leb 1 k first, le-leb k (v.limit f) last)

  asked-function : ReadsRecord v.unit v.requested f k frame → function_of frame ≡ 3
  asked-function (by_quantity read) = read.reads
  asked-function (by_requested q is read) = read.reads

  pub exception_reply_lem : within 1 (v.limit f) k ≡ false → ReadsRecord v.unit v.requested f k frame →
      reply_to v frame ≡ exception_reply v.unit 3 illegal_value
  unfolding record_asked reply_of
  exception_reply_lem other asks = number-reply asks ∙ simp (other, asked-function asks)

-- ---- a poll that is not refused
module _ (s : State) (m table frame buffer : List ℕ) (taken : state_number s (length m) ≡ 0) (whole : length table ≡ table_bytes)
    (room : least_buffer ≤ length buffer) where
  poll-accepted : poll_number s (length m) (length table) (length buffer) ≡ 0
  unfolding poll_number
  poll-accepted = simp (taken, whole, le-ltb (length buffer) least_buffer room)

  poll-replies : {o : Outcome} {s' : State} {m' : List ℕ} → Meets s m (poll table frame buffer) o s' m' →
      o ≡ replied_with buffer (reply_to (poll_view s m table) frame)
  unfolding poll_answer poll_buffer
  poll-replies given =
      given.is ∙ ap₂ (λ r b. replied r.number r.length b) given.meets.1.answer given.meets.1.reply ∙ rw poll-accepted refl

-- ---- after any list
pub unit_kept : {day_first : Bool} {unit firmware : ℕ} {m₀ : List ℕ} {cs : List Call} {os : List Outcome} {s : State} {m : List ℕ} →
    Ran day_first unit firmware m₀ cs os s m → s.site.unit ≡ unit
unfolding state_of fresh
unit_kept {day_first} {unit} {firmware} {m₀} {cs} ran =
    ap (λ t. t.site.unit) (ended ran).0.state ∙ ap (λ x. x.unit) (site-kept (fresh day_first unit firmware (length m₀)) cs)

pub depth-kept : DepthKept
unfolding limit_of state_of fresh
depth-kept day_first unit firmware m₀ cs os s m ran =
    ap (λ t. depth_of t.site) (ended ran).0.state
    ∙ ap (λ x. alarm_depth x.firmware) (site-kept (fresh day_first unit firmware (length m₀)) cs)

-- a poll of a number replies what is replied over what it sees
number-replies : {day_first : Bool} {unit firmware : ℕ} {m₀ : List ℕ} {cs : List Call} {os : List Outcome} {s : State} {m : List ℕ} →
    Ran day_first unit firmware m₀ cs os s m → {f k : ℕ} {buffer : List ℕ} {o : Outcome} → (by : NumberPolled unit s m f k buffer o) →
    (o ≡ replied_with buffer (reply_to (poll_view s m by.table) by.frame)) × ReadsRecord s.site.unit s.line.requested f k by.frame
unfolding state_of
number-replies {day_first} {unit} {firmware} {m₀} {cs} {os} {s} {m} ran {f} {k} {buffer} by =
    let M = after (fresh day_first unit firmware (length m₀)) cs in
    let end = ended ran in
    let taken = subst (λ t. state_number t (length m) ≡ 0) (sym end.0.state) (none-applies M m end.1) in (
      poll-replies s m by.table by.frame buffer taken by.whole by.room by.met,
      subst (λ u. ReadsRecord u s.line.requested f k by.frame) (sym (unit_kept ran)) by.asks,
    )

pub same_bytes : SameBytes
unfolding poll_view
same_bytes day_first unit firmware m₀ cs os s m ran f file k buffer o polled =
    let by = polled.by in
    let told = number-replies ran by in
    let reply = record-reply (poll_view s m by.table) by.frame f k file polled.first polled.last told.1 in
    told.0 ∙ ap (replied_with buffer) (reply ∙ ap (λ u. read_reply u (record_bytes s m f k)) (unit_kept ran))

pub past_the_end : PastTheEnd
unfolding poll_view
past_the_end day_first unit firmware m₀ cs os s m ran f file k other buffer o by =
    let told = number-replies ran by in
    let reply = exception_reply_lem (poll_view s m by.table) by.frame f k file other told.1 in
    told.0 ∙ ap (replied_with buffer) (reply ∙ ap (λ u. exception_reply u 3 illegal_value) (unit_kept ran))

pub old-driver : OldDriver
unfolding alarm_depth
old-driver day_first unit m₀ cs os s m ran =
    let n : limit_of (laid_out s) alarm_file ≡ 150 = depth-kept day_first unit older_firmware m₀ cs os s m ran in
    record {
      last = λ buffer o by.
          same_bytes day_first unit older_firmware m₀ cs os s m ran alarm_file (omega arith) 150 buffer o
          (record { by = by; first = omega arith; last = omega (arith, n) });
      past = λ buffer o by. past_the_end day_first unit older_firmware m₀ cs os s m ran alarm_file (omega arith) 151 (rw n refl) buffer o by;
    }
