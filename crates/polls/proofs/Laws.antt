-- Laws of what a frame asks. Assumes nothing.
--     on_file_lem, on-registers   the file, or the register, of an address that is in its row
--     asked-passed            what is asked has passed its checks
--     length-registers, registers-by, registers_put    the bytes of registers: how many, by each, and one more in a reply buffer
--     live-captured           the bytes of live points are those of a captured group
--     part_sent               the part of a record that is sent
--     heard-long              the length of a frame that is heard
--     asked_laws              for a frame that is answered
--     requested-within        requested numbers stay within n
use mathlib.Core.Path.{◌≡◌, refl, sym, ap, ap₂, ◌∙◌}
use mathlib.Core.List.{List, ◌++◌}
use mathlib.Core.Bool.{true, not, ◌&&◌, ◌||◌}
use Prim.Native.Nat.{ℕ, zero, suc, ◌+◌, ◌-◌, ◌*◌, ◌/◌, ◌≤◌, ◌<◌}
use native.Mathlib.Numerals.{add-one}
use native.Mathlib.Omega.{arith}
use Rattle.std.specs.Prelude.{Option, Some, None, Result, Ok, Err}
use lib.Dec.{eqb}
use lib.ListN.{length, get_or, take, length-append}
use lib.Seq.{take-take}
use Rattle.std.proofs.lemmas.Grind.{common_steps}
use Rattle.basics.specs.Lists.{pasted}
use Rattle.basics.specs.Numbers.{within}
use Rattle.basics.proofs.Lists.{pasted-append}
use Rattle.basics.proofs.Tests.{by_cond, and_left, within-inside}
use Rattle.modbus.specs.Word.{word_bytes}
use Rattle.modbus.specs.Crc.{ends_in_crc}
use Rattle.modbus.specs.declared.frame.Function.{Function}
use Rattle.modbus.specs.declared.frame.Function.TheVariants.{ReadFlags, Read, Write}
use Rattle.modbus.specs.declared.frame.Exception.{Exception}
use Rattle.modbus.specs.Frame.{unit_of, function_of, address_of, quantity_of, function_number, function_by}
use Rattle.points.specs.declared.table.Row.{Row}
use Rattle.points.specs.declared.table.Run.{Run}
use Rattle.points.specs.Table.{row_of}
use Rattle.points.specs.Groups.{group_of}
use Rattle.points.proofs.Laws.{group-of-run}
use Rattle.records.specs.Capture.{captured_points, captured_group}
use Rattle.archive.specs.Layout.{all_files}
use Rattle.archive.proofs.Scans.{set-within}
use Rattle.polls.specs.declared.request.Asked.{Asked}
use Rattle.polls.specs.declared.request.Asked.TheVariants.{Record, Registers, LivePoints, SetRequested}
use Rattle.polls.specs.declared.request.Part.{Part}
use Rattle.polls.specs.declared.request.Part.TheVariants.{Whole, Stamp}
use Rattle.polls.specs.Addresses.{on_file, file_at, first_register, on_register, function_for, record_asked, registers_asked, points_asked, number_asked, live_asked, read_asked, write_asked}
use Rattle.polls.specs.View.{View}
use Rattle.polls.specs.Frames.{is_heard, asked_as, asked_by, asked, register, register_bytes, part_of, requested_by, asked_of, is_ours, requested_after}
use Rattle.polls.specs.Lent.{least_buffer, Numbered, PointRun, Passed, sent_size}

-- ---- addresses
pub on_file_lem : (base a : ℕ) → on_file base a ≡ true → file_at base a < all_files
on_file_lem base a is = omega (arith, within-inside (base + 1) (base + 11) a is)

pub on-registers : (a : ℕ) → on_register a ≡ true → (a - first_register) / 3 < all_files
on-registers a is = let inside = within-inside 3701 3733 a is in omega arith

-- ---- what is asked has passed its checks
module _ (limit : ℕ → ℕ) where
  abbrev Fine : Result Asked Exception → Type 0
  Fine = Passed limit

  -- a number of a file, asked for by any of the rows
  number_passed : (f k : ℕ) → f < all_files → within 1 (limit f) k ≡ true → Numbered limit f k
  number_passed f k file is =
      let inside = within-inside 1 (limit f) k is in record { file = file; first = inside.0; last = inside.1 }

  record-passed : (f k : ℕ) (part : Part) → f < all_files → Passed limit (record_asked (limit f) f k part)
  unfolding record_asked
  record-passed f k part file = grind (arith, common_steps, number_passed f k file)

  registers-passed : (i q : ℕ) → Passed limit (registers_asked i q)
  unfolding registers_asked
  registers-passed i q = grind (arith, common_steps)

  -- points from p on, of p's row
  points-passed : (r : Row) (p q : ℕ) → row_of p ≡ Some r → Passed limit (points_asked r p q)
  unfolding points_asked
  points-passed r p q row = grind (arith, common_steps, group-of-run)

  live-passed : (function : Function) (found : Option Row) (p q : ℕ) → row_of p ≡ found → Passed limit (live_asked function found p q)
  live-passed function None p q looked = tt
  live-passed function (Some r) p q looked = by_cond Fine (eqb (function_number function) (function_number (function_for r))) _ _ (λ _. points-passed r p q looked) (λ _. tt)

  read-passed : (requested : List ℕ) (a q : ℕ) → Passed limit (read_asked limit requested a q)
  unfolding read_asked
  read-passed requested a q = grind (arith, common_steps, record-passed, on_file_lem, registers-passed, live-passed)

  write-passed : (a x : ℕ) → Passed limit (write_asked limit a x)
  unfolding write_asked number_asked
  write-passed a x = grind (arith, common_steps, on-registers, number_passed)

  as-passed : (requested : List ℕ) (a q : ℕ) (function : Function) → Passed limit (asked_as limit requested a q function)
  as-passed requested a q ReadFlags = live-passed ReadFlags (row_of a) a q refl
  as-passed requested a q Read = read-passed requested a q
  as-passed requested a q Write = write-passed a q

  by-passed : (requested frame : List ℕ) (function : Result Function Exception) → Passed limit (asked_by limit requested frame function)
  by-passed requested frame (Err exception) = tt
  by-passed requested frame (Ok function) =
      by_cond Fine (not (eqb (length frame) 8)) _ _ (λ _. tt) (λ _. as-passed requested (address_of frame) (quantity_of frame) function)

  pub asked-passed : (requested frame : List ℕ) → Passed limit (asked limit requested frame)
  unfolding asked
  asked-passed requested frame = by-passed requested frame (function_by (function_of frame))

-- ---- registers
pub length-registers : (v : View) (i q : ℕ) → length (register_bytes v i q) ≡ 2 * q
unfolding register_bytes
length-registers v i zero = refl
length-registers v i (suc q) = length-append (register_bytes v i q) _ ∙ ap (λ n. n + 2) (length-registers v i q) ∙ omega arith

-- they are the same where each is
pub registers-by : (v w : View) (i q : ℕ) → ((j : ℕ) → j < i + q → register v j ≡ register w j) → register_bytes v i q ≡ register_bytes w i q
unfolding register_bytes
registers-by v w i zero each = refl
registers-by v w i (suc q) each =
    ap₂ (λ xs n. xs ++ word_bytes n) (registers-by v w i q (λ j below. each j (omega (arith, below)))) (each (i + q) (omega arith))

-- one more behind those that stand from byte 3 of a buffer on
pub registers_put : (v : View) (b b' b'' : List ℕ) (first i w : ℕ) → 3 + 2 * i ≤ length b → b' ≡ pasted b 3 (register_bytes v first i) →
    w ≡ register v (first + i) → b'' ≡ pasted b' (3 + 2 * i) (word_bytes w) → b'' ≡ pasted b 3 (register_bytes v first (i + 1))
unfolding register_bytes
registers_put v b b' b'' first i w fits before is put =
    let bytes = register_bytes v first i in
    put ∙ ap₂ (λ x y. pasted x (3 + 2 * i) (word_bytes y)) before is
    ∙ pasted-append b bytes (word_bytes (register v (first + i))) 3 (3 + 2 * i)
    (omega (arith, length-registers v first i)) (ap (λ n. 3 + n) (sym (length-registers v first i)))
    ∙ ap (λ n. pasted b 3 (register_bytes v first n)) (sym (add-one i))

-- ---- live points
-- their bytes are those of a captured group of the same points
pub live-captured : (table : List ℕ) (q : Run) → PointRun q → captured_points table q.row q.point q.count ≡ captured_group table (group_of q.point q.count)
live-captured table q run = rw run.grouped refl

-- ---- the part of a record that is sent, where a record has a stamp
pub part_sent : (part : Part) (size : ℕ) (bytes : List ℕ) → 6 ≤ size → take (sent_size part size) bytes ≡ part_of part (take size bytes)
part_sent Whole size bytes stamped = refl
part_sent Stamp size bytes stamped = sym (take-take 6 size bytes stamped)

-- a frame that is heard has a function, and fits a reply buffer
pub heard-long : (frame : List ℕ) → is_heard frame ≡ true → (4 ≤ length frame) × (length frame ≤ least_buffer)
unfolding is_heard
heard-long frame heard = within-inside 4 256 (length frame) (and_left (within 4 256 (length frame)) (ends_in_crc frame) heard)

-- for a frame that is answered
pub ruleset asked_laws = (asked-passed, heard-long)

-- ---- requested numbers stay within n
numbers-within : (limit : ℕ → ℕ) (numbers : List ℕ) → ((f : ℕ) → f < all_files → get_or numbers f 0 ≤ limit f) → (a : Result Asked Exception) → Passed limit a →
    (f : ℕ) → f < all_files → get_or (requested_by a numbers) f 0 ≤ limit f
numbers-within limit numbers old (Err exception) passed f below = old f below
numbers-within limit numbers old (Ok (Record g k part)) passed f below = old f below
numbers-within limit numbers old (Ok (Registers i q)) passed f below = old f below
numbers-within limit numbers old (Ok (LivePoints q)) passed f below = old f below
numbers-within limit numbers old (Ok (SetRequested g x)) passed f below = set-within limit numbers g x f passed.last (old f below)

pub requested-within : (v : View) (frame : List ℕ) → ((f : ℕ) → f < all_files → get_or v.requested f 0 ≤ v.limit f) →
    (f : ℕ) → f < all_files → get_or (requested_after v frame) f 0 ≤ v.limit f
unfolding requested_after
requested-within v frame old f below =
    by_cond (λ l. get_or l f 0 ≤ v.limit f) (is_heard frame && (is_ours v frame || eqb (unit_of frame) 0)) _ _
    (λ _. numbers-within v.limit v.requested old (asked_of v frame) (asked-passed v.limit v.requested frame) f below)
    (λ _. old f below)
