-- What a frame of any length and content is answered, and what it leaves requested.
use Rattle.std.specs.Prelude.{List, [], ◌++◌, ◌≡◌, Bool, cond, not, ◌&&◌, ◌||◌, ℕ, zero, suc, ◌+◌, ◌/◌, ◌%◌, eqb, length, get_or, set, take, Result, Ok, Err}
use Rattle.basics.specs.Numbers.{within}
use Rattle.modbus.specs.Word.{word_bytes}
use Rattle.modbus.specs.Crc.{ends_in_crc}
use Rattle.modbus.specs.declared.frame.Function.{Function}
use Rattle.modbus.specs.declared.frame.Function.TheVariants.{ReadFlags, Read, Write}
use Rattle.modbus.specs.declared.frame.Exception.{Exception}
use Rattle.modbus.specs.declared.frame.Exception.TheVariants.{IllegalValue}
use Rattle.modbus.specs.Frame.{unit_of, function_of, address_of, quantity_of, function_by, code_of, read_reply, read_reply_by, exception_reply, Sent}
use Rattle.records.specs.Capture.{captured_points}
use Rattle.polls.specs.declared.request.Asked.{Asked}
use Rattle.polls.specs.declared.request.Asked.TheVariants.{Record, Registers, LivePoints, SetRequested}
use Rattle.polls.specs.declared.request.Part.{Part}
use Rattle.polls.specs.declared.request.Part.TheVariants.{Whole, Stamp}
use Rattle.polls.specs.View.{View}
use Rattle.polls.specs.Addresses.{flags_asked, read_asked, write_asked}

-- ---- the checks
-- no reply and no change: length under 4 or over 256, wrong CRC
unfoldable pub is_heard : List ℕ → Bool
is_heard frame = within 4 256 (length frame) && ends_in_crc frame

-- the address table, by the function
abbrev pub asked_as : (ℕ → ℕ) → List ℕ → ℕ → ℕ → Function → Result Asked Exception
asked_as limit requested a q ReadFlags = flags_asked a q
asked_as limit requested a q Read = read_asked limit requested a q
asked_as limit requested a q Write = write_asked limit a q

-- what follows once the function has been looked at: length not 8, exception 03; the address table
abbrev pub asked_by : (ℕ → ℕ) → List ℕ → List ℕ → Result Function Exception → Result Asked Exception
asked_by limit requested frame (Err exception) = Err exception
asked_by limit requested frame (Ok function) =
    cond (not (eqb (length frame) 8)) (Err IllegalValue) (asked_as limit requested (address_of frame) (quantity_of frame) function)

-- then, in order: function other than 01, 03 and 06, exception 01; length not 8, exception 03; the address table
unfoldable pub asked : (ℕ → ℕ) → List ℕ → List ℕ → Result Asked Exception
asked limit requested frame = asked_by limit requested frame (function_by (function_of frame))

-- ---- what is read
-- register number i, counted from 0: n, pointer, requested, three registers a file
unfoldable pub register : View → ℕ → ℕ
register v i =
    let f = i / 3 in
    cond (eqb (i % 3) 0) (v.limit f) (cond (eqb (i % 3) 1) (v.pointer f) (get_or v.requested f 0))

-- q of them from number i on
unfoldable pub register_bytes : View → ℕ → ℕ → List ℕ
register_bytes v i zero = []
register_bytes v i (suc q) = register_bytes v i q ++ word_bytes (register v (i + q))

-- a record's bytes, or its stamp's, of which there are six
abbrev pub part_of : Part → List ℕ → List ℕ
part_of Whole bytes = bytes
part_of Stamp bytes = take 6 bytes

-- ---- what is answered, each case of what was asked; live points are the bytes of a captured group of them, texts cleaned; a 06 is echoed
unfoldable pub reply_of : View → List ℕ → Result Asked Exception → List ℕ
reply_of v frame (Err exception) = exception_reply v.unit (function_of frame) (code_of exception)
reply_of v frame (Ok (Record f k part)) = read_reply v.unit (part_of part (v.reads f k))
reply_of v frame (Ok (Registers i q)) = read_reply v.unit (register_bytes v i q)
reply_of v frame (Ok (LivePoints q)) = read_reply_by v.unit (function_of frame) (captured_points v.table q.row q.point q.count)
reply_of v frame (Ok (SetRequested f x)) = frame

-- and left requested
abbrev pub requested_by : Result Asked Exception → List ℕ → List ℕ
requested_by (Err exception) requested = requested
requested_by (Ok (Record f k part)) requested = requested
requested_by (Ok (Registers i q)) requested = requested
requested_by (Ok (LivePoints q)) requested = requested
requested_by (Ok (SetRequested f x)) requested = set requested f x

-- ---- a frame
abbrev pub asked_of : View → List ℕ → Result Asked Exception
asked_of v frame = asked v.limit v.requested frame

abbrev pub is_ours : View → List ℕ → Bool
is_ours v frame = eqb (unit_of frame) v.unit

-- the reply; none, a list of no bytes, to another unit, unit 0 among them, which is never ours
unfoldable pub reply_to : View → List ℕ → List ℕ
reply_to v frame = cond (is_heard frame && is_ours v frame) (reply_of v frame (asked_of v frame)) []

-- a 06 to unit 0 that passes the checks is done without reply; a read changes nothing, so that any other frame to it is ignored
unfoldable pub requested_after : View → List ℕ → List ℕ
requested_after v frame =
    cond (is_heard frame && (is_ours v frame || eqb (unit_of frame) 0)) (requested_by (asked_of v frame) v.requested) v.requested

-- what a function that answers a frame does: the reply's length, the reply buffer, and the requested numbers then
pub record Answers (v : View) (frame buffer : List ℕ) (told : ℕ) (buffer' requested' : List ℕ) : Type 0 where
  pub sent : Sent (reply_to v frame) buffer told buffer'
  pub asks : requested' ≡ requested_after v frame
