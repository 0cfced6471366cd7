-- Our unit, the fields of a request, the functions, a read reply, an exception, and a frame in a reply buffer.
use Rattle.std.specs.Prelude.{List, [], ◌∷◌, ◌≡◌, Bool, cond, ℕ, ◌+◌, eqb, ltb, length, get_or, Result, Ok, Err}
use Rattle.basics.specs.Lists.{pasted}
use Rattle.basics.specs.Numbers.{within}
use Rattle.modbus.specs.Crc.{with_crc}
use Rattle.modbus.specs.Word.{word_at}
use Rattle.modbus.specs.declared.frame.Function.{Function}
use Rattle.modbus.specs.declared.frame.Function.TheVariants.{ReadFlags, Read, Write}
use Rattle.modbus.specs.declared.frame.Exception.{Exception}
use Rattle.modbus.specs.declared.frame.Exception.TheVariants.{IllegalFunction, IllegalAddress, IllegalValue}

-- our unit is 1-247
abbrev pub good_unit : ℕ → Bool
good_unit unit = within 1 247 unit

-- ---- request: unit, function, address (2), quantity or value (2), CRC
abbrev pub unit_of : List ℕ → ℕ
unit_of frame = get_or frame 0 0

abbrev pub function_of : List ℕ → ℕ
function_of frame = get_or frame 1 0

abbrev pub address_of : List ℕ → ℕ
address_of frame = word_at frame 2

abbrev pub quantity_of : List ℕ → ℕ
quantity_of frame = word_at frame 4

-- ---- read reply: unit, 03, byte count, bytes, CRC; a reply to 01 carries 01 where a read has 03
unfoldable pub read_reply_by : ℕ → ℕ → List ℕ → List ℕ
read_reply_by unit function bytes = with_crc (unit ∷ function ∷ length bytes ∷ bytes)

abbrev pub read_reply : ℕ → List ℕ → List ℕ
read_reply unit bytes = read_reply_by unit 3 bytes

-- ---- exceptions, by their names in the Modbus standard
abbrev pub illegal_function : ℕ
illegal_function = 1

abbrev pub illegal_address : ℕ
illegal_address = 2

abbrev pub illegal_value : ℕ
illegal_value = 3

abbrev pub code_of : Exception → ℕ
code_of IllegalFunction = illegal_function
code_of IllegalAddress = illegal_address
code_of IllegalValue = illegal_value

-- ---- the functions that a gateway knows: 01 reads flags, 03 all else, 06 writes a requested number; another is exception 01
abbrev pub function_number : Function → ℕ
function_number ReadFlags = 1
function_number Read = 3
function_number Write = 6

abbrev pub function_by : ℕ → Result Function Exception
function_by number =
    cond (eqb number 1) (Ok ReadFlags)
    (cond (eqb number 3) (Ok Read)
    (cond (eqb number 6) (Ok Write)
    (Err IllegalFunction)))

-- a function with its highest bit set; 81 hex stays 81 hex
unfoldable pub high_bit_set : ℕ → ℕ
high_bit_set function = cond (ltb function 0x80) (function + 0x80) function

-- unit, function with its highest bit set, code, CRC
unfoldable pub exception_reply : ℕ → ℕ → ℕ → List ℕ
exception_reply unit function code = with_crc (unit ∷ high_bit_set function ∷ code ∷ [])

-- ---- a frame put into a reply buffer: its length is told, and bytes past it are unchanged
pub record Sent (frame buffer : List ℕ) (told : ℕ) (buffer' : List ℕ) : Type 0 where
  pub size : told ≡ length frame
  pub left : buffer' ≡ pasted buffer 0 frame
