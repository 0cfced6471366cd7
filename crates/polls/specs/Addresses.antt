-- The address table, row by row, each row with its own checks in the order written.
-- `limit` is each file's n, and `requested` the requested numbers. The address field carries the index number itself.
use Rattle.std.specs.Prelude.{List, Bool, cond, not, ◌&&◌, ◌||◌, ℕ, ◌+◌, ◌-◌, ◌*◌, ◌/◌, ◌%◌, eqb, ltb, get_or, Option, Some, None, Result, Ok, Err}
use Rattle.basics.specs.Numbers.{within}
use Rattle.modbus.specs.declared.frame.Function.{Function}
use Rattle.modbus.specs.declared.frame.Function.TheVariants.{ReadFlags, Read}
use Rattle.modbus.specs.declared.frame.Exception.{Exception}
use Rattle.modbus.specs.declared.frame.Exception.TheVariants.{IllegalAddress, IllegalValue}
use Rattle.modbus.specs.Frame.{function_number}
use Rattle.points.specs.declared.table.Row.{Row}
use Rattle.points.specs.Table.{row_of, is_bits, points_size}
use Rattle.points.specs.Groups.{run, ends_in_row}
use Rattle.archive.specs.Layout.{all_files}
use Rattle.polls.specs.declared.request.Asked.{Asked}
use Rattle.polls.specs.declared.request.Asked.TheVariants.{Record, Registers, LivePoints, SetRequested}
use Rattle.polls.specs.declared.request.Part.{Part}
use Rattle.polls.specs.declared.request.Part.TheVariants.{Whole, Stamp}

-- ---- addresses
-- an address of a row that has one for each file, from base + 1 on; and its file
abbrev pub on_file : ℕ → ℕ → Bool
on_file base a = within (base + 1) (base + all_files) a

abbrev pub file_at : ℕ → ℕ → ℕ
file_at base a = a - (base + 1)

-- three registers a file, 3701-3733: n, pointer, requested
abbrev pub all_registers : ℕ
all_registers = 3 * all_files

abbrev pub first_register : ℕ
first_register = 3701

abbrev pub on_register : ℕ → Bool
on_register a = within first_register (first_register + all_registers - 1) a

-- 3703 + 3 (f - 1): the third of a file's registers
abbrev pub on_requested : ℕ → Bool
on_requested a = on_register a && eqb ((a - first_register) % 3) 2

-- ---- a row's own checks
-- a number of 1..n; another is exception 03
abbrev pub number_in : ℕ → ℕ → Result ℕ Exception
number_in n k = cond (within 1 n k) (Ok k) (Err IllegalValue)

-- a record, or its stamp only, of a file of n records: number not 1..n is exception 03
unfoldable pub record_asked : ℕ → ℕ → ℕ → Part → Result Asked Exception
record_asked n f k part = cond (within 1 n k) (Ok (Record f k part)) (Err IllegalValue)

-- q registers from number i on, counted from 0: quantity 0 or over 33 is exception 03, past 3733 is 02
unfoldable pub registers_asked : ℕ → ℕ → Result Asked Exception
registers_asked i q =
    cond (not (within 1 all_registers q)) (Err IllegalValue)
    (cond (ltb all_registers (i + q)) (Err IllegalAddress)
    (Ok (Registers i q)))

-- the most bytes of live points in a reply
abbrev pub most_data : ℕ
most_data = 250

-- q points of row r of the live table from p on: quantity 0 or data over 250 bytes is exception 03, past that row is 02
unfoldable pub points_asked : Row → ℕ → ℕ → Result Asked Exception
points_asked r p q =
    cond (eqb q 0 || ltb most_data (points_size r q)) (Err IllegalValue)
    (cond (not (ends_in_row r p q)) (Err IllegalAddress)
    (Ok (LivePoints (run r p q))))

-- a requested number: value not 1..n is exception 03
unfoldable pub number_asked : ℕ → ℕ → ℕ → Result Asked Exception
number_asked n f x = cond (within 1 n x) (Ok (SetRequested f x)) (Err IllegalValue)

-- ---- live points
-- the function that reads a row of the live table: 01 for the Booleans, 03 for any other
abbrev pub function_for : Row → Function
function_for r = cond (is_bits r) ReadFlags Read

-- from address p on, whose row has been looked up; a start that is no point, or one of another function's, is exception 02
abbrev pub live_asked : Function → Option Row → ℕ → ℕ → Result Asked Exception
live_asked function None p q = Err IllegalAddress
live_asked function (Some r) p q = cond (eqb (function_number function) (function_number (function_for r))) (points_asked r p q) (Err IllegalAddress)

-- ---- 01
abbrev pub flags_asked : ℕ → ℕ → Result Asked Exception
flags_asked a q = live_asked ReadFlags (row_of a) a q

-- ---- 03
unfoldable pub read_asked : (ℕ → ℕ) → List ℕ → ℕ → ℕ → Result Asked Exception
read_asked limit requested a q =
    cond (on_file 700 a) (let f = file_at 700 a in record_asked (limit f) f (get_or requested f 0) Whole)
    (cond (on_file 720 a) (let f = file_at 720 a in record_asked (limit f) f q Whole)
    (cond (on_file 750 a) (let f = file_at 750 a in record_asked (limit f) f (get_or requested f 0) Stamp)
    (cond (on_file 770 a) (let f = file_at 770 a in record_asked (limit f) f q Stamp)
    (cond (on_register a) (registers_asked (a - first_register) q)
    (live_asked Read (row_of a) a q)))))

-- ---- 06
unfoldable pub write_asked : (ℕ → ℕ) → ℕ → ℕ → Result Asked Exception
write_asked limit a x =
    let f = (a - first_register) / 3 in
    cond (on_requested a) (number_asked (limit f) f x) (Err IllegalAddress)
