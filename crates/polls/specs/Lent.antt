-- What the functions of this crate are lent, by a poll that is not refused.
use Rattle.std.specs.Prelude.{◌≡◌, List, ℕ, ◌+◌, ◌*◌, ◌≤◌, ◌<◌, length, Result, Ok, Err}
use Rattle.modbus.specs.declared.frame.Exception.{Exception}
use Rattle.points.specs.declared.table.Run.{Run}
use Rattle.points.specs.declared.groups.Group.TheVariants.{Points}
use Rattle.points.specs.Table.{table_bytes, points_size}
use Rattle.points.specs.Groups.{group_of}
use Rattle.archive.specs.Layout.{all_files}
use Rattle.archive.specs.declared.layout.File.{File}
use Rattle.archive.specs.Lent.{LentRing, file_in}
use Rattle.polls.specs.declared.request.Asked.{Asked}
use Rattle.polls.specs.declared.request.Asked.TheVariants.{Record, Registers, LivePoints, SetRequested}
use Rattle.polls.specs.declared.request.Part.{Part}
use Rattle.polls.specs.declared.request.Part.TheVariants.{Whole, Stamp}
use Rattle.polls.specs.Addresses.{all_registers, most_data}

-- the least bytes of a reply buffer: no reply is longer
abbrev pub least_buffer : ℕ
least_buffer = 256

-- record k of a file in archive memory m, of which the first `size` bytes are sent
pub record LentRecord (file : File) (k size : ℕ) (m buffer : List ℕ) : Type 0 where
  pub ring : LentRing file m
  pub first : 1 ≤ k
  pub last : k ≤ file.limit
  pub part : size ≤ file.size
  pub short : file.size ≤ 250
  pub buffered : least_buffer ≤ length buffer

-- points that are a group whose bytes fit a reply
pub record PointRun (q : Run) : Type 0 where
  pub grouped : group_of q.point q.count ≡ Points q
  pub short : points_size q.row q.count ≤ most_data

-- such points, a live table and a reply buffer
pub record LentPoints (q : Run) (table buffer : List ℕ) : Type 0 where
  pub run : PointRun q
  pub whole : length table ≡ table_bytes
  pub buffered : least_buffer ≤ length buffer

-- files within archive memory m, whose records have at least a stamp and are no longer than a reply; a reply buffer
pub record LentPoll (files : List File) (m buffer : List ℕ) : Type 0 where
  pub fits : (f : ℕ) → f < all_files → (file_in files f).from + (file_in files f).limit * (file_in files f).size ≤ length m
  pub stamped : (f : ℕ) → f < all_files → 6 ≤ (file_in files f).size
  pub short : (f : ℕ) → f < all_files → (file_in files f).size ≤ most_data
  pub buffered : least_buffer ≤ length buffer

-- ---- what is asked has passed its checks
-- a number of file f
pub record Numbered (limit : ℕ → ℕ) (f k : ℕ) : Type 0 where
  pub file : f < all_files
  pub first : 1 ≤ k
  pub last : k ≤ limit f

abbrev pub Passed : (ℕ → ℕ) → Result Asked Exception → Type 0
Passed limit (Err exception) = Unit {0}
Passed limit (Ok (Record f k part)) = Numbered limit f k
Passed limit (Ok (Registers i q)) = i + q ≤ all_registers
Passed limit (Ok (LivePoints q)) = PointRun q
Passed limit (Ok (SetRequested f x)) = Numbered limit f x

-- a requested number that is set is a file's
abbrev pub SetsFile : Result Asked Exception → Type 0
SetsFile (Err exception) = Unit {0}
SetsFile (Ok (Record f k part)) = Unit {0}
SetsFile (Ok (Registers i q)) = Unit {0}
SetsFile (Ok (LivePoints q)) = Unit {0}
SetsFile (Ok (SetRequested f x)) = f < all_files

-- how many bytes of a record are sent, of which there are `size`
abbrev pub sent_size : Part → ℕ → ℕ
sent_size Whole size = size
sent_size Stamp size = 6

-- what is asked has passed its checks, and its frame has a function and, as it may be echoed, no more bytes than a reply buffer
pub record LentAsked (limit : ℕ → ℕ) (frame : List ℕ) (asked : Result Asked Exception) : Type 0 where
  pub passed : Passed limit asked
  pub some : 4 ≤ length frame
  pub most : length frame ≤ least_buffer
