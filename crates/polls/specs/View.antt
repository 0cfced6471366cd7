-- What a poll sees. The rules of frames are stated over this, once for the gateway, which has
-- records in archive memory, and for the plain machine, which has them in lists of captures.
-- Files are counted from 0, as in the archive's Layout.antt; records from 1.
use Rattle.std.specs.Prelude.{List, ℕ, get_or}
use Rattle.archive.specs.Layout.{Layout, limit_of, size_of, base_of}
use Rattle.archive.specs.Ring.{record_in}
use Rattle.archive.specs.declared.layout.File.{File}
use Rattle.archive.specs.Lent.{file_in}
use Rattle.polls.specs.declared.view.View as code

-- our unit; file f's laid-out n and its pointer; the requested numbers of all files; the bytes that record k of file f reads as; and the
-- live table that the poll is lent
pub record View : Type 0 where
  pub unit : ℕ
  pub limit : ℕ → ℕ
  pub pointer : ℕ → ℕ
  pub requested : List ℕ
  pub reads : ℕ → ℕ → List ℕ
  pub table : List ℕ

-- the view of archive memory m and a live table: record k reads as the bytes at its place, by the layout
abbrev pub archive_view : ℕ → Layout → List ℕ → List ℕ → List ℕ → List ℕ → View
archive_view unit l pointers requested m table = record {
  unit = unit;
  limit = limit_of l;
  pointer = λ f. get_or pointers f 0;
  requested = requested;
  reads = λ f k. record_in m (base_of l f) (size_of l f) k;
  table = table;
}

-- ---- the view that the code has: of each file where it lies, and so how many records it has and where record k stands
abbrev pub limit_in : List File → ℕ → ℕ
limit_in files f = (file_in files f).limit

abbrev pub view_of : code.View → View
view_of v = record {
  unit = v.unit;
  limit = limit_in v.files.now;
  pointer = λ f. get_or v.pointers.now f 0;
  requested = v.requested.now;
  reads = λ f k. record_in v.archive.now (file_in v.files.now f).from (file_in v.files.now f).size k;
  table = v.table.now;
}
