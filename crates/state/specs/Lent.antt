-- What the functions of this crate answer beside a number.
use Rattle.std.specs.Prelude.{◌≡◌, List, true, ℕ}
use Rattle.archive.specs.declared.layout.File.{File}
use Rattle.archive.specs.Lent.{LaidOut}
use Rattle.state.specs.declared.parts.State.{State}
use Rattle.state.specs.State.{laid_out}
use Rattle.state.specs.Validity.{valid}

-- a state that is taken with an archive of this length, and where its files lie
pub record IsTaken (s : State) (size : ℕ) (files : List File) : Type 0 where
  pub same : size ≡ s.site.archive_length
  pub sound : valid s ≡ true
  pub laid : LaidOut (laid_out s) files
