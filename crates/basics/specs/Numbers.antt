-- A test of numbers that the definitions of several crates share.
use Rattle.std.specs.Prelude.{Bool, ◌&&◌, ℕ, leb}

-- lo to hi, both included
abbrev pub within : ℕ → ℕ → ℕ → Bool
within lo hi x = leb lo x && leb x hi
