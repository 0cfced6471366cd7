use mathlib.Core.Path.{◌≡◌}
use mathlib.Core.List.{List}
use Prim.Native.Nat.{ℕ, ◌+◌, ◌*◌, ◌<◌}
use lib.ListN.{drop}
use Rattle.modbus.specs.Crc.{crc_from, crc_of}
use Rattle.modbus.proofs.Steps.{crc_steps}
use Rattle.modbus.proofs.crc.crc_of.Given as goal

pub record SoFar (s steps : List ℕ) (low high i : ℕ) : Type 0 where
  pub small : low < 256
  pub large : high < 256
  pub rest : crc_from (high * 256 + low) (drop i s) ≡ crc_of s
  pub table : steps ≡ crc_steps

abbrev pub invariant-loop-byte : goal.invariant-loop-byte
invariant-loop-byte l = SoFar l.s l.steps l.low l.high l.byte-index
