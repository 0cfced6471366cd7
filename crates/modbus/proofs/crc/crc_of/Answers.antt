use Prim.Native.Nat.{◌<◌}
use native.Mathlib.Numerals.{add-one}
use native.Mathlib.Omega.{arith}
use borrow.Author.Rules.{rules}
use lib.Bits.{bit_xor, xor_lt}
use lib.ListN.{get_or}
use lib.Seq.{drop-cons}
use Rattle.modbus.specs.Crc.{crc_from}
use Rattle.modbus.proofs.Steps.{step-at, step_fits, byte-by-step}
use Rattle.modbus.proofs.crc.crc_of.Goals as goal

pub loop-byte-preserved : goal.loop-byte-preserved
unfolding crc_from
loop-byte-preserved c =
    let now = c.loop-byte in
    let s = c.args.s.now in
    let b = get_or s now.byte-index 0 in
    let byte : b < 256 = omega (arith, c.type_inv.s now.byte-index) in
    let inside : bit_xor now.low b < 256 = search (rules, xor_lt 8) in
    let step = rw c.from.ensures at c.from-step.ensures in
    let is = rw (step-at _ (bit_xor now.low b) now.invariant.table inside) at step in
    let turn = byte-by-step now.low now.high b c.from-step.result now.invariant.small now.invariant.large byte is in
    record {
      small = xor_lt 8 now.high _ now.invariant.large (omega arith);
      large = omega (arith, step, step_fits _ (bit_xor now.low b) now.invariant.table inside);
      rest = rw (add-one, turn) (rw (drop-cons s now.byte-index 0 c.loop-byte-test.true) at now.invariant.rest);
      table = now.invariant.table;
    }
