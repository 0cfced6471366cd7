use mathlib.Core.Path.{◌≡◌, sym, ap, ap₂, ◌∙◌}
use Prim.Native.Nat.{◌+◌, ◌/◌, ◌*◌, ◌%◌, ◌^◌, ◌<◌}
use native.Mathlib.Omega.{arith}
use lib.Bits.{bit_or, or_shifted_r}
use lib.Pow.{shl_exact}
use lib.ListN.{get_or}
use Rattle.records.proofs.Bits.{bits_of, window-bit}
use Rattle.records.specs.Capture.{from_bits, flags}
use Rattle.basics.proofs.Lists.{tabulate-ext}
use Rattle.records.proofs.flags.window.Goals as goal

pub returns : goal.returns
unfolding flags
returns c =
    let a = c.args in
    let t = a.table.now in
    let byte = a.offset + a.at / 8 in
    let known = c.type_inv.table in
    let low : get_or t byte 0 < 2 ^ 8 = (known byte).fits in
    let high : get_or t (byte + 1) 0 < 2 ^ 8 = (known (byte + 1)).fits in
    let joined : bit_or (get_or t byte 0) (get_or t (byte + 1) 0 * 2 ^ 8 % 2 ^ 16) ≡ get_or t (byte + 1) 0 * 2 ^ 8 + get_or t byte 0
    = rw (shl_exact {a = get_or t (byte + 1) 0} 8 8 16 high (omega arith)) (or_shifted_r (get_or t (byte + 1) 0) 8 (get_or t byte 0) low) in
    c.low_bits.ensures
    ∙ ap₂ (λ low high. bit_or low (high * 2 ^ 8 % 2 ^ 16) / 2 ^ (a.at % 8) % 2 ^ a.m) c.from.ensures c.from-2.ensures
    ∙ ap (λ w. w / 2 ^ (a.at % 8) % 2 ^ a.m) joined
    ∙ sym (bits_of ((get_or t (byte + 1) 0 * 2 ^ 8 + get_or t byte 0) / 2 ^ (a.at % 8)) a.m)
    ∙ ap from_bits (tabulate-ext a.m _ _ (λ j h. window-bit t a.offset a.at j low (omega arith)))
