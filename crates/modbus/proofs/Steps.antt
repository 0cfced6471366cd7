-- Laws of the CRC by a table of steps, for any numbers. Assumes nothing.
--     shifts-pass     n shifts take the bits above the n lowest down as they are
--     crc_steps       the table by its rule: entry k is k shifted eight times
--     step-at         the rule at each entry of a table that is this one
--     step_fits       each entry has 16 bits
--     byte-by-step    a byte by the bit rule is one step of the table
use mathlib.Core.Path.{◌≡◌, refl, sym, ap, ap₂, ◌∙◌}
use mathlib.Core.List.{List}
use mathlib.Core.Bool.{Bool, true, false, cond}
use Prim.Native.Nat.{ℕ, zero, suc, ◌+◌, ◌*◌, ◌/◌, ◌%◌, ◌^◌, ◌<◌}
use native.Mathlib.Nat.{mul-one, mul_comm, mul_assoc, pow-suc, div-add-mod'}
use native.Mathlib.Omega.{arith}
use lib.Bits.{bit_xor, xor_assoc, xor_shr, xor_mod, xor_shifted}
use lib.Dec.{eqb}
use lib.ListN.{get_or}
use Rattle.basics.specs.Lists.{tabulate}
use Rattle.basics.proofs.Lists.{get_or-tabulate}
use Rattle.modbus.specs.Crc.{crc_shift, crc_shifts, crc_byte}
use Rattle.modbus.proofs.Laws.{shifts_fit}

-- ---- the bits above the n lowest go down as they are
shift_passes : (h m : ℕ) → crc_shift (bit_xor (h * 2) m) ≡ bit_xor h (crc_shift m)
unfolding crc_shift
shift_passes h m =
    let even : h * 2 % 2 ≡ 0 = omega arith in
    let half : h * 2 / 2 ≡ h = omega arith in
    let lost : bit_xor (h * 2) m % 2 ≡ m % 2 = xor_mod (h * 2) m 1 ∙ ap (λ x. bit_xor x (m % 2)) even in
    let left : bit_xor (h * 2) m / 2 ≡ bit_xor h (m / 2) = xor_shr (h * 2) m 1 ∙ ap (λ x. bit_xor x (m / 2)) half in
    ap₂ (λ x y. cond (eqb x 1) (bit_xor y 0xA001) y) lost left ∙ go (eqb (m % 2) 1)
  where
    go : (odd : Bool) → cond odd (bit_xor (bit_xor h (m / 2)) 0xA001) (bit_xor h (m / 2)) ≡ bit_xor h (cond odd (bit_xor (m / 2) 0xA001) (m / 2))
    go true = xor_assoc h (m / 2) 0xA001
    go false = refl

pub shifts-pass : (n h m : ℕ) → crc_shifts n (bit_xor (h * 2 ^ n) m) ≡ bit_xor h (crc_shifts n m)
unfolding crc_shifts
shifts-pass zero h m = ap (λ x. bit_xor x m) (mul-one h)
shifts-pass (suc n) h m =
    let doubled : h * 2 ^ suc n ≡ h * 2 * 2 ^ n = ap (λ x. h * x) (pow-suc 2 n ∙ mul_comm (2 ^ n) 2) ∙ sym (mul_assoc h 2 (2 ^ n)) in
    ap (λ x. crc_shift (crc_shifts n (bit_xor x m))) doubled ∙ ap crc_shift (shifts-pass n (h * 2) m) ∙ shift_passes h (crc_shifts n m)

-- ---- the table, and a byte by one step of it
abbrev pub crc_steps : List ℕ
crc_steps = tabulate 256 (λ k. crc_shifts 8 k)

pub step-at : (steps : List ℕ) (k : ℕ) → steps ≡ crc_steps → k < 256 → get_or steps k 0 ≡ crc_shifts 8 k
step-at steps k is below = ap (λ t. get_or t k 0) is ∙ get_or-tabulate 256 (λ j. crc_shifts 8 j) k 0 below

pub step_fits : (steps : List ℕ) (k : ℕ) → steps ≡ crc_steps → k < 256 → get_or steps k 0 < 2 ^ 16
step_fits steps k is below = rw (step-at steps k is below) (shifts_fit 8 k (omega arith))

-- a number exclusive-ored with a byte, as its high and its low byte
byte-in : (high step : ℕ) → high < 256 → bit_xor high step ≡ step / 256 * 256 + bit_xor high (step % 256)
byte-in high step byte =
    let none : high / 256 ≡ 0 = omega arith in
    let all : high % 256 ≡ high = omega arith in
    sym (div-add-mod' (bit_xor high step) 256)
    ∙ ap₂ (λ (x y : ℕ). x * 256 + y)
    (xor_shr high step 8 ∙ ap (λ x. bit_xor x (step / 256)) none)
    (xor_mod high step 8 ∙ ap (λ x. bit_xor x (step % 256)) all)

-- the sum's bytes low and high, and a byte b of the slice
pub byte-by-step : (low high b step : ℕ) → low < 256 → high < 256 → b < 256 → step ≡ crc_shifts 8 (bit_xor low b) →
    step / 256 * 256 + bit_xor high (step % 256) ≡ crc_byte (high * 256 + low) b
unfolding crc_byte
byte-by-step low high b step small large byte is =
    let whole : b % 256 ≡ b = omega arith in
    sym (byte-in high step large)
    ∙ ap (λ x. bit_xor high x) is
    ∙ sym (shifts-pass 8 high (bit_xor low b))
    ∙ ap (λ x. crc_shifts 8 x) (sym (xor_assoc (high * 2 ^ 8) low b) ∙ ap₂ bit_xor (xor_shifted high 8 low small) (sym whole))
