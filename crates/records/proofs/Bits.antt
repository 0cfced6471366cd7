-- Bits and the numbers that they make. Assumes nothing.
--     bits_of          the m lowest bits of a number make the number below 2 ^ m
--     from-bit         each bit is read back from the number that they make
--     low_bit, high_bit    a bit of a number of which m low digits are known
--     mask-of          one less than a one shifted by m is the mask of m bits
--     packed-window    a packed byte is the window of up to eight Booleans that starts at it
--     window-bit       bit j of two joined bytes shifted right is the flag that stands there in the table
use mathlib.Core.Path.{◌≡◌, sym, ap, ◌∙◌}
use mathlib.Core.List.{List, [], ◌∷◌, ◌++◌}
use mathlib.Core.Logic.{⊎_elim}
use Prim.Native.Nat.{ℕ, zero, suc, ◌+◌, ◌-◌, ◌*◌, ◌/◌, ◌%◌, ◌^◌, ◌≤◌, ◌<◌, min}
use native.Mathlib.Nat.{add_assoc, pow-suc, one-mul, mul_assoc, mod-one, mod-eq_of_lt, div-one, mul-le-mul_right, not-suc-le-zero, eq-or-lt_of_le, le_of_suc-le-suc}
use native.Mathlib.Numerals.{one-add}
use native.Mathlib.Omega.{arith}
use lib.Bits.{and_mask}
use lib.Dec.{lit<}
use lib.ListN.{length, get_or}
use lib.Pow.{shl_exact, shr-shr, high, low, mod-pow-add, field, mod-mod-pow}
use Rattle.basics.specs.Lists.{tabulate}
use Rattle.basics.proofs.Lists.{length-tabulate, tabulate-ext, tabulate-part}
use Rattle.basics.proofs.Tests.{lt-or-le}
use Rattle.records.specs.Capture.{from_bits, flags, packed_byte}
use Rattle.points.specs.Table.{flag_at}

from-append : (xs : List ℕ) (b : ℕ) → from_bits (xs ++ (b ∷ [])) ≡ b * 2 ^ length xs + from_bits xs
unfolding from_bits
from-append [] b = omega arith
from-append (x ∷ xs) b =
    let more : b * 2 ^ suc (length xs) ≡ b * 2 ^ length xs * 2 = rw pow-suc (sym (mul_assoc b (2 ^ length xs) 2)) in
    omega (arith, more, from-append xs b)

pub bits_of : (v m : ℕ) → from_bits (tabulate m (λ j. v / 2 ^ j % 2)) ≡ v % 2 ^ m
unfolding tabulate from_bits
bits_of v zero = sym (mod-one v)
bits_of v (suc m) =
    from-append (tabulate m (λ j. v / 2 ^ j % 2)) (v / 2 ^ m % 2)
    ∙ simp (length-tabulate, bits_of v m) (sym (mod-pow-add v 1 m) ∙ ap (λ k. v % 2 ^ k) (one-add m))

pub mask-of : (m : ℕ) → m ≤ 8 → (1 * 2 ^ m) % 65536 ≡ 2 ^ m
mask-of m h = shl_exact {a = 1} 1 m 16 (lit< tt) (omega arith) ∙ one-mul (2 ^ m)

-- bit k of a number of which m low digits are known
module _ (hi lo k m : ℕ) (digits : lo < 2 ^ m) where
  pub low_bit : k < m → (hi * 2 ^ m + lo) / 2 ^ k % 2 ≡ lo / 2 ^ k % 2
  low_bit h =
      let w = hi * 2 ^ m + lo in
      let all : m - (1 + k) + (1 + k) ≡ m = omega arith in
      let same : w % 2 ^ (1 + k) ≡ lo % 2 ^ (1 + k)
      = sym (mod-mod-pow w (m - (1 + k)) (1 + k)) ∙ ap (λ n. w % 2 ^ n % 2 ^ (1 + k)) all ∙ ap (λ x. x % 2 ^ (1 + k)) (low hi m digits) in
      sym (field w 1 k) ∙ ap (λ x. x / 2 ^ k) same ∙ field lo 1 k

  pub high_bit : m ≤ k → (hi * 2 ^ m + lo) / 2 ^ k % 2 ≡ hi / 2 ^ (k - m) % 2
  high_bit h =
      let w = hi * 2 ^ m + lo in
      let all : m + (k - m) ≡ k = omega arith in
      ap (λ n. w / 2 ^ n % 2) (sym all) ∙ ap (λ x. x % 2) (sym (shr-shr w m (k - m))) ∙ ap (λ x. x / 2 ^ (k - m) % 2) (high hi m digits)

-- bits make a number of as many digits, and are read back from it
module _ (f : ℕ → ℕ) (bit : (j : ℕ) → f j < 2) where
  from-small : (m : ℕ) → from_bits (tabulate m f) < 2 ^ m
  unfolding tabulate from_bits
  from-small zero = omega arith
  from-small (suc m) =
      let step = from-append (tabulate m f) (f m) in
      let long = length-tabulate m f in
      let top : f m * 2 ^ m ≤ 1 * 2 ^ m = mul-le-mul_right (2 ^ m) (le_of_suc-le-suc (bit m)) in
      rw (step, long, pow-suc) (omega (arith, top, from-small m))

  pub from-bit : (m j : ℕ) → j < m → from_bits (tabulate m f) / 2 ^ j % 2 ≡ f j
  unfolding tabulate
  from-bit zero j h = absurd (not-suc-le-zero h)
  from-bit (suc m) j h =
      rw (from-append (tabulate m f) (f m), length-tabulate m f)
      (⊎_elim last (λ l. low_bit (f m) (from_bits (tabulate m f)) j m (from-small m) l ∙ from-bit m j l) (eq-or-lt_of_le (le_of_suc-le-suc h)))
    where
      last : j ≡ m → (f m * 2 ^ m + from_bits (tabulate m f)) / 2 ^ j % 2 ≡ f j
      last e =
          let none : j - m ≡ 0 = omega arith in
          high_bit (f m) (from_bits (tabulate m f)) j m (from-small m) (omega arith)
          ∙ ap (λ k. f m / 2 ^ k % 2) none ∙ rw div-one (mod-eq_of_lt (bit m)) ∙ ap f (sym e)

pub window-bit : (t : List ℕ) (offset at j : ℕ) → get_or t (offset + at / 8) 0 < 2 ^ 8 → j < 8 →
    (get_or t (offset + at / 8 + 1) 0 * 2 ^ 8 + get_or t (offset + at / 8) 0) / 2 ^ (at % 8) / 2 ^ j % 2
    ≡ get_or t (offset + (at + j) / 8) 0 / 2 ^ ((at + j) % 8) % 2
window-bit t offset at j byte small =
    let hi = get_or t (offset + at / 8 + 1) 0 in
    let lo = get_or t (offset + at / 8) 0 in
    ap (λ x. x % 2) (shr-shr (hi * 2 ^ 8 + lo) (at % 8) j) ∙ ⊎_elim same next (lt-or-le (at % 8 + j) 8)
  where
    same : at % 8 + j < 8 → (get_or t (offset + at / 8 + 1) 0 * 2 ^ 8 + get_or t (offset + at / 8) 0) / 2 ^ (at % 8 + j) % 2 ≡ get_or t (offset + (at + j) / 8) 0 / 2 ^ ((at + j) % 8) % 2
    same h =
        let q : (at + j) / 8 ≡ at / 8 = omega arith in
        let r : (at + j) % 8 ≡ at % 8 + j = omega arith in
        low_bit (get_or t (offset + at / 8 + 1) 0) (get_or t (offset + at / 8) 0) (at % 8 + j) 8 byte h ∙ simp (q, r)

    next : 8 ≤ at % 8 + j → (get_or t (offset + at / 8 + 1) 0 * 2 ^ 8 + get_or t (offset + at / 8) 0) / 2 ^ (at % 8 + j) % 2 ≡ get_or t (offset + (at + j) / 8) 0 / 2 ^ ((at + j) % 8) % 2
    next h =
        let q : offset + (at + j) / 8 ≡ offset + at / 8 + 1 = omega arith in
        let r : (at + j) % 8 ≡ at % 8 + j - 8 = omega arith in
        high_bit (get_or t (offset + at / 8 + 1) 0) (get_or t (offset + at / 8) 0) (at % 8 + j) 8 byte h ∙ simp (q, r)

pub packed-window : (t : List ℕ) (offset first n i : ℕ) →
    packed_byte (flags t offset first n) i ≡ from_bits (flags t offset (first + 8 * i) (min 8 (n - 8 * i)))
unfolding packed_byte flags
packed-window t offset first n i =
    ap from_bits
    (tabulate-part n (8 * i) 8 (λ e. flag_at t offset (first + e))
    ∙ tabulate-ext (min 8 (n - 8 * i)) _ _ (λ j h. ap (flag_at t offset) (sym (add_assoc first (8 * i) j))))

-- the m lowest bits by a mask
pub ruleset mask_laws = (mask-of, and_mask)
