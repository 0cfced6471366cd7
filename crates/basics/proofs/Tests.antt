-- Facts about Boolean tests and products that several crates' proofs share. Assumes nothing.
use mathlib.Core.Path.{◌≡◌, refl}
use mathlib.Core.Bool.{Bool, true, false, cond, ◌||◌}
use Prim.Native.Nat.{ℕ, ◌*◌, ◌^◌, ◌≤◌, ◌<◌}
use native.Mathlib.Nat.{mul-le-mul, lt_of_le_of_lt}
use native.Mathlib.Omega.{arith}
use borrow.Author.Tests.{leb-true}
use lib.Dec.{eqb, leb, lit<}
use mir.Val.{bool_byte}
use Rattle.std.proofs.lemmas.Bool.{or_parts}
use Rattle.basics.specs.Numbers.{within}
use Rattle.basics.specs.Card.{card_of}
use Rattle.basics.specs.declared.card.Refusal.{Refusal}
use Rattle.basics.specs.declared.card.Refusal.TheVariants.{Memory, Foreign, Table, Clock, File, Locked, Group, Long, Trigger, Running, Room, Alarm, Reply, Garbled, Empty, Beyond}
-- a number is itself by its test; the two halves of a conjunction that holds; two numbers, one less or not, and equal or not
pub use store.Seg.{eqb_same}
pub use Rattle.std.specs.Cmp.{first_so as and_left, second_so as and_right}
pub use Rattle.std.proofs.lemmas.Bool.{cases_lt as lt-or-le, cases_eq as eq-or-not}

-- the two halves of a disjunction that does not hold
pub or_left : (a b : Bool) → (a || b) ≡ false → a ≡ false
or_left a b e = (or_parts a b e).0

pub or_right : (a b : Bool) → (a || b) ≡ false → b ≡ false
or_right a b e = (or_parts a b e).1

-- what holds of both ways of a test holds of it
pub by_cond : {A : Type 0} (Q : A → Type 0) (b : Bool) (x y : A) → (b ≡ true → Q x) → (b ≡ false → Q y) → Q (cond b x y)
by_cond Q true x y p q = p refl
by_cond Q false x y p q = q refl

-- what a range test that holds gives
pub within-inside : (lo hi x : ℕ) → within lo hi x ≡ true → (lo ≤ x) × (x ≤ hi)
within-inside lo hi x holds = (leb-true lo x (and_left (leb lo x) (leb x hi) holds), leb-true x hi (and_right (leb lo x) (leb x hi) holds))

-- a product of two numbers of 16 bits
pub product-fits : (a b : ℕ) → a < 2 ^ 16 → b < 2 ^ 16 → a * b < 2 ^ 32
product-fits a b ha hb = lt_of_le_of_lt (mul-le-mul {n₂ = 65535} {m₂ = 65535} (omega arith) (omega arith)) (lit< tt)

-- a Boolean as a byte
pub bool-byte : (b : Bool) → bool_byte b ≡ cond b 1 0
bool-byte true = refl
bool-byte false = refl

-- no refusal is told as done
pub refused-number : (r : Refusal) → eqb (card_of r).number 0 ≡ false
refused-number Memory = refl
refused-number Foreign = refl
refused-number Table = refl
refused-number Clock = refl
refused-number File = refl
refused-number Locked = refl
refused-number (Group place) = refl
refused-number Long = refl
refused-number Trigger = refl
refused-number Running = refl
refused-number Room = refl
refused-number Alarm = refl
refused-number Reply = refl
refused-number Garbled = refl
refused-number Empty = refl
refused-number Beyond = refl
