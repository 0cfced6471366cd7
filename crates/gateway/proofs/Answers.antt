-- Laws of the calls' answers. Assumes nothing.
--     refused-first    the state's own number, Memory (1) or Foreign (2), is by_number before what the call itself would answer
--     own-next         where neither applies, the call's own answer stands
--     refused-or-done    a call that has one number of its own
--     fresh-parts, fresh-fits    what Fresh takes keeps its rules, and fits the state's fields
--     point_small, slot_small    a point that is taken fits 16 bits, and so does a slot that is
use mathlib.Core.Path.{◌≡◌, refl, sym, ◌∙◌}
use Prim.Native.Nat.{ℕ, suc, ◌≤◌}
use mathlib.Core.Bool.{Bool, true, false, cond, ◌&&◌}
use native.Mathlib.Omega.{arith}
use borrow.Author.Tests.{ne_eqb, leb-true}
use lib.Dec.{leb, eqb, eqb-suc-zero}
use mathlib.Core.Logic.{⊎_elim}
use Rattle.std.proofs.lemmas.Grind.{common_steps}
use Rattle.points.specs.Table.{boolean_or_none, float_or_none}
use Rattle.points.proofs.Laws.{boolean-inside, float-inside}
use Rattle.archive.specs.Alarms.{good_slot}
use Rattle.basics.specs.Card.{first_of}
use Rattle.basics.specs.Numbers.{within}
use Rattle.basics.proofs.Tests.{and_left, and_right, eq-or-not, within-inside}
use Rattle.modbus.specs.Frame.{good_unit}
use Rattle.state.specs.declared.parts.State.{State}
use Rattle.gateway.specs.declared.calls.Answer.{Answer}
use Rattle.gateway.specs.Calls.{told, done, settled, by_number, most_memory, fresh_number}
use Rattle.state.specs.Firmware.{older_firmware, newer_firmware, good_firmware, least_memory}
use Rattle.state.specs.Validity.{state_number}

pub refused-first : (s : State) (size n : ℕ) (own : Answer) → n ≡ state_number s size → (n ≡ 0 → ⊥) → told s n 0 ≡ settled s size own
refused-first s size n own is some = rw is (simp (ne_eqb (state_number s size) 0 (λ none. some (is ∙ none))))

pub own-next : (s : State) (size n : ℕ) (own : Answer) → n ≡ state_number s size → n ≡ 0 → own ≡ settled s size own
own-next s size n own is none = simp (sym is ∙ none)

-- a call that has one number of its own, which is not 0
pub refused-or-done : (s new : State) (number : ℕ) (refused : Bool) (k : ℕ) →
    by_number (first_of number (cond refused (suc k) 0)) new s ≡ cond (eqb number 0) (cond refused (told s (suc k) 0) (done new)) (told s number 0)
refused-or-done s new number refused k = go (eqb number 0) refused refl
  where
    go : (b r : Bool) → eqb number 0 ≡ b → by_number (cond b (cond r (suc k) 0) number) new s ≡ cond b (cond r (told s (suc k) 0) (done new)) (told s number 0)
    go true true is = simp (eqb-suc-zero k)
    go true false is = refl
    go false r is = simp is

-- ---- what Fresh takes
pub record FreshParts (unit firmware size : ℕ) : Type 0 where
  pub known : good_firmware firmware ≡ true
  pub memory : within (least_memory firmware) most_memory size ≡ true
  pub ours : good_unit unit ≡ true

pub fresh-parts : (unit firmware size : ℕ) → fresh_number unit firmware size ≡ 0 → FreshParts unit firmware size
unfolding fresh_number
fresh-parts unit firmware size taken = grind (arith, common_steps)

pub fresh-fits : (unit firmware size : ℕ) → fresh_number unit firmware size ≡ 0 → (unit ≤ 247) × (firmware ≤ newer_firmware) × (size ≤ most_memory)
unfolding good_firmware
fresh-fits unit firmware size taken =
    let k = fresh-parts unit firmware size taken in (
      (within-inside 1 247 unit k.ours).1,
      (within-inside older_firmware newer_firmware firmware k.known).1,
      (within-inside (least_memory firmware) most_memory size k.memory).1,
    )

-- ---- what is stored in 16 bits
pub point_small : (p : ℕ) → boolean_or_none p ≡ true → p ≤ 1928
point_small p good = ⊎_elim (λ none. omega (arith, none)) (λ some. (boolean-inside p good some).1) (eq-or-not p 0)

pub slot_small : (point kind transducer : ℕ) → good_slot point kind transducer ≡ true → (point ≤ 1928) × (kind ≤ 3) × (transducer ≤ 7228)
unfolding good_slot
slot_small point kind transducer good =
    let rest = and_right (boolean_or_none point) (leb kind 3 && float_or_none transducer) good in
    let float = and_right (leb kind 3) (float_or_none transducer) rest in (
      point_small point (and_left (boolean_or_none point) _ good),
      leb-true kind 3 (and_left (leb kind 3) (float_or_none transducer) rest),
      ⊎_elim (λ none. omega (arith, none)) (λ some. (float-inside transducer float some).1) (eq-or-not transducer 0),
    )
