-- The formulas for the pointer and for record k in plain arithmetic, as they hold of every file at the end of a list. Assumes nothing.
--     points_to    the pointer is 0 if c = 0, otherwise 1 + (c - 1) mod n
--     reads_as     record k reads as capture j, the greatest j from 1 to c with j - k divisible by n, or as zeros if there is none
--     end_reads    what is compared after the list
use mathlib.Core.Path.{◌≡◌, refl, sym, ap, ◌∙◌, subst}
use mathlib.Core.List.{List, [], ◌∷◌}
use mathlib.Core.Logic.{inl, inr, ⊎_elim}
use Prim.Native.Nat.{ℕ, zero, suc, ◌+◌, ◌-◌, ◌*◌, ◌/◌, ◌%◌, ◌≤◌, ◌<◌}
use native.Mathlib.Nat.{add-mul-mod_self_right, div-add-mod', add-mul}
use native.Mathlib.Omega.{arith}
use borrow.Author.Tests.{eq-eqb, ne_eqb}
use lib.ListN.{length, get_or}
use Rattle.basics.proofs.Tests.{eq-or-not, lt-or-le}
use Rattle.archive.specs.Layout.{limit_of, size_of, all_files}
use Rattle.archive.specs.Ring.{pointer_after, record_after}
use Rattle.machine.specs.Machine.{Machine, layout, after, fresh}
use Rattle.machine.specs.View.{state_of}
use Rattle.machine.specs.Readings.{PointsTo, Divisible, ReadsAs, capture, zeros, FileReads, EndReads, EndsAsRead}
use Rattle.machine.proofs.Steps.{Good}
use Rattle.machine.proofs.Polls.{points}
use Rattle.machine.proofs.Whole.{ended}

-- ---- the pointer
pub points_to : (n c : ℕ) → PointsTo n c (pointer_after n c)
unfolding pointer_after
points_to n zero = record { none = λ _. refl; some = λ some. absurd (omega arith) }
points_to n (suc c) =
    let same : c ≡ suc c - 1 = omega arith in
    record { none = λ none. absurd (omega arith); some = λ _. ap (λ x. 1 + x % n) same }

-- ---- divisible is the same remainder
divisible-rest : (n j k : ℕ) → Divisible n j k → j % n ≡ k % n
divisible-rest n j k d =
    ⊎_elim (λ up. ap (λ x. x % n) up ∙ add-mul-mod_self_right k d.0 n)
    (λ down. sym (ap (λ x. x % n) down ∙ add-mul-mod_self_right j d.0 n)) d.1

above : (n j k : ℕ) → j % n ≡ k % n → k / n ≤ j / n → j ≡ k + (j / n - k / n) * n
above n j k same more =
    let sum : k / n + (j / n - k / n) ≡ j / n = omega arith in
    omega (arith, div-add-mod' j n, div-add-mod' k n, ap (λ x. x * n) (sym sum) ∙ add-mul (k / n) (j / n - k / n) n)

rest-divisible : (n j k : ℕ) → j % n ≡ k % n → Divisible n j k
rest-divisible n j k same =
    ⊎_elim (λ less. (k / n - j / n, inr (above n k j (sym same) (omega arith))))
    (λ more. (j / n - k / n, inl (above n j k same more))) (lt-or-le (j / n) (k / n))

-- ---- the records: one capture more
module _ (n size : ℕ) (r : List ℕ) (rs : List (List ℕ)) (k : ℕ) where
  -- it is the one
  newest : suc (length rs) % n ≡ k % n → ReadsAs n size (r ∷ rs) k (record_after n size (r ∷ rs) k)
  unfolding record_after
  newest same =
      let at : 0 ≡ suc (length rs) - suc (length rs) = omega arith in
      rw (eq-eqb _ _ same)
      (capture (suc (length rs)) (record {
        first = omega arith;
        last = omega arith;
        divisible = rest-divisible n (suc (length rs)) k same;
        greatest = λ i _ few _. few;
      }) (ap (λ x. get_or (r ∷ rs) x []) at))

  -- or an older one is, or none
  module _ (differs : suc (length rs) % n ≡ k % n → ⊥) where
    before : (j : ℕ) → j ≤ suc (length rs) → Divisible n j k → j ≤ length rs
    before j few d =
        ⊎_elim (λ is. absurd (differs (ap (λ x. x % n) (sym is) ∙ divisible-rest n j k d))) (λ other. omega (arith, few, other))
        (eq-or-not j (suc (length rs)))

    older : (bytes : List ℕ) → ReadsAs n size rs k bytes → ReadsAs n size (r ∷ rs) k bytes
    older bytes (capture j is reads) =
        let below = is.last in
        let at : suc (length rs - j) ≡ suc (length rs) - j = omega arith in
        capture j (record {
          first = is.first;
          last = omega arith;
          divisible = is.divisible;
          greatest = λ i some few d. is.greatest i some (before i few d) d;
        }) (reads ∙ ap (λ x. get_or (r ∷ rs) x []) at)
    older bytes (zeros none reads) = zeros (λ j some few d. none j some (before j few d) d) reads

pub reads_as : (n size : ℕ) (rs : List (List ℕ)) (k : ℕ) → ReadsAs n size rs k (record_after n size rs k)
unfolding record_after
reads_as n size [] k = zeros (λ j some few d. omega (arith, some, few)) refl
reads_as n size (r ∷ rs) k =
    ⊎_elim (newest n size r rs k)
    (λ differs. rw (ne_eqb (suc (length rs) % n) (k % n) differs) (older n size r rs k differs _ (reads_as n size rs k)))
    (eq-or-not (suc (length rs) % n) (k % n))

-- ---- every file of a good machine
good-reads : (M : Machine) (m : List ℕ) → Good M m → EndReads M (state_of M) m
unfolding state_of
good-reads M m good = record { running = refl; unlocked = refl; pending = refl; files = each; beyond = good.held.beyond }
  where
    each : (f : ℕ) → f < all_files → FileReads M (state_of M) m f
    each f below =
        let n = limit_of (layout M) f in
        let size = size_of (layout M) f in
        let rs = M.files.lists f in
        record {
          limit = refl;
          pointer = subst (PointsTo n (length rs)) (sym (points M m good f below)) (points_to n (length rs));
          requested = refl;
          reads = λ k first last. subst (ReadsAs n size rs k) (sym ((good.held.files f below).reads k first last)) (reads_as n size rs k);
        }

pub end_reads : EndsAsRead
end_reads day_first unit firmware m₀ cs os s m ran =
    let M = after (fresh day_first unit firmware (length m₀)) cs in
    let end = ended ran in
    subst (λ t. EndReads M t m) (sym end.0.state) (good-reads M m end.1)
