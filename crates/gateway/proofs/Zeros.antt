-- What Fresh and Start write, place by place. Assumes nothing.
--     zeros-tabulate    zeros
use mathlib.Core.Path.{◌≡◌, refl, ap, ◌∙◌}
use mathlib.Core.List.{[], ◌∷◌, ◌++◌}
use Prim.Native.Nat.{ℕ, zero, suc}
use lib.ListN.{replicate}
use Rattle.basics.specs.Lists.{tabulate}

zeros-more : (n : ℕ) → ◌++◌ {A = ℕ} (replicate n 0) (0 ∷ []) ≡ replicate (suc n) 0
zeros-more zero = refl
zeros-more (suc n) = ap (λ l. 0 ∷ l) (zeros-more n)

pub zeros-tabulate : (n : ℕ) → tabulate n (λ k. 0) ≡ replicate n 0
unfolding tabulate
zeros-tabulate zero = refl
zeros-tabulate (suc n) = ap (λ l. l ++ (0 ∷ [])) (zeros-tabulate n) ∙ zeros-more n
