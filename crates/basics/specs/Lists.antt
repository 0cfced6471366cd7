-- Lists that the definitions of several crates share: one by a rule for each place, one written over, lists of bytes, two tests.
use Rattle.std.specs.Prelude.{List, [], ◌∷◌, ◌++◌, Bool, true, false, ◌&&◌, ℕ, zero, suc, ◌+◌, ◌<◌, eqb, length, get_or, take, drop}
use Rattle.std.specs.List.{list_all}

-- f 0, f 1, .., f (n - 1)
unfoldable pub tabulate : ℕ → (ℕ → ℕ) → List ℕ
tabulate zero f = []
tabulate (suc n) f = tabulate n f ++ (f n ∷ [])

-- the list xs with ys written over it from place a on
abbrev pub pasted : List ℕ → ℕ → List ℕ → List ℕ
pasted xs a ys = take a xs ++ (ys ++ drop (a + length ys) xs)

-- every number of a list is a byte
abbrev pub Bytes : List ℕ → Type 0
Bytes xs = (i : ℕ) → get_or xs i 0 < 256

-- every number of a list is 0
abbrev pub all_zero : List ℕ → Bool
all_zero xs = list_all (λ x. eqb x 0) xs

-- two lists are the same
abbrev pub same : List ℕ → List ℕ → Bool
same [] [] = true
same [] (y ∷ ys) = false
same (x ∷ xs) [] = false
same (x ∷ xs) (y ∷ ys) = eqb x y && same xs ys
