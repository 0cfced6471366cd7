-- Laws of `tabulate`, and of lists that are written place by place. Assumes nothing.
--     length-tabulate, get_or-tabulate    its length, and what stands at a place
--     tabulate-ext                      two rules that agree below n give the same list
--     tabulate-part                     a stretch of it, which may run past its end, is one of a shifted rule
--     part-tabulate, map-tabulate       a part of a list, and a function at each place, as such a rule
--     copied                            a list copied place by place
--     filled_none, filled_next, filled-all    a loop that stores place after place by a rule: before, after one more turn, at the end
--     copying-none, -next, -all         a loop that copies a list: the same
--     sets-whole                        stores at every place of a list
--     part-back, take-pasted, length-pasted    a part that was lent and has come back; what stands before its end; the length
--     part-part                         a part of a part
--     part-before                       a part that ends at or before the place a of a pasted list is as it was
--     drop-behind, part-behind          what lies, or a part that starts, at or behind the end of what was pasted is as it was
--     part-here                         the part that was pasted reads as it was written
--     pasted-over, pasted-append        pasted over something that was pasted, or right behind it
--     rest-lent, rest_back              the same for all of a list behind its first k
--     length-zero                       a list of no length
--     zero-at                           a list of zeros has 0 at every place
use mathlib.Core.Path.{◌≡◌, refl, sym, ap, ap₂, ◌∙◌}
use mathlib.Core.List.{List, [], ◌∷◌, ◌++◌, map, map-append, append-nil, append_assoc}
use mathlib.Core.Bool.{true}
use mathlib.Core.Logic.{⊎_elim}
use Prim.Native.Nat.{ℕ, zero, suc, ◌+◌, ◌-◌, ◌≤◌, ◌<◌, min}
use native.Mathlib.Nat.{not-suc-le-zero, eq-or-lt_of_le, le_of_suc-le-suc, add_assoc, zero-add}
use native.Mathlib.Numerals.{add-one}
use native.Mathlib.Omega.{arith}
use borrow.Author.Tests.{eqb-true}
use lib.Dec.{eqb}
use lib.ListN.{length, get_or, set, length-set, take, drop, length-append, length-take, length-drop, get_or-append, drop_of_length-le, take-append-drop}
use lib.Seq.{sets, sets-eq, ext_get_or, get_or-take, get_or-drop, get_or-append_seam, drop-cons, drop-drop, set_at, take_at, drop_at, take_all}
use lib.Seq.{length-take-le, take-append-le, drop-append-le, take-append_seam}
use Rattle.basics.specs.Lists.{tabulate, all_zero, pasted}
use Rattle.basics.proofs.Tests.{and_left, and_right}
-- a list of no length
pub use Rattle.std.proofs.lemmas.List.{nil_from_length as length-zero}

pub length-tabulate : (n : ℕ) (f : ℕ → ℕ) → length (tabulate n f) ≡ n
unfolding tabulate
length-tabulate zero f = refl
length-tabulate (suc n) f = length-append (tabulate n f) (f n ∷ []) ∙ ap (λ k. k + 1) (length-tabulate n f) ∙ add-one n

pub get_or-tabulate : (n : ℕ) (f : ℕ → ℕ) (i d : ℕ) → i < n → get_or (tabulate n f) i d ≡ f i
unfolding tabulate
get_or-tabulate zero f i d h = absurd (not-suc-le-zero h)
get_or-tabulate (suc n) f i d h = ⊎_elim last (λ l. before l (get_or-tabulate n f i d l)) (eq-or-lt_of_le (le_of_suc-le-suc h))
  where
    last : i ≡ n → get_or (tabulate n f ++ (f n ∷ [])) i d ≡ f i
    last e = rw e (ap (λ k. get_or (tabulate n f ++ (f n ∷ [])) k d) (sym (length-tabulate n f)) ∙ get_or-append_seam (tabulate n f) (f n) [] d)

    before : i < n → get_or (tabulate n f) i d ≡ f i → get_or (tabulate n f ++ (f n ∷ [])) i d ≡ f i
    before l same = get_or-append (tabulate n f) (f n ∷ []) d i (rw length-tabulate l) ∙ same

pub tabulate-ext : (n : ℕ) (f g : ℕ → ℕ) → ((i : ℕ) → i < n → f i ≡ g i) → tabulate n f ≡ tabulate n g
tabulate-ext n f g same =
    ext_get_or 0 (tabulate n f) (tabulate n g) (length-tabulate n f ∙ sym (length-tabulate n g))
    (λ i l. let h : i < n = rw length-tabulate at l in get_or-tabulate n f i 0 h ∙ same i h ∙ sym (get_or-tabulate n g i 0 h))

pub tabulate-part : (n from k : ℕ) (f : ℕ → ℕ) → take k (drop from (tabulate n f)) ≡ tabulate (min k (n - from)) (λ i. f (from + i))
tabulate-part n from k f =
    let part = take k (drop from (tabulate n f)) in
    let long : length part ≡ min k (n - from) = simp (length-take, length-drop, length-tabulate) in
    ext_get_or 0 part (tabulate (min k (n - from)) (λ i. f (from + i))) (long ∙ sym (length-tabulate (min k (n - from)) (λ i. f (from + i))))
    (λ i l.
    let h : i < min k (n - from) = rw long at l in
    get_or-take k (drop from (tabulate n f)) i 0 (omega arith) ∙ get_or-drop from (tabulate n f) i 0
    ∙ get_or-tabulate n f (from + i) 0 (omega arith) ∙ sym (get_or-tabulate (min k (n - from)) (λ j. f (from + j)) i 0 h))

-- a part of a list, by the rule for its places
pub part-tabulate : (xs : List ℕ) (a k : ℕ) → a + k ≤ length xs → take k (drop a xs) ≡ tabulate k (λ i. get_or xs (a + i) 0)
part-tabulate xs a k fits =
    let part = take k (drop a xs) in
    let long : length part ≡ k = simp (length-take, length-drop) (omega arith) in
    ext_get_or 0 part (tabulate k (λ i. get_or xs (a + i) 0)) (long ∙ sym (length-tabulate k (λ i. get_or xs (a + i) 0)))
    (λ i l.
    let h : i < k = rw long at l in
    get_or-take k (drop a xs) i 0 h ∙ get_or-drop a xs i 0 ∙ sym (get_or-tabulate k (λ j. get_or xs (a + j) 0) i 0 h))

-- a list copied place by place
pub copied : (l : List ℕ) → tabulate (length l) (λ k. get_or l k 0) ≡ l
copied l =
    tabulate-ext (length l) (λ k. get_or l k 0) (λ k. get_or l (0 + k) 0) (λ i below. ap (λ j. get_or l j 0) (sym (zero-add i)))
    ∙ sym (part-tabulate l 0 (length l) (omega arith)) ∙ take_all (length l) l (omega arith)

pub map-tabulate : (g f : ℕ → ℕ) (n : ℕ) → map g (tabulate n f) ≡ tabulate n (λ i. g (f i))
unfolding tabulate
map-tabulate g f zero = refl
map-tabulate g f (suc n) = map-append g (tabulate n f) (f n ∷ []) ∙ ap (λ l. l ++ (g (f n) ∷ [])) (map-tabulate g f n)

-- what was there from n on, with v stored at n
fill-next : (xs d : List ℕ) (n v : ℕ) → length xs ≡ n → n < length d → set (xs ++ drop n d) n v ≡ (xs ++ (v ∷ [])) ++ drop (n + 1) d
fill-next xs d n v long more =
    rw (drop-cons d n 0 more) (set_at xs (get_or d n 0) (drop (suc n) d) v n long ∙ rw (add-one, append_assoc) refl)

-- a list whose first i places are filled by a rule: what a loop that stores place after place has made of d after i turns
abbrev pub filled : (ℕ → ℕ) → List ℕ → ℕ → List ℕ
filled f d i = tabulate i f ++ drop i d

pub filled_none : (f : ℕ → ℕ) (d : List ℕ) → d ≡ filled f d 0
unfolding tabulate
filled_none f d = refl

pub filled_next : (f : ℕ → ℕ) (d : List ℕ) (i v : ℕ) → i < length d → v ≡ f i → set (filled f d i) i v ≡ filled f d (i + 1)
unfolding tabulate
filled_next f d i v more is = fill-next (tabulate i f) d i v (length-tabulate i f) more ∙ rw (is, add-one) refl

pub filled-all : (f : ℕ → ℕ) (d : List ℕ) (i : ℕ) → length d ≤ i → filled f d i ≡ tabulate i f
filled-all f d i end = ap (λ t. tabulate i f ++ t) (drop_of_length-le d end) ∙ append-nil (tabulate i f)

-- a loop that copies a list over one of its length, `to`, place by place: what it has made of that after i turns
pub record Copying (from to : List ℕ) (i : ℕ) (made : List ℕ) : Type 0 where
  pub some : i ≤ length to
  pub long : length made ≡ length to
  pub is : made ≡ filled (λ k. get_or from k 0) to i

pub copying-none : (from to : List ℕ) → Copying from to 0 to
copying-none from to = record { some = omega arith; long = refl; is = filled_none (λ k. get_or from k 0) to }

pub copying-next : (from to made : List ℕ) (i : ℕ) → Copying from to i made → i < length made → Copying from to (i + 1) (set made i (get_or from i 0))
copying-next from to made i so_far more =
    let below : i < length to = omega (arith, so_far.long, more) in
    record {
      some = omega (arith, below);
      long = length-set made i (get_or from i 0) ∙ so_far.long;
      is = ap (λ l. set l i (get_or from i 0)) so_far.is ∙ filled_next (λ k. get_or from k 0) to i (get_or from i 0) below refl;
    }

pub copying-all : (from to made : List ℕ) (i : ℕ) → length to ≡ length from → Copying from to i made → length made ≤ i → made ≡ from
copying-all from to made i same so_far end =
    let all : i ≡ length from = omega (arith, so_far.some, so_far.long) in
    so_far.is ∙ filled-all (λ k. get_or from k 0) to i (omega (arith, so_far.long)) ∙ ap (λ k. tabulate k (λ j. get_or from j 0)) all ∙ copied from

pub sets-whole : (l vs : List ℕ) → length l ≡ length vs → sets l 0 vs ≡ vs
sets-whole l vs same =
    sets-eq vs l 0 (omega arith) ∙ ap (λ t. vs ++ t) (drop_of_length-le l {i = 0 + length vs} (omega arith)) ∙ append-nil vs

-- ys written over xs from place a on, where a part of that length was lent
pub part-back : (xs ys : List ℕ) (a k : ℕ) → length ys ≡ k → take a xs ++ (ys ++ drop k (drop a xs)) ≡ pasted xs a ys
part-back xs ys a k long = rw (drop-drop, long) refl

-- writing over is storing one after the other
pub sets-pasted : (xs ys : List ℕ) (a : ℕ) → a + length ys ≤ length xs → sets xs a ys ≡ pasted xs a ys
sets-pasted xs ys a fits = sets-eq ys xs a fits ∙ append_assoc (take a xs) ys (drop (a + length ys) xs)

-- a part's length
pub length_part : (xs : List ℕ) (a k : ℕ) → a + k ≤ length xs → length (take k (drop a xs)) ≡ k
length_part xs a k fits = simp (length-take, length-drop) (omega arith)

pub length-pasted : (xs ys : List ℕ) (a : ℕ) → a + length ys ≤ length xs → length (pasted xs a ys) ≡ length xs
length-pasted xs ys a fits =
    simp (length-append, length-take, length-drop) (omega arith)

pub take-pasted : (xs ys : List ℕ) (a b : ℕ) → a + length ys ≤ length xs → b ≡ a + length ys → take b (pasted xs a ys) ≡ take a xs ++ ys
take-pasted xs ys a b fits end =
    let long : length (take a xs ++ ys) ≡ b = simp (length-append, length-take) (omega arith) in
    rw (← append_assoc) (take_at (take a xs ++ ys) (drop (a + length ys) xs) b long)

-- the rest of a list behind its first k, lent as a part; and what the list is when it has come back as zs
pub rest-lent : (xs ys : List ℕ) (k : ℕ) → length xs ≡ k → take (length (xs ++ ys) - k) (drop k (xs ++ ys)) ≡ ys
rest-lent xs ys k front = rw (drop_at xs ys k front) (take_all (length (xs ++ ys) - k) ys (simp length-append (omega arith)))

pub rest_back : (xs ys zs : List ℕ) (k : ℕ) → length xs ≡ k →
    take k (xs ++ ys) ++ (zs ++ drop (length (xs ++ ys) - k) (drop k (xs ++ ys))) ≡ xs ++ zs
rest_back xs ys zs k front =
    let end : length ys ≤ length (xs ++ ys) - k = simp length-append (omega arith) in
    rw (drop_at xs ys k front, take_at xs ys k front) (ap (λ t. xs ++ (zs ++ t)) (drop_of_length-le ys end) ∙ rw append-nil refl)

-- a part of a part
pub part-part : (l : List ℕ) (a n b k : ℕ) → a + n ≤ length l → b + k ≤ n → take k (drop b (take n (drop a l))) ≡ take k (drop (a + b) l)
part-part l a n b k outer inner =
    let part = take n (drop a l) in
    part-tabulate part b k (rw (length_part l a n outer) inner)
    ∙ tabulate-ext k _ _ (λ i h.
    get_or-take n (drop a l) (b + i) 0 (omega arith) ∙ get_or-drop a l (b + i) 0 ∙ ap (λ j. get_or l j 0) (sym (add_assoc a b i)))
    ∙ sym (part-tabulate l (a + b) k (omega arith))

-- a part of a list's front
front : (p q : List ℕ) (b n : ℕ) → b + n ≤ length p → take n (drop b (p ++ q)) ≡ take n (drop b p)
front p q b n inside =
    ap (take n) (drop-append-le b p q (omega arith)) ∙ take-append-le n (drop b p) q (simp length-drop (omega arith))

-- parts of a list over which ys was pasted from place a on: one before them, one behind them, and ys
pub part-before : (xs ys : List ℕ) (a b n : ℕ) → a ≤ length xs → b + n ≤ a → take n (drop b (pasted xs a ys)) ≡ take n (drop b xs)
part-before xs ys a b n fits early =
    let long : b + n ≤ length (take a xs) = simp length-take (omega arith) in
    front (take a xs) (ys ++ drop (a + length ys) xs) b n long
    ∙ sym (front (take a xs) (drop a xs) b n long) ∙ ap (λ l. take n (drop b l)) (take-append-drop a xs)

pub drop-behind : (xs ys : List ℕ) (a b : ℕ) → a ≤ length xs → a + length ys ≤ b → drop b (pasted xs a ys) ≡ drop b xs
drop-behind xs ys a b fits late =
    let end = a + length ys in
    let long : length (take a xs ++ ys) ≡ a + length ys = simp (length-append, length-take) (omega arith) in
    let rest : drop end (pasted xs a ys) ≡ drop end xs = rw (← append_assoc) (drop_at (take a xs ++ ys) (drop end xs) end long) in
    let there : a + length ys + (b - (a + length ys)) ≡ b = omega arith in
    rw (← there) (sym (drop-drop (b - end) end (pasted xs a ys)) ∙ ap (drop (b - end)) rest ∙ drop-drop (b - end) end xs)

pub part-behind : (xs ys : List ℕ) (a b n : ℕ) → a ≤ length xs → a + length ys ≤ b → take n (drop b (pasted xs a ys)) ≡ take n (drop b xs)
part-behind xs ys a b n fits late = ap (take n) (drop-behind xs ys a b fits late)

pub part-here : (xs ys : List ℕ) (a : ℕ) → a ≤ length xs → take (length ys) (drop a (pasted xs a ys)) ≡ ys
part-here xs ys a fits =
    ap (take (length ys)) (drop_at (take a xs) (ys ++ drop (a + length ys) xs) a (length-take-le a xs fits))
    ∙ take-append_seam ys (drop (a + length ys) xs)

-- pasted from the start on, over something shorter that was pasted; and pasted right behind something that was
pub pasted-over : (xs ys zs : List ℕ) (a : ℕ) → a ≤ length xs → a + length ys ≤ length zs → pasted (pasted xs a ys) 0 zs ≡ pasted xs 0 zs
pasted-over xs ys zs a fits inside = ap (λ t. zs ++ t) (drop-behind xs ys a (0 + length zs) fits (omega arith))

pub pasted-append : (xs ys zs : List ℕ) (a b : ℕ) → a + length ys ≤ length xs → b ≡ a + length ys →
    pasted (pasted xs a ys) b zs ≡ pasted xs a (ys ++ zs)
pasted-append xs ys zs a b fits end =
    let far : b + length zs ≡ a + length (ys ++ zs) = simp length-append (omega arith) in
    let rest : drop (b + length zs) (pasted xs a ys) ≡ drop (a + length (ys ++ zs)) xs
    = drop-behind xs ys a (b + length zs) (omega arith) (omega arith) ∙ ap (λ k. drop k xs) far in
    ap₂ (λ f t. f ++ (zs ++ t)) (take-pasted xs ys a b fits end) rest ∙ simp append_assoc

pub zero-at : (xs : List ℕ) (i : ℕ) → all_zero xs ≡ true → get_or xs i 0 ≡ 0
zero-at [] i z = refl
zero-at (x ∷ xs) zero z = eqb-true x 0 (and_left (eqb x 0) (all_zero xs) z)
zero-at (x ∷ xs) (suc i) z = zero-at xs i (and_right (eqb x 0) (all_zero xs) z)
