-- A test of all of a list, as the code makes it and as definitions of places say it. Assumes nothing.
--     every_steps      none of the places, and one more
--     listed           the first n places of a list
--     all_same         two lists of one length whose numbers are all the same
--     zipped_within    numbers and files, pair by pair, are as the rule of the limits says it
--     triggers_good    ten triggers are good if each is a Boolean or 0
--     good_at          each of good definitions is good
use mathlib.Core.Path.{◌≡◌, refl, sym, ap, ap₂, ◌∙◌}
use mathlib.Core.List.{List}
use mathlib.Core.Bool.{Bool, true, ◌&&◌}
use Prim.Native.Nat.{ℕ, zero, suc, ◌+◌, ◌≤◌, ◌<◌}
use native.Mathlib.Numerals.{add-one}
use native.Mathlib.Omega.{arith}
use borrow.Author.Tests.{eqb-true}
use lib.Dec.{eqb, leb}
use lib.ListN.{length, get_or, take}
use lib.Seq.{ext_get_or}
use Rattle.archive.proofs.Layouts.{every-none, every-at}
use Rattle.std.specs.List.{list_all, zip}
use Rattle.std.proofs.lemmas.List.Folds.{list_all_more}
use Rattle.std.proofs.lemmas.List.{take_all}
use Rattle.std.proofs.lemmas.Slice.Zip.{length-zip, get_or-zip}
use Rattle.points.specs.Table.{boolean_or_none}
use Rattle.archive.specs.declared.layout.File.{File}
use Rattle.archive.specs.Layout.{Layout, every, limit_of, definition, is_good, good_files}
use Rattle.archive.specs.Lent.{LaidOut, no_file}
use Rattle.state.specs.Validity.{good_triggers, within_limits}

pub every_more : (f : ℕ → Bool) (k : ℕ) → every (k + 1) f ≡ (every k f && f k)
unfolding every
every_more f k = rw add-one refl

pub ruleset every_steps = (every-none, every_more)

listed : {X : Type 0} (p : X → Bool) (xs : List X) (d : X) (n : ℕ) → n ≤ length xs → list_all p (take n xs) ≡ every n (λ k. p (get_or xs k d))
unfolding every
listed p xs d zero inside = refl
listed p xs d (suc n) inside =
    let more : list_all p (take (suc n) xs) ≡ (list_all p (take n xs) && p (get_or xs n d)) = rw add-one at (list_all_more p xs n d (omega arith)) in
    more ∙ ap (λ b. b && p (get_or xs n d)) (listed p xs d n (omega arith))

pub triggers_good : (triggers : List ℕ) → length triggers ≡ 10 → good_triggers triggers ≡ list_all boolean_or_none triggers
unfolding good_triggers
triggers_good triggers long =
    sym (listed boolean_or_none triggers 0 10 (omega (arith, long))) ∙ ap (list_all boolean_or_none) (take_all 10 triggers (omega (arith, long)))

pub all_same : (xs ys : List ℕ) (n : ℕ) → length xs ≡ n → length ys ≡ n → every n (λ k. eqb (get_or xs k 0) (get_or ys k 0)) ≡ true → xs ≡ ys
all_same xs ys n long-xs long-ys same =
    ext_get_or 0 xs ys (omega (arith, long-xs, long-ys))
    (λ k below. eqb-true _ _ (every-at (λ i. eqb (get_or xs i 0) (get_or ys i 0)) n k same (omega (arith, below, long-xs))))

pub good_at : (groups : List ℕ) (f : ℕ) → f < 10 → good_files groups ≡ true → is_good (definition groups f) ≡ true
unfolding good_files
good_at groups f below good = every-at (λ i. is_good (definition groups i)) 10 f good below

every-same : (f g : ℕ → Bool) (n : ℕ) → ((k : ℕ) → k < n → f k ≡ g k) → every n f ≡ every n g
unfolding every
every-same f g zero same = refl
every-same f g (suc n) same = ap₂ (λ a b. a && b) (every-same f g n (λ k below. same k (omega (arith, below)))) (same n (omega arith))

-- a number is within its file's n
abbrev pub is_within : ℕ × File → Bool
is_within pair = leb pair.0 pair.1.limit

pub zipped_within : (numbers : List ℕ) (files : List File) (l : Layout) → length numbers ≡ 11 → LaidOut l files →
    list_all is_within (zip numbers files) ≡ within_limits numbers l
unfolding within_limits
zipped_within numbers files l long laid =
    let pairs : length (zip numbers files) ≡ 11 = rw (length-zip numbers files, long, laid.numbered) refl in
    let nowhere : ℕ × File = (0, no_file) in
    let at : (k : ℕ) → k < 11 → is_within (get_or (zip numbers files) k nowhere) ≡ leb (get_or numbers k 0) (limit_of l k) =
    λ k below. ap is_within (get_or-zip numbers files k nowhere (omega (arith, long, below)) (omega (arith, laid.numbered, below)))
    ∙ ap (λ (file : File). leb (get_or numbers k 0) file.limit) (laid.each k below) in
    sym (ap (list_all is_within) (take_all 11 (zip numbers files) (omega (arith, pairs)))) ∙ listed is_within (zip numbers files) nowhere 11 (omega (arith, pairs))
    ∙ every-same (λ k. is_within (get_or (zip numbers files) k nowhere)) (λ k. leb (get_or numbers k 0) (limit_of l k)) 11 at
