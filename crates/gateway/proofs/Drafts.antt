-- One file's definition written into the drafts: it stands there, and the others are as they were. Assumes nothing.
--     written-here, written-elsewhere    the definition of a file after it
--     drafts-stay-good                   good drafts stay good when a good definition is written
--     drafts_good                        a valid state's drafts are good
--     draft-room    whether the code finds room for the drafts is whether they fit
use mathlib.Core.Path.{◌≡◌, sym, ap, ap₂, ◌∙◌}
use mathlib.Core.List.{List}
use mathlib.Core.Logic.{⊎_elim}
use mathlib.Core.Bool.{Bool, true}
use Prim.Native.Nat.{ℕ, ◌*◌, ◌≤◌, ◌<◌}
use native.Mathlib.Omega.{arith}
use lib.ListN.{length, take, drop, length-take, length-drop}
use Rattle.basics.specs.Lists.{pasted}
use Rattle.basics.proofs.Lists.{part-before, part-behind, part-here}
use Rattle.basics.proofs.Tests.{eq-or-not, lt-or-le}
use Rattle.archive.specs.Layout.{definition, is_good, good_files, layout_of, has_room}
use Rattle.archive.proofs.Layouts.{every-at, every-all, good-definition, good-file}
use Rattle.state.specs.declared.parts.State.{State}
use Rattle.state.specs.State.{depth_of}
use Rattle.state.specs.Validity.{valid}
use Rattle.state.proofs.Clauses.{valid-split}
use Rattle.gateway.specs.Calls.{draft_fits}

pub written-here : (xs gs : List ℕ) (k : ℕ) → 32 * k ≤ length xs → length gs ≡ 32 → definition (pasted xs (32 * k) gs) k ≡ gs
written-here xs gs k fits long =
    ap (λ n. take n (drop (32 * k) (pasted xs (32 * k) gs))) (sym long) ∙ part-here xs gs (32 * k) fits

pub written-elsewhere : (xs gs : List ℕ) (k j : ℕ) → 32 * k ≤ length xs → length gs ≡ 32 → (j ≡ k → ⊥) →
    definition (pasted xs (32 * k) gs) j ≡ definition xs j
written-elsewhere xs gs k j fits long other =
    ⊎_elim (λ early. part-before xs gs (32 * k) (32 * j) 32 fits (omega (arith, early)))
    (λ late. part-behind xs gs (32 * k) (32 * j) 32 fits (omega (arith, late, other, long))) (lt-or-le j k)

-- good definitions of ten files are 320 numbers
long-enough : (xs : List ℕ) → good_files xs ≡ true → 320 ≤ length xs
long-enough xs good =
    let last = (good-file xs 9 good (omega arith)).long in
    let is : length (take 32 (drop 288 xs)) ≡ 32 = last in
    omega (arith, sym is ∙ length-take 32 (drop 288 xs), length-drop 288 xs)

pub drafts-stay-good : (xs gs : List ℕ) (k : ℕ) → k < 10 → good_files xs ≡ true → is_good gs ≡ true → good_files (pasted xs (32 * k) gs) ≡ true
unfolding good_files
drafts-stay-good xs gs k below good new = every-all (λ f. is_good (definition (pasted xs (32 * k) gs) f)) 10 each
  where
    fits : 32 * k ≤ length xs
    fits = omega (arith, long-enough xs good, below)

    long : length gs ≡ 32
    long = (good-definition gs new).long

    each : (j : ℕ) → j < 10 → is_good (definition (pasted xs (32 * k) gs) j) ≡ true
    each j under =
        ⊎_elim (λ is. ap (λ f. is_good (definition (pasted xs (32 * k) gs) f)) is ∙ ap is_good (written-here xs gs k fits long) ∙ new)
        (λ other. ap is_good (written-elsewhere xs gs k j fits long other) ∙ every-at (λ f. is_good (definition xs f)) 10 j good under) (eq-or-not j k)

-- ---- room for the drafts, in a state that is taken
pub drafts_good : (s : State) → valid s ≡ true → good_files s.settings.draft.groups ≡ true
drafts_good s sound = (valid-split s sound).drafts

-- the depth and the length of memory that the code goes by are the state's
pub draft-room : (s : State) (depth size : ℕ) (r : Bool) → depth ≡ depth_of s.site → size ≡ s.site.archive_length →
    r ≡ has_room (layout_of s.settings.draft depth) size → draft_fits s ≡ r
draft-room s depth size r deep same told = sym (told ∙ ap₂ (λ d n. has_room (layout_of s.settings.draft d) n) deep same)
