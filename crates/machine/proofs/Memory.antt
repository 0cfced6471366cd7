-- Archive memory in which every file holds its list, with zeros behind the layout, is the machine's, and so are its pointers.
-- Assumes nothing.
--     memory-fixed      memory is the machine's
--     pointers-fixed    and so are the pointers
use mathlib.Core.Path.{◌≡◌, refl, sym, ap, ap₂, ◌∙◌}
use mathlib.Core.List.{List, [], ◌∷◌, ◌++◌}
use mathlib.Core.Bool.{true}
use Prim.Native.Nat.{ℕ, zero, suc, ◌+◌, ◌-◌, ◌*◌, ◌≤◌, ◌<◌}
use native.Mathlib.Omega.{arith}
use borrow.Author.Tests.{eqb-true}
use lib.Dec.{eqb}
use lib.ListN.{length, take, drop, replicate, length-drop, take-append-drop}
use lib.Seq.{take-add, drop-drop, ext_get_or}
use Rattle.basics.specs.Lists.{all_zero, tabulate}
use Rattle.basics.proofs.Lists.{length-tabulate, get_or-tabulate}
use Rattle.basics.proofs.Tests.{and_left, and_right}
use Rattle.archive.specs.Layout.{Layout, all_files, limit_of, size_of, base_of, layout_size}
use Rattle.archive.specs.Ring.{Ring, HoldsAll}
use Rattle.archive.specs.Scan.{Archive, ring_of, AllHold}
use Rattle.machine.specs.Machine.{pointer_of}
use Rattle.machine.specs.View.{pointers_of, records_of, files_of, laid_out_memory}

-- ---- one file
module _ (from size n : ℕ) (now : Ring) (rs : List (List ℕ)) (held : HoldsAll from size n now rs) where
  records-held : (k : ℕ) → k ≤ n → take (k * size) (drop from now.memory) ≡ records_of n size rs k
  unfolding records_of
  records-held zero few = let nothing : 0 * size ≡ 0 = omega arith in ap (λ w. take w (drop from now.memory)) nothing
  records-held (suc k) few =
      let m = now.memory in
      let wide : suc k * size ≡ k * size + size = omega arith in
      let same : k ≡ suc k - 1 = omega arith in
      let read = held.reads (suc k) (omega arith) few in
      ap (λ w. take w (drop from m)) wide
      ∙ take-add (k * size) size (drop from m)
      ∙ ap₂ ◌++◌ (records-held k (omega (arith, few)))
      (ap (take size) (drop-drop (k * size) from m) ∙ ap (λ j. take size (drop (from + j * size) m)) same ∙ read)

-- ---- what lies behind all files
zeros-only : (xs : List ℕ) → all_zero xs ≡ true → xs ≡ replicate (length xs) 0
zeros-only [] z = refl
zeros-only (x ∷ xs) z =
    ap₂ ◌∷◌ (eqb-true x 0 (and_left (eqb x 0) (all_zero xs) z)) (zeros-only xs (and_right (eqb x 0) (all_zero xs) z))

-- ---- all of it
module _ (l : Layout) (a : Archive) (lists : ℕ → List (List ℕ)) (all : AllHold l a lists) where
  files-held : (f : ℕ) → f ≤ all_files → take (base_of l f) a.memory ≡ files_of l lists f
  unfolding files_of base_of
  files-held zero few = refl
  files-held (suc f) few =
      let file = records-held (base_of l f) (size_of l f) (limit_of l f) (ring_of a f) (lists f) (all.files f few) (limit_of l f) (omega arith) in
      take-add (base_of l f) (limit_of l f * size_of l f) a.memory ∙ ap₂ ◌++◌ (files-held f (omega (arith, few))) file

  pub memory-fixed : a.memory ≡ laid_out_memory (length a.memory) l lists
  unfolding laid_out_memory layout_size
  memory-fixed =
      let end = base_of l all_files in
      let rest = zeros-only (drop end a.memory) all.beyond ∙ ap (λ n. replicate n 0) (length-drop end a.memory) in
      sym (take-append-drop end a.memory) ∙ ap₂ ◌++◌ (files-held all_files (omega arith)) rest

  pub pointers-fixed : a.pointers ≡ pointers_of l lists
  unfolding pointers_of
  pointers-fixed =
      ext_get_or 0 a.pointers (tabulate all_files (pointer_of l lists)) (all.numbered ∙ sym (length-tabulate all_files (pointer_of l lists)))
      (λ f below.
      let file : f < all_files = omega (arith, below, all.numbered) in
      (all.files f file).points ∙ sym (get_or-tabulate all_files (pointer_of l lists) f 0 file))
