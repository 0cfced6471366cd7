-- Where the captures in a list come from, and what no list changes. Assumes nothing.
--     site-kept       what Fresh fixes stays
--     AllMade, all_made    every capture of files 1 to 10 was made by an accepted scan of the list, by the file's laid-out groups
--     zeros-or-made   so that a record reads as zeros or as such a capture
use mathlib.Core.Path.{◌≡◌, refl, sym, ◌∙◌, subst}
use mathlib.Core.List.{List, [], ◌∷◌, ◌++◌, Memᴰ}
use mathlib.Core.Logic.{◌⊎◌, inl, inr, ⊎_elim}
use mathlib.Core.Bool.{Bool, true, false, cond, not}
use Prim.Native.Nat.{ℕ, zero, suc, ◌-◌, ◌<◌}
use native.Mathlib.Omega.{arith}
use borrow.Author.Tests.{eqb-true, lt-ltb}
use lib.Dec.{eqb}
use lib.ListN.{length, get_or, replicate}
use Rattle.basics.specs.Card.{card, done_card, table_no, clock_no}
use Rattle.points.specs.Table.{table_bytes}
use Rattle.records.specs.declared.stamp.Stamp.{Stamp}
use Rattle.records.specs.Stamp.{in_range}
use Rattle.records.specs.Record.{record_of}
use Rattle.archive.specs.Layout.{definition, defined_files, limit_of}
use Rattle.archive.specs.Captures.{does_capture, file_records}
use Rattle.archive.specs.Scan.{appended}
use Rattle.machine.specs.Machine.{Machine, layout, Seen, nothing, remembered, Call, unlock, lock, stop, start, define, trigger, alarm, scan, poll, card_for, lists_after, does, step, after, fresh}
use Rattle.machine.specs.Readings.{ReadsAs, capture, zeros}
use Rattle.machine.specs.ReadsBack.{Accepted, made_by}
use Rattle.machine.proofs.Steps.{by-step}
use Rattle.machine.proofs.Start.{start-kept}

-- ---- what Fresh fixes
site-step : (M : Machine) (c : Call) → (step M c).site ≡ M.site
unfolding does
site-step M unlock = by-step (λ N. N.site ≡ M.site) M unlock refl (λ _. refl)
site-step M lock = by-step (λ N. N.site ≡ M.site) M lock refl (λ _. refl)
site-step M stop = by-step (λ N. N.site ≡ M.site) M stop refl (λ _. refl)
site-step M start = start-kept (λ N. N.site ≡ M.site) M refl refl refl
site-step M (define f gs n) = by-step (λ N. N.site ≡ M.site) M (define f gs n) refl (λ _. refl)
site-step M (trigger f p) = by-step (λ N. N.site ≡ M.site) M (trigger f p) refl (λ _. refl)
site-step M (alarm k point type transducer) = by-step (λ N. N.site ≡ M.site) M (alarm k point type transducer) refl (λ _. refl)
site-step M (scan table stamp) = by-step (λ N. N.site ≡ M.site) M (scan table stamp) refl (λ _. refl)
site-step M (poll table frame buffer) = by-step (λ N. N.site ≡ M.site) M (poll table frame buffer) refl (λ _. refl)

pub site-kept : (M : Machine) (cs : List Call) → (after M cs).site ≡ M.site
site-kept M [] = refl
site-kept M (c ∷ cs) = site-kept (step M c) cs ∙ site-step M c

-- ---- a scan
-- one that is not refused
accepted-scan : (M : Machine) (table : List ℕ) (stamp : Stamp) → (card_for M (scan table stamp)).number ≡ 0 →
    (length table ≡ table_bytes) × (in_range stamp ≡ true)
unfolding card_for
accepted-scan M table stamp taken = go (eqb (length table) table_bytes) (in_range stamp) refl taken
  where
    go : (a b : Bool) → eqb (length table) table_bytes ≡ a →
        (cond (not a) (card table_no 0) (cond (not b) (card clock_no 0) done_card)).number ≡ 0 → (length table ≡ table_bytes) × (b ≡ true)
    go false b is q = absurd (omega (arith, q))
    go true false is q = absurd (omega (arith, q))
    go true true is q = (eqb-true _ _ is, refl)

-- a file's list after it: as it was, or with the scan's record
module _ (M : Machine) (table : List ℕ) (stamp : Stamp) (f : ℕ) (below : f < defined_files) where
  abbrev made : List ℕ
  made = record_of M.site.day_first stamp table (definition M.files.laid_out.groups f)

  scan-list : (seen : Seen) → (lists_after M seen table stamp f ≡ M.files.lists f) ⊎ (lists_after M seen table stamp f ≡ made ∷ M.files.lists f)
  unfolding appended file_records
  scan-list nothing = inl refl
  scan-list (remembered before) =
      rw (lt-ltb f defined_files below)
      (go M.flags.running (does_capture before table (limit_of (layout M) f) (get_or M.settings.triggers f 0)))
    where
      new : Bool → Bool → List (List ℕ)
      new running captures = cond running (cond captures (made ∷ []) [] ++ M.files.lists f) (M.files.lists f)

      go : (r c : Bool) → (new r c ≡ M.files.lists f) ⊎ (new r c ≡ made ∷ M.files.lists f)
      go true true = inr refl
      go true false = inl refl
      go false c = inl refl

-- ---- every capture of files 1 to 10
abbrev pub Made : List Call → Bool → List ℕ → List ℕ → Type 0
Made cs day_first gs bytes = (by : Accepted cs) × (bytes ≡ made_by by day_first gs)

abbrev pub EachMade : List Call → Bool → List ℕ → List (List ℕ) → Type 0
EachMade cs day_first gs rs = (i : ℕ) → i < length rs → Made cs day_first gs (get_or rs i [])

abbrev pub AllMade : List Call → Machine → Type 0
AllMade cs M = (f : ℕ) → f < defined_files → EachMade cs M.site.day_first (definition M.files.laid_out.groups f) (M.files.lists f)

module _ (all : List Call) where
  scan-made : (M : Machine) (table : List ℕ) (stamp : Stamp) → Memᴰ (scan table stamp) all → AllMade all M →
      (card_for M (scan table stamp)).number ≡ 0 → AllMade all (does M (scan table stamp))
  unfolding does
  scan-made M table stamp called old taken f below =
      ⊎_elim (λ is. subst Each (sym is) (old f below)) (λ is. subst Each (sym is) more) (scan-list M table stamp f below M.seen)
    where
      Each : List (List ℕ) → Type 0
      Each = EachMade all M.site.day_first (definition M.files.laid_out.groups f)

      more : Each (made M table stamp f below ∷ M.files.lists f)
      more zero less =
          let good = accepted-scan M table stamp taken in
          (record { table = table; stamp = stamp; called = called; whole = good.0; clock = good.1 }, refl)
      more (suc i) less = old f below i (omega arith)

  step-made : (M : Machine) (c : Call) → Memᴰ c all → AllMade all M → AllMade all (step M c)
  unfolding does
  step-made M unlock called old = by-step (AllMade all) M unlock old (λ _. old)
  step-made M lock called old = by-step (AllMade all) M lock old (λ _. old)
  step-made M stop called old = by-step (AllMade all) M stop old (λ _. old)
  step-made M start called old = start-kept (AllMade all) M old (λ f below i less. absurd (omega arith)) old
  step-made M (define f gs n) called old = by-step (AllMade all) M (define f gs n) old (λ _. old)
  step-made M (trigger f p) called old = by-step (AllMade all) M (trigger f p) old (λ _. old)
  step-made M (alarm k point type transducer) called old = by-step (AllMade all) M (alarm k point type transducer) old (λ _. old)
  step-made M (scan table stamp) called old = by-step (AllMade all) M (scan table stamp) old (scan-made M table stamp called old)
  step-made M (poll table frame buffer) called old = by-step (AllMade all) M (poll table frame buffer) old (λ _. old)

  made-along : (M : Machine) (cs : List Call) → ((c : Call) → Memᴰ c cs → Memᴰ c all) → AllMade all M → AllMade all (after M cs)
  made-along M [] among old = old
  made-along M (c ∷ cs) among old =
      made-along (step M c) cs (λ x is. among x (Memᴰ.tail is)) (step-made M c (among c (Memᴰ.head refl)) old)

pub all_made : (day_first : Bool) (unit firmware size : ℕ) (cs : List Call) → AllMade cs (after (fresh day_first unit firmware size) cs)
unfolding fresh
all_made day_first unit firmware size cs = made-along cs (fresh day_first unit firmware size) cs (λ c is. is) (λ f below i less. absurd (omega arith))

-- ---- a record of such a file
pub zeros-or-made : (cs : List Call) (day_first : Bool) (gs : List ℕ) (n size : ℕ) (rs : List (List ℕ)) (k : ℕ) (bytes : List ℕ) →
    EachMade cs day_first gs rs → ReadsAs n size rs k bytes → (bytes ≡ replicate size 0) ⊎ Made cs day_first gs bytes
zeros-or-made cs day_first gs n size rs k bytes made (zeros none is) = inl is
zeros-or-made cs day_first gs n size rs k bytes made (capture j at is) =
    inr (subst (Made cs day_first gs) (sym is) (made (length rs - j) (omega (arith, at.first, at.last))))
