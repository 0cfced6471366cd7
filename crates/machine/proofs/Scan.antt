-- A scan that met its contract is the machine's step. Assumes nothing.
--     scan_steps    the step: every file's list has what the scan appends, and the pointers are by its formula
use mathlib.Core.Path.{◌≡◌, refl, sym, ap, ◌∙◌, subst}
use mathlib.Core.List.{List}
use mathlib.Core.Bool.{Bool, true, false, cond, not, ◌&&◌}
use Prim.Native.Nat.{ℕ}
use borrow.Author.Tests.{eqb-true}
use lib.Dec.{eqb}
use lib.ListN.{length, take}
use Rattle.basics.specs.Card.{card, done_card, table_no, clock_no}
use Rattle.points.specs.Table.{table_bytes, boolean_bytes}
use Rattle.records.specs.declared.stamp.Stamp.{Stamp}
use Rattle.records.specs.Stamp.{in_range}
use Rattle.archive.specs.Booleans.{sight}
use Rattle.archive.specs.Scan.{Archive, archive_of, AllHold, list_scanned}
use Rattle.state.specs.State.{with_scan}
use Rattle.gateway.specs.Calls.{told, done}
use Rattle.gateway.specs.Scan.{scan_number, archive_left, scan_state, scan_answer, scan_memory}
use Rattle.gateway.proofs.Scans.{scan-valid, scan-keeps-length, left-holds}
use Rattle.machine.specs.Machine.{Machine, layout, Seen, nothing, remembered, scan, card_for, lists_after, scanned, does, step, outcome}
use Rattle.machine.specs.View.{seen_of, pointers_of, state_of}
use Rattle.machine.proofs.Memory.{pointers-fixed}
use Rattle.machine.proofs.Steps.{Good, Held, Steps, answer_by, by-step, none-applies, answers}

module _ (M : Machine) (m : List ℕ) (good : Good M m) (table : List ℕ) (stamp : Stamp) where
  abbrev number : ℕ
  number = scan_number (state_of M) (length m) (length table) stamp

  abbrev left : Archive
  left = archive_left (state_of M) m table stamp

  abbrev lists : ℕ → List (List ℕ)
  lists = lists_after M M.seen table stamp

  scan-card : card_for M (scan table stamp) ≡ card number 0
  unfolding card_for scan_number
  scan-card = rw (none-applies M m good) (go (eqb (length table) table_bytes) (in_range stamp))
    where
      go : (a b : Bool) →
          cond (not a) (card table_no 0) (cond (not b) (card clock_no 0) done_card) ≡ card (cond (not a) table_no (cond (not b) clock_no 0)) 0
      go true true = refl
      go true false = refl
      go false b = refl

  -- what the machine has seen, as the gateway's state has it
  lists-held : (seen : Seen) →
      (let sees = sight (seen_of seen).booleans table stamp M.site.day_first in
      AllHold (layout M) left (λ f. cond ((seen_of seen).scanned && M.flags.running)
      (list_scanned sees (layout M) M.settings.triggers M.settings.slots M.files.lists f) (M.files.lists f))) →
      AllHold (layout M) left (lists_after M seen table stamp)
  lists-held nothing held = held
  lists-held (remembered before) held = held

  left-held : AllHold (layout M) left lists
  unfolding state_of
  left-held = lists-held M.seen (left-holds (state_of M) m table stamp good.sound good.long M.files.lists good.held)

  left-pointers : left.pointers ≡ pointers_of (layout M) lists
  left-pointers = pointers-fixed (layout M) left lists left-held

  scan_answer_lem : scan_answer (state_of M) m table stamp ≡ answer_by M (scan table stamp) (card_for M (scan table stamp))
  unfolding scan_answer does state_of
  scan_answer_lem = go (eqb number 0) refl ∙ ap (answer_by M (scan table stamp)) (sym scan-card)
    where
      go : (b : Bool) → eqb number 0 ≡ b →
          cond b (done (scan_state (state_of M) left table)) (told (state_of M) number 0)
          ≡ told (state_of (cond b (does M (scan table stamp)) M)) number 0
      go true is =
          ap (λ ps. told (with_scan (state_of M) ps (take boolean_bytes table)) 0 0) left-pointers
          ∙ ap (λ k. told (state_of (scanned M table stamp)) k 0) (sym (eqb-true number 0 is))
      go false is = refl

  scan-held : Held (scan_memory (state_of M) m table stamp) (step M (scan table stamp))
  unfolding scan_memory step does
  scan-held = rw scan-card (go (eqb number 0))
    where
      go : (b : Bool) → Held (cond b left.memory m) (cond b (scanned M table stamp) M)
      go true = subst (λ ps. AllHold (layout M) (archive_of ps left.memory) lists) left-pointers left-held
      go false = good.held

  pub scan_steps : Steps M m (scan table stamp)
  unfolding does outcome
  scan_steps o s m' given =
      answers M m good (scan table stamp) refl _ scan_answer_lem (scan-valid (state_of M) m table stamp) (scan_memory (state_of M) m table stamp)
      (scan-keeps-length (state_of M) m table stamp
      ∙ by-step (λ N. length m ≡ N.site.archive_length) M (scan table stamp) good.long (λ _. good.long)) scan-held
      given.answer given.meets.1.answer given.meets.1.memory given.is given.left
