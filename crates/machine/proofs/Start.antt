-- Start and Fresh: the calls that empty files. Assumes nothing.
--     emptied-zeros  a machine whose lists are empty has archive memory of zeros
--     start-kept     what holds of both kinds of Start, and of none, holds after a Start
--     start-steps    a Start that met its contract is the machine's step
--     fresh-answers  Fresh answers the machine's card, done or refused
--     fresh-began    what an accepted Fresh leaves is the machine's beginning
use mathlib.Core.Path.{◌≡◌, refl, sym, ap, ◌∙◌, subst}
use mathlib.Core.List.{List, []}
use mathlib.Core.Bool.{Bool, true, false, cond, not, ◌&&◌}
use Prim.Native.Nat.{ℕ, ◌*◌}
use native.Mathlib.Omega.{arith}
use borrow.Author.Tests.{leb-true, eqb-true}
use lib.Dec.{eqb, ltb}
use lib.ListN.{length, replicate, length-replicate}
use Rattle.basics.specs.Card.{card, done_card, done_no, memory_no, foreign_no, room_no}
use Rattle.basics.specs.Numbers.{within}
use Rattle.modbus.specs.Frame.{good_unit}
use Rattle.basics.specs.Lists.{tabulate}
use Rattle.archive.specs.Layout.{Layout, alarm_size, layout_size, has_room}
use Rattle.archive.specs.Ring.{pointer_after}
use Rattle.archive.specs.Scan.{archive_of, AllHold}
use Rattle.archive.proofs.Scans.{empty-all-hold}
use Rattle.state.specs.declared.parts.State.{State}
use Rattle.state.specs.Firmware.{newer_firmware, good_firmware, alarm_depth, least_memory}
use Rattle.state.specs.State.{fresh_state, zero_state}
use Rattle.state.specs.Validity.{valid}
use Rattle.state.proofs.Clauses.{valid-split}
use Rattle.gateway.specs.declared.calls.Answer.{Answer}
use Rattle.gateway.specs.Calls.{told, done, start_answer, start_memory, most_memory, fresh_number, fresh_answer, MadeFresh}
use Rattle.gateway.proofs.Settings.{start-length, fresh-made}
use Rattle.gateway.proofs.Valid.{start-valid, fresh-valid}
use Rattle.machine.specs.Machine.{Machine, start, draft_fits, card_for, restarted, with_flags, does, step, outcome, fresh, least_archive, fresh_card}
use Rattle.machine.specs.View.{pointers_of, state_of, laid_out_memory}
use Rattle.machine.specs.Runs.{FreshAnswers}
use Rattle.machine.proofs.Memory.{memory-fixed}
use Rattle.machine.proofs.Steps.{Good, Held, Steps, answer_by, by-step, own, none-applies, answers}

-- memory of zeros holds empty lists
empty-held : (l : Layout) (size n : ℕ) → has_room l size ≡ true → n ≡ size →
    AllHold l (archive_of (pointers_of l (λ f. [])) (replicate n 0)) (λ f. [])
unfolding has_room pointers_of tabulate pointer_after
empty-held l size n room long = empty-all-hold l n (omega (arith, leb-true (layout_size l) size room, long))

-- a machine whose lists are empty, as Fresh and a pending Start leave it, has archive memory of zeros
pub emptied-zeros : (l : Layout) (size : ℕ) → has_room l size ≡ true → laid_out_memory size l (λ f. []) ≡ replicate size 0
emptied-zeros l size room =
    sym (memory-fixed l _ (λ f. []) (empty-held l size size room refl) ∙ ap (λ n. laid_out_memory n l (λ f. [])) (length-replicate size 0))

-- ---- Start
-- what holds of the machine as it was, emptied, and with other flags, holds after a Start
pub start-kept : (Q : Machine → Type 0) (M : Machine) → Q M → Q (restarted M) → Q (with_flags M true false M.flags.pending) → Q (step M start)
unfolding does
start-kept Q M old emptied resumed = by-step Q M start old (λ _. go M.flags.pending)
  where
    go : (p : Bool) → Q (cond p (restarted M) (with_flags M true false M.flags.pending))
    go true = emptied
    go false = resumed

module _ (M : Machine) (m : List ℕ) (good : Good M m) where
  abbrev resumed : Machine
  resumed = with_flags M true false M.flags.pending

  start_answer_lem : start_answer (state_of M) (length m) ≡ answer_by M start (card_for M start)
  unfolding start_answer card_for does state_of pointers_of tabulate pointer_after
  start_answer_lem = own M m good _ ∙ go M.flags.pending (draft_fits M)
    where
      go : (p f : Bool) →
          cond p (cond f (done (state_of (restarted M))) (told (state_of M) room_no 0)) (done (state_of resumed))
          ≡ (let k = cond (p && not f) (card room_no 0) done_card in
          told (state_of (cond (eqb k.number 0) (cond p (restarted M) resumed) M)) k.number k.carried)
      go true true = refl
      go true false = refl
      go false true = refl
      go false false = refl

  start-held : Held (start_memory (state_of M) m) (step M start)
  unfolding start_memory state_of step card_for does
  start-held = rw (none-applies M m good) (go M.flags.pending (draft_fits M) refl)
    where
      go : (p f : Bool) → draft_fits M ≡ f → Held (cond (p && f) (replicate (length m) 0) m)
          (cond (eqb (cond (p && not f) (card room_no 0) done_card).number 0) (cond p (restarted M) resumed) M)
      go true true room = empty-held _ M.site.archive_length (length m) room good.long
      go true false room = good.held
      go false true room = good.held
      go false false room = good.held

  pub start-steps : Steps M m start
  unfolding outcome
  start-steps o s m' given =
      answers M m good start refl _ start_answer_lem (start-valid (state_of M) (length m)) (start_memory (state_of M) m)
      (start-length (state_of M) m ∙ start-kept (λ N. length m ≡ N.site.archive_length) M good.long good.long good.long) start-held
      given.answer given.meets.answer given.meets.memory given.is given.left

-- ---- Fresh
-- archive memory starts where the alarm file alone fits
least-same : (firmware : ℕ) → least_memory firmware ≡ least_archive firmware
unfolding alarm_depth
least-same firmware = go (ltb firmware newer_firmware)
  where
    go : (older : Bool) → cond older 150 500 * alarm_size ≡ cond older 3300 11000
    go true = refl
    go false = refl

module _ (day_first : Bool) (unit firmware : ℕ) (m : List ℕ) where
  abbrev fresh_machine : Machine
  fresh_machine = fresh day_first unit firmware (length m)

  abbrev made : State
  made = fresh_state day_first unit firmware (length m)

  abbrev number : ℕ
  number = fresh_number unit firmware (length m)

  abbrev answer : Answer
  answer = fresh_answer day_first unit firmware (length m)

  -- its answer, done or refused
  fresh_card_lem : card answer.number answer.carried ≡ fresh_card unit firmware (length m)
  unfolding fresh_card fresh_answer fresh_number
  fresh_card_lem = rw (least-same firmware) (go (good_firmware firmware) (within (least_archive firmware) most_memory (length m)) (good_unit unit))
    where
      told-by : ℕ → Answer
      told-by number = cond (eqb number 0) (done made) (told zero_state number 0)

      go : (k a b : Bool) →
          (let r = told-by (cond (not k) foreign_no (cond (not a) memory_no (cond (not b) foreign_no done_no))) in card r.number r.carried)
          ≡ cond (not k) (card foreign_no 0) (cond (not a) (card memory_no 0) (cond (not b) (card foreign_no 0) done_card))
      go true true true = refl
      go true true false = refl
      go true false b = refl
      go false a b = refl

  accepted : answer.number ≡ 0 → number ≡ 0
  unfolding fresh_answer
  accepted = go (eqb number 0) refl
    where
      go : (b : Bool) → eqb number 0 ≡ b → (cond b (done made) (told zero_state number 0)).number ≡ 0 → number ≡ 0
      go true is q = eqb-true _ _ is
      go false is q = q

  fresh_state_lem : made ≡ state_of fresh_machine
  unfolding fresh fresh_state state_of pointers_of tabulate pointer_after
  fresh_state_lem = refl

  pub fresh-began : (r : Answer) (m' : List ℕ) → MadeFresh day_first unit firmware m r m' → r.number ≡ 0 → (r.state ≡ state_of fresh_machine) × Good fresh_machine m'
  unfolding fresh state_of
  fresh-began r m' by taken =
      let none = accepted (ap (λ a. a.number) (sym by.answer) ∙ taken) in
      let sound = subst (λ s. valid s ≡ true) fresh_state_lem (fresh-valid day_first unit firmware (length m) none) in
      let zeros = by.memory ∙ (fresh-made day_first unit firmware m none).1 in
      let is = by.answer ∙ (fresh-made day_first unit firmware m none).0 in (
        ap (λ a. a.state) is ∙ fresh_state_lem,
        subst (Good fresh_machine) (sym zeros) (record {
          long = length-replicate (length m) 0;
          sound = sound;
          held = empty-held _ (length m) (length m) (valid-split (state_of fresh_machine) sound).room refl;
        }),
      )

pub fresh-answers : FreshAnswers
fresh-answers day_first unit firmware m r m' made = ap (λ x. card x.number x.carried) made.answer ∙ fresh_card_lem day_first unit firmware m
