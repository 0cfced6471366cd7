-- One settings call: what met its contract is the machine's step. Assumes nothing.
--     Good       archive memory of the machine's length, in which every file holds its list; a state that is not Foreign
--     Stepped    a call's outcome and the state that it leaves are the machine's, and memory stays good
--     by-step    what holds of the machine as it was, and of the call done, holds of the step
--     unlock-steps, lock-steps, stop-steps, define-steps, trigger-steps, alarm-steps    the calls that empty nothing
use mathlib.Core.Path.{◌≡◌, refl, sym, ap, ◌∙◌, subst}
use mathlib.Core.List.{List}
use mathlib.Core.Bool.{Bool, true, false, cond, not, ◌||◌}
use Prim.Native.Nat.{ℕ}
use borrow.Author.Tests.{eqb-true}
use lib.Dec.{eqb}
use lib.ListN.{length}
use Rattle.basics.specs.Card.{Card, card, card_told, done_card, done_no, file_no, locked_no, trigger_no, running_no, alarm_no}
use Rattle.basics.specs.Numbers.{within}
use Rattle.std.specs.Prelude.{Result, Ok, Err}
use Rattle.basics.specs.declared.card.Refusal.{Refusal}
use Rattle.basics.proofs.Tests.{refused-number}
use Rattle.points.specs.Table.{boolean_or_none}
use Rattle.points.specs.Groups.{judged, judged_card}
use Rattle.archive.specs.Alarms.{slot_count, good_slot}
use Rattle.archive.specs.Layout.{defined_files}
use Rattle.archive.specs.Scan.{archive_of, AllHold}
use Rattle.state.specs.declared.parts.State.{State}
use Rattle.state.specs.Validity.{valid, state_number}
use Rattle.state.proofs.Clauses.{state-takes}
use Rattle.gateway.specs.declared.calls.Answer.{Answer}
use Rattle.gateway.specs.Calls.{told, settled, Reads, unlock_answer, lock_answer, stop_answer, trigger_answer, alarm_answer, definition_answer, define_answer}
use Rattle.gateway.proofs.Valid.{Stays, unlock-valid, lock-valid, stop-valid, trigger-valid, alarm-valid, define-valid}
use Rattle.machine.specs.Machine.{Machine, layout, Call, unlock, lock, stop, define, trigger, alarm, card_for, does, step, Outcome, answered, outcome}
use Rattle.machine.specs.View.{pointers_of, state_of}
use Rattle.machine.specs.Runs.{Answering, Meets}

-- ---- what is carried along a list
abbrev pub Held : List ℕ → Machine → Type 0
Held m M = AllHold (layout M) (archive_of (pointers_of (layout M) M.files.lists) m) M.files.lists

pub record Good (M : Machine) (m : List ℕ) : Type 0 where
  pub long : length m ≡ M.site.archive_length
  pub sound : valid (state_of M) ≡ true
  pub held : Held m M

pub record Stepped (M : Machine) (c : Call) (o : Outcome) (s : State) (m : List ℕ) : Type 0 where
  pub is : o ≡ outcome M c
  pub state : s ≡ state_of (step M c)
  pub good : Good (step M c) m

-- whatever meets the call's contract, over a machine's state and memory
abbrev pub Steps : Machine → List ℕ → Call → Type 0
Steps M m c = (o : Outcome) (s : State) (m' : List ℕ) → Meets (state_of M) m c o s m' → Stepped M c o s m'

-- the gateway's answer that goes with a card
abbrev pub answer_by : Machine → Call → Card → Answer
answer_by M c k = told (state_of (cond (eqb k.number done_no) (does M c) M)) k.number k.carried

-- an answer by a test is the machine's by the same test
by-test : (M : Machine) (c : Call) (b : Bool) (x y : Card) → answer_by M c (cond b x y) ≡ cond b (answer_by M c x) (answer_by M c y)
by-test M c true x y = refl
by-test M c false x y = refl

by_tests : (M : Machine) (c : Call) (a b : Bool) (x y z : Card) →
    answer_by M c (cond a x (cond b y z)) ≡ cond a (answer_by M c x) (cond b (answer_by M c y) (answer_by M c z))
by_tests M c a b x y z = by-test M c a x (cond b y z) ∙ ap (cond a (answer_by M c x)) (by-test M c b y z)

pub by-step : (Q : Machine → Type 0) (M : Machine) (c : Call) → Q M → ((card_for M c).number ≡ 0 → Q (does M c)) → Q (step M c)
unfolding step
by-step Q M c old new = go (eqb (card_for M c).number 0) refl
  where
    go : (b : Bool) → eqb (card_for M c).number 0 ≡ b → Q (cond b (does M c) M)
    go true is = new (eqb-true _ _ is)
    go false is = old

module _ (M : Machine) (m : List ℕ) (good : Good M m) where
  -- neither Memory (1) nor Foreign (2) applies
  pub none-applies : state_number (state_of M) (length m) ≡ 0
  unfolding state_of
  none-applies = state-takes (state_of M) (length m) good.long good.sound

  pub own : (x : Answer) → settled (state_of M) (length m) x ≡ x
  own x = simp none-applies

  -- ---- a call that answers with a card, whose contract says this answer `a` and this memory `n`
  module _ (c : Call) (shown : outcome M c ≡ answered (card_for M c)) (a : Answer) (own-answer : a ≡ answer_by M c (card_for M c))
      (stays : Stays (state_of M) a) where
    pub answers : (n : List ℕ) → length n ≡ (step M c).site.archive_length → Held n (step M c) →
        {o : Outcome} {s : State} {m' : List ℕ} (r : Answer) → r ≡ a → m' ≡ n → o ≡ answered (card r.number r.carried) → s ≡ r.state →
        Stepped M c o s m'
    unfolding step
    answers n long held r is-answer is-memory is left =
        let same = is-answer ∙ own-answer in
        record {
          is = is ∙ ap (λ x. answered (card x.number x.carried)) same ∙ sym shown;
          state = left ∙ ap (λ x. x.state) same;
          good = subst (Good (step M c)) (sym is-memory) (record {
            long = long;
            sound = subst (λ x. valid x.state ≡ true) own-answer (stays good.sound);
            held = held;
          });
        }

    -- it only reads memory, and changes neither site nor files
    reads : length m ≡ (does M c).site.archive_length → Held m (does M c) →
        (o : Outcome) (s : State) (m' : List ℕ) → Answering (Reads a m) o s m' → Stepped M c o s m'
    reads long held o s m' given =
        answers m (by-step (λ N. length m ≡ N.site.archive_length) M c good.long (λ _. long)) (by-step (Held m) M c good.held (λ _. held))
        given.answer given.meets.answer given.meets.memory given.is given.left

  -- ---- Unlock, Lock, Stop
  unlock_answer_lem : unlock_answer (state_of M) (length m) ≡ answer_by M unlock (card_for M unlock)
  unfolding unlock_answer card_for does state_of
  unlock_answer_lem = own _ ∙ sym (by-test M unlock M.flags.running (card running_no 0) done_card)

  pub unlock-steps : Steps M m unlock
  unfolding does outcome
  unlock-steps = reads unlock refl _ unlock_answer_lem (unlock-valid (state_of M) (length m)) good.long good.held

  lock_answer_lem : lock_answer (state_of M) (length m) ≡ answer_by M lock (card_for M lock)
  unfolding lock_answer card_for does state_of
  lock_answer_lem = own _

  pub lock-steps : Steps M m lock
  unfolding does outcome
  lock-steps = reads lock refl _ lock_answer_lem (lock-valid (state_of M) (length m)) good.long good.held

  stop_answer_lem : stop_answer (state_of M) (length m) ≡ answer_by M stop (card_for M stop)
  unfolding stop_answer card_for does state_of
  stop_answer_lem = own _

  pub stop-steps : Steps M m stop
  unfolding does outcome
  stop-steps = reads stop refl _ stop_answer_lem (stop-valid (state_of M) (length m)) good.long good.held

  -- ---- Trigger
  module _ (f p : ℕ) where
    trigger_answer_lem : trigger_answer (state_of M) (length m) f p ≡ answer_by M (trigger f p) (card_for M (trigger f p))
    unfolding trigger_answer card_for does state_of
    trigger_answer_lem =
        own _
        ∙ sym (by_tests M (trigger f p) (not (within 1 defined_files f)) (not (boolean_or_none p)) (card file_no 0) (card trigger_no 0) done_card)

    pub trigger-steps : Steps M m (trigger f p)
    unfolding does outcome
    trigger-steps = reads (trigger f p) refl _ trigger_answer_lem (trigger-valid (state_of M) (length m) f p) good.long good.held

  -- ---- Alarm
  module _ (k point type transducer : ℕ) where
    abbrev set_slot : Call
    set_slot = alarm k point type transducer

    alarm_answer_lem : alarm_answer (state_of M) (length m) k point type transducer ≡ answer_by M set_slot (card_for M set_slot)
    unfolding alarm_answer card_for does state_of
    alarm_answer_lem =
        let place = not (within 1 slot_count k) in
        let entry = not (good_slot point type transducer) in
        own _
        ∙ sym (by_tests M set_slot place entry (card alarm_no 0) (card alarm_no 0) done_card)
        ∙ ap (answer_by M set_slot) (either place entry)
      where
        either : (a b : Bool) → cond a (card alarm_no 0) (cond b (card alarm_no 0) done_card) ≡ cond (a || b) (card alarm_no 0) done_card
        either true b = refl
        either false b = refl

    pub alarm-steps : Steps M m set_slot
    unfolding does outcome
    alarm-steps = reads set_slot refl _ alarm_answer_lem (alarm-valid (state_of M) (length m) k point type transducer) good.long good.held

  -- ---- Define
  module _ (f : ℕ) (gs : List ℕ) (n : ℕ) where
    definition_answer_lem : definition_answer (state_of M) f gs n ≡ answer_by M (define f gs n) (judged_card gs)
    unfolding definition_answer does state_of
    definition_answer_lem = go (judged gs)
      where
        go : (j : Result ℕ Refusal) →
            cond (eqb (card_told j).number 0) (answer_by M (define f gs n) done_card) (told (state_of M) (card_told j).number (card_told j).carried)
            ≡ answer_by M (define f gs n) (card_told j)
        go (Ok size) = refl
        go (Err refusal) = simp (refused-number refusal)

    define_answer_lem : define_answer (state_of M) (length m) f gs n ≡ answer_by M (define f gs n) (card_for M (define f gs n))
    unfolding define_answer card_for state_of
    define_answer_lem =
        let file = not (within 1 defined_files f) in
        let locked = not M.flags.unlocked in
        own _
        ∙ ap (λ x. cond file (told (state_of M) file_no 0) (cond locked (told (state_of M) locked_no 0) x)) definition_answer_lem
        ∙ sym (by_tests M (define f gs n) file locked (card file_no 0) (card locked_no 0) (judged_card gs))

    pub define-steps : Steps M m (define f gs n)
    unfolding does outcome
    define-steps = reads (define f gs n) refl _ define_answer_lem (define-valid (state_of M) (length m) f gs n) good.long good.held
