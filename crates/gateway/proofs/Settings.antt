-- What the settings calls leave, for the claim about whole lists of calls. Assumes nothing.
--     by-unlock, by-lock, ..    what holds of a refusal with the state as it was, and of the call done, holds of the call's answer
--     Leaves, unlock-leaves, ..    a refused call leaves the state as it was; memory is left by `Reads`, and by start-refused, fresh-refused
--     Keeps, unlock-keeps, ..      no settings call but a pending Start changes a layout, a pointer or a requested number
--     start-empties, start-keeps    a pending Start that is done leaves memory of zeros and every list empty; any other leaves memory
--     start-refused, start-length   a refused Start leaves memory, and any Start its length
--     fresh-made, fresh-refused, fresh-length    Fresh done, refused, and the length of memory after it
use mathlib.Core.Path.{◌≡◌, refl}
use mathlib.Core.List.{List}
use mathlib.Core.Bool.{Bool, true, false, cond, not, ◌&&◌}
use Prim.Native.Nat.{ℕ, ◌-◌}
use lib.Dec.{eqb}
use lib.ListN.{length, replicate, length-replicate, set}
use native.Mathlib.Omega.{arith}
use Rattle.std.proofs.lemmas.Grind.{common_steps}
use borrow.Author.Tests.{eqb-true, not-false}
use Rattle.points.specs.Table.{boolean_or_none}
use Rattle.points.specs.Groups.{judged_card}
use Rattle.basics.specs.Numbers.{within}
use Rattle.basics.proofs.Tests.{by_cond}
use Rattle.archive.specs.Layout.{redefined}
use Rattle.archive.specs.Alarms.{good_slot}
use Rattle.state.specs.declared.parts.State.{State}
use Rattle.state.specs.State.{fresh_state, zero_state, with_flags, with_draft, with_triggers, with_slots, restarted}
use Rattle.state.specs.Validity.{state_number}
use Rattle.gateway.specs.declared.calls.Answer.{Answer}
use Rattle.gateway.specs.Calls.{told, done, settled, unlock_answer, lock_answer, stop_answer, trigger_answer, alarm_answer, definition_answer, define_answer, draft_fits, start_answer, start_memory, fresh_number, fresh_answer, fresh_memory}

-- ---- refused with the state as it was, or done
module _ (Q : Answer → Type 0) (s : State) (size : ℕ) (refused : (n v : ℕ) → Q (told s n v)) where
  by-settled : (own : Answer) → (state_number s size ≡ 0 → Q own) → Q (settled s size own)
  by-settled own p = by_cond Q (eqb (state_number s size) 0) own _ (λ t. p (eqb-true _ _ t)) (λ _. refused _ 0)

  pub by-unlock : (state_number s size ≡ 0 → s.flags.running ≡ false → Q (done (with_flags s s.flags.running true true))) → Q (unlock_answer s size)
  unfolding unlock_answer
  by-unlock p = by-settled _ (λ taken. by_cond Q s.flags.running _ _ (λ _. refused 10 0) (λ rests. p taken rests))

  pub by-lock : (state_number s size ≡ 0 → Q (done (with_flags s s.flags.running false s.flags.pending))) → Q (lock_answer s size)
  unfolding lock_answer
  by-lock p = by-settled _ p

  pub by-stop : (state_number s size ≡ 0 → Q (done (with_flags s false s.flags.unlocked s.flags.pending))) → Q (stop_answer s size)
  unfolding stop_answer
  by-stop p = by-settled _ p

  pub by-trigger : (f p : ℕ) → (state_number s size ≡ 0 → boolean_or_none p ≡ true → Q (done (with_triggers s (set s.settings.triggers (f - 1) p)))) →
      Q (trigger_answer s size f p)
  unfolding trigger_answer
  by-trigger f p q =
      by-settled _ (λ taken. by_cond Q (not (within 1 10 f)) _ _ (λ _. refused 5 0)
      (λ _. by_cond Q (not (boolean_or_none p)) _ _ (λ _. refused 9 0) (λ good. q taken (not-false (boolean_or_none p) good))))

  pub by-alarm : (k point kind transducer : ℕ) →
      (state_number s size ≡ 0 → good_slot point kind transducer ≡ true →
      Q (done (with_slots s (set s.settings.slots (k - 1) (record { point = point; transducer = transducer; kind = kind }))))) →
      Q (alarm_answer s size k point kind transducer)
  unfolding alarm_answer
  by-alarm k point kind transducer q =
      by-settled _ (λ taken. by_cond Q (not (within 1 32 k)) _ _ (λ _. refused 12 0)
      (λ _. by_cond Q (not (good_slot point kind transducer)) _ _ (λ _. refused 12 0) (λ good. q taken (not-false (good_slot point kind transducer) good))))

  pub by-define : (f : ℕ) (gs : List ℕ) (n : ℕ) →
      (state_number s size ≡ 0 → within 1 10 f ≡ true → (judged_card gs).number ≡ 0 → Q (done (with_draft s (redefined s.settings.draft (f - 1) gs n)))) →
      Q (define_answer s size f gs n)
  unfolding define_answer definition_answer
  by-define f gs n q =
      by-settled _ (λ taken. by_cond Q (not (within 1 10 f)) _ _ (λ _. refused 5 0)
      (λ file. by_cond Q (not s.flags.unlocked) _ _ (λ _. refused 6 0)
      (λ _. by_cond Q (eqb (judged_card gs).number 0) _ _ (λ good. q taken (not-false (within 1 10 f) file) (eqb-true _ _ good)) (λ _. refused _ _))))

  pub by-start : (state_number s size ≡ 0 → s.flags.pending ≡ true → draft_fits s ≡ true → Q (done (restarted s))) →
      (state_number s size ≡ 0 → s.flags.pending ≡ false → Q (done (with_flags s true false s.flags.pending))) → Q (start_answer s size)
  unfolding start_answer
  by-start p q =
      by-settled _ (λ taken. by_cond Q s.flags.pending _ _
      (λ pending. by_cond Q (draft_fits s) _ _ (λ fits. p taken pending fits) (λ _. refused 11 0)) (λ none. q taken none))

-- ---- a refused call leaves everything
abbrev pub Leaves : State → Answer → Type 0
Leaves s r = (r.number ≡ 0 → ⊥) → r.state ≡ s

module _ (s : State) (size : ℕ) where
  refusal : (n v : ℕ) → Leaves s (told s n v)
  refusal n v = λ _. refl

  never : (t : State) → Leaves s (done t)
  never t = λ some. absurd (some refl)

  pub unlock-leaves : Leaves s (unlock_answer s size)
  unlock-leaves = by-unlock (Leaves s) s size refusal (λ _ _. never _)

  pub lock-leaves : Leaves s (lock_answer s size)
  lock-leaves = by-lock (Leaves s) s size refusal (λ _. never _)

  pub stop-leaves : Leaves s (stop_answer s size)
  stop-leaves = by-stop (Leaves s) s size refusal (λ _. never _)

  pub trigger-leaves : (f p : ℕ) → Leaves s (trigger_answer s size f p)
  trigger-leaves f p = by-trigger (Leaves s) s size refusal f p (λ _ _. never _)

  pub alarm-leaves : (k point kind transducer : ℕ) → Leaves s (alarm_answer s size k point kind transducer)
  alarm-leaves k point kind transducer = by-alarm (Leaves s) s size refusal k point kind transducer (λ _ _. never _)

  pub define-leaves : (f : ℕ) (gs : List ℕ) (n : ℕ) → Leaves s (define_answer s size f gs n)
  define-leaves f gs n = by-define (Leaves s) s size refusal f gs n (λ _ _ _. never _)

  pub start-leaves : Leaves s (start_answer s size)
  start-leaves = by-start (Leaves s) s size refusal (λ _ _ _. never _) (λ _ _. never _)

-- ---- the calls that empty nothing
pub record Keeps (s : State) (r : Answer) : Type 0 where
  pub files : r.state.files ≡ s.files
  pub line : r.state.line ≡ s.line

module _ (s : State) (size : ℕ) where
  kept : (n v : ℕ) → Keeps s (told s n v)
  kept n v = record { files = refl; line = refl }

  pub unlock-keeps : Keeps s (unlock_answer s size)
  unlock-keeps = by-unlock (Keeps s) s size kept (λ _ _. record { files = refl; line = refl })

  pub lock-keeps : Keeps s (lock_answer s size)
  lock-keeps = by-lock (Keeps s) s size kept (λ _. record { files = refl; line = refl })

  pub stop-keeps : Keeps s (stop_answer s size)
  stop-keeps = by-stop (Keeps s) s size kept (λ _. record { files = refl; line = refl })

  pub trigger-keeps : (f p : ℕ) → Keeps s (trigger_answer s size f p)
  trigger-keeps f p = by-trigger (Keeps s) s size kept f p (λ _ _. record { files = refl; line = refl })

  pub alarm-keeps : (k point kind transducer : ℕ) → Keeps s (alarm_answer s size k point kind transducer)
  alarm-keeps k point kind transducer =
      by-alarm (Keeps s) s size kept k point kind transducer (λ _ _. record { files = refl; line = refl })

  pub define-keeps : (f : ℕ) (gs : List ℕ) (n : ℕ) → Keeps s (define_answer s size f gs n)
  define-keeps f gs n = by-define (Keeps s) s size kept f gs n (λ _ _ _. record { files = refl; line = refl })

-- ---- what a pending Start empties
-- it is done exactly where it empties memory
pub start-empties : (s : State) (m : List ℕ) → state_number s (length m) ≡ 0 → s.flags.pending ≡ true → draft_fits s ≡ true →
    (start_answer s (length m) ≡ told (restarted s) 0 0) × (start_memory s m ≡ replicate (length m) 0)
unfolding start_answer start_memory
start-empties s m taken pending fits = (simp (taken, pending, fits), simp (taken, pending, fits))

pub start-keeps : (s : State) (m : List ℕ) → s.flags.pending ≡ false → start_memory s m ≡ m
unfolding start_memory
start-keeps s m settled_now = grind (arith, common_steps)

-- a refused Start leaves memory: Memory (1), Foreign (2), Room (11)
pub start-refused : (s : State) (m : List ℕ) → ((start_answer s (length m)).number ≡ 0 → ⊥) → start_memory s m ≡ m
unfolding start_answer start_memory
start-refused s m refused = grind (arith, common_steps)

-- zeros or what was there
same_length : (b : Bool) (m : List ℕ) → length (cond b (replicate (length m) 0) m) ≡ length m
same_length true m = length-replicate (length m) 0
same_length false m = refl

pub start-length : (s : State) (m : List ℕ) → length (start_memory s m) ≡ length m
unfolding start_memory
start-length s m = same_length (eqb (state_number s (length m)) 0 && (s.flags.pending && draft_fits s)) m

-- ---- Fresh
module _ (day_first : Bool) (unit firmware : ℕ) (m : List ℕ) where
  abbrev number : ℕ
  number = fresh_number unit firmware (length m)

  abbrev made : State
  made = fresh_state day_first unit firmware (length m)

  pub fresh-made : fresh_number unit firmware (length m) ≡ 0 →
      (fresh_answer day_first unit firmware (length m) ≡ done made) × (fresh_memory unit firmware m ≡ replicate (length m) 0)
  unfolding fresh_answer fresh_memory
  fresh-made taken = (simp taken, simp taken)

  -- refused, it hands back a state of zeros and leaves memory
  pub fresh-refused : ((fresh_answer day_first unit firmware (length m)).number ≡ 0 → ⊥) →
      ((fresh_answer day_first unit firmware (length m)).state ≡ zero_state) × (fresh_memory unit firmware m ≡ m)
  unfolding fresh_answer fresh_memory
  fresh-refused refused = grind (arith, common_steps)

pub fresh-length : (unit firmware : ℕ) (m : List ℕ) → length (fresh_memory unit firmware m) ≡ length m
unfolding fresh_memory
fresh-length unit firmware m = same_length (eqb (fresh_number unit firmware (length m)) 0) m
