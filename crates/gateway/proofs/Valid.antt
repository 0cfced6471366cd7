-- A call on a valid state leaves a valid state. Assumes nothing.
--     zeros_within                     numbers that are all 0 are within any limit
--     unlock-valid, lock-valid, ..     the calls
--     fresh-valid                      what Fresh leaves
use mathlib.Core.Path.{◌≡◌, refl, ap}
use mathlib.Core.List.{List}
use mathlib.Core.Bool.{Bool, true, false, not, ◌&&◌}
use Prim.Native.Nat.{ℕ, ◌+◌, ◌-◌, ◌*◌, ◌≤◌}
use native.Mathlib.Omega.{arith}
use borrow.Author.Rules.{rules}
use borrow.Author.Tests.{le-leb}
use lib.ListN.{get_or, set, replicate, get_or-replicate}
use Rattle.points.specs.Table.{boolean_or_none, float_or_none}
use Rattle.points.specs.Groups.{judged_card, judged, first_bad, record_size, groups_size, group_of, unused}
use Rattle.archive.specs.declared.alarms.Slot.{Slot}
use Rattle.archive.specs.Layout.{Layout, every, is_good, good_files, all_files, alarm_size, idle_files, layout_of, limit_of, size_of, base_of, layout_size, has_room}
use Rattle.archive.specs.Alarms.{off_slot, slot_count, good_slot, good_slot_at, good_slots}
use Rattle.archive.proofs.Layouts.{every-at, every-all, set_holds}
use Rattle.state.specs.declared.parts.State.{State}
use Rattle.state.specs.Firmware.{alarm_depth, least_memory}
use Rattle.state.specs.State.{fresh_state, with_flags, drafted}
use Rattle.state.specs.Validity.{good_triggers, within_limits, valid}
use Rattle.state.proofs.Clauses.{valid-split, valid-join, site-join, within_join}
use Rattle.gateway.specs.declared.calls.Answer.{Answer}
use Rattle.gateway.specs.Calls.{told, unlock_answer, lock_answer, stop_answer, trigger_answer, alarm_answer, define_answer, start_answer, most_memory, fresh_number}
use Rattle.basics.proofs.Tests.{within-inside}
use Rattle.gateway.proofs.Answers.{fresh-parts}
use Rattle.gateway.proofs.Drafts.{drafts-stay-good}
use Rattle.gateway.proofs.Settings.{by-unlock, by-lock, by-stop, by-trigger, by-alarm, by-define, by-start}

-- ---- flags
flags-valid : (s : State) (running unlocked pending : Bool) → not (running && unlocked) ≡ true → valid s ≡ true →
    valid (with_flags s running unlocked pending) ≡ true
flags-valid s running unlocked pending apart v =
    let k = valid-split s v in
    search (rules, valid-join)

not-both : (a : Bool) → not (a && false) ≡ true
not-both true = refl
not-both false = refl

-- ---- empty lists
-- a pointer or requested number of 0 is within any limit
pub zeros_within : (l : Layout) → within_limits (replicate all_files 0) l ≡ true
zeros_within l = within_join (replicate all_files 0) l (λ f below. omega (arith, get_or-replicate {A = ℕ} all_files f 0 0 below))

judged-is-good : (gs : List ℕ) → (judged_card gs).number ≡ 0 → is_good gs ≡ true
unfolding is_good
judged-is-good gs good = simp good

-- ---- idle files, no triggers, slots off
idle-good : good_files idle_files.groups ≡ true
unfolding good_files every is_good judged first_bad record_size groups_size group_of unused
idle-good = refl

no-triggers : good_triggers (replicate 10 0) ≡ true
unfolding good_triggers every boolean_or_none
no-triggers = refl

no-slots : good_slots (replicate slot_count off_slot) ≡ true
unfolding good_slots every good_slot boolean_or_none float_or_none
no-slots = refl

-- whatever the alarm file's depth
idle-fits : (depth size : ℕ) → depth * alarm_size ≤ size → has_room (layout_of idle_files depth) size ≡ true
unfolding has_room layout_size base_of limit_of size_of record_size groups_size group_of unused
idle-fits depth size long = le-leb (0 + depth * alarm_size) size (omega (arith, long))

-- ---- the calls
-- the answer's state is valid if the one given is
abbrev pub Stays : State → Answer → Type 0
Stays s r = valid s ≡ true → valid r.state ≡ true

module _ (s : State) (size : ℕ) where
  same : (n v : ℕ) → Stays s (told s n v)
  same n v = λ v. v

  pub unlock-valid : Stays s (unlock_answer s size)
  unlock-valid = by-unlock (Stays s) s size same (λ _ rests. flags-valid s s.flags.running true true (ap (λ b. not (b && true)) rests))

  pub lock-valid : Stays s (lock_answer s size)
  lock-valid = by-lock (Stays s) s size same (λ _. flags-valid s s.flags.running false s.flags.pending (not-both s.flags.running))

  pub stop-valid : Stays s (stop_answer s size)
  stop-valid = by-stop (Stays s) s size same (λ _. flags-valid s false s.flags.unlocked s.flags.pending refl)

  pub trigger-valid : (f p : ℕ) → Stays s (trigger_answer s size f p)
  unfolding good_triggers
  trigger-valid f p = by-trigger (Stays s) s size same f p (λ _ good v.
      let k = valid-split s v in
      let set-good = every-all (λ i. boolean_or_none (get_or (set s.settings.triggers (f - 1) p) i 0)) 10 (λ i below.
      set_holds boolean_or_none s.settings.triggers (f - 1) i p 0 good (every-at (λ j. boolean_or_none (get_or s.settings.triggers j 0)) 10 i k.triggers below)) in
      search (rules, valid-join))

  pub alarm-valid : (k point kind transducer : ℕ) → Stays s (alarm_answer s size k point kind transducer)
  unfolding good_slots
  alarm-valid n point kind transducer = by-alarm (Stays s) s size same n point kind transducer (λ _ good v.
      let entry : Slot = record { point = point; transducer = transducer; kind = kind } in
      let k = valid-split s v in
      let set-good = every-all (good_slot_at (set s.settings.slots (n - 1) entry)) 32 (λ i below.
      set_holds (λ slot. good_slot slot.point slot.kind slot.transducer) s.settings.slots (n - 1) i entry off_slot good
      (every-at (good_slot_at s.settings.slots) 32 i k.slots below)) in
      search (rules, valid-join))

  pub start-valid : Stays s (start_answer s size)
  start-valid = by-start (Stays s) s size same
      (λ _ _ fits v.
      let k = valid-split s v in
      search (rules, valid-join, zeros_within (drafted s)))
      (λ _ none v. flags-valid s true false s.flags.pending refl v)

  pub define-valid : (f : ℕ) (gs : List ℕ) (n : ℕ) → Stays s (define_answer s size f gs n)
  define-valid f gs n = by-define (Stays s) s size same f gs n (λ _ file good v.
      let k = valid-split s v in
      let new = drafts-stay-good s.settings.draft.groups gs (f - 1) (omega (arith, within-inside 1 10 f file)) k.drafts (judged-is-good gs good) in
      search (rules, valid-join))

-- ---- Fresh
pub fresh-valid : (day_first : Bool) (unit firmware size : ℕ) → fresh_number unit firmware size ≡ 0 →
    valid (fresh_state day_first unit firmware size) ≡ true
unfolding fresh_state
fresh-valid day_first unit firmware size taken =
    let k = fresh-parts unit firmware size taken in
    let fits = idle-fits (alarm_depth firmware) size (within-inside (least_memory firmware) most_memory size k.memory).0 in
    search (rules, valid-join, idle-good, no-triggers, no-slots, zeros_within, site-join)
