-- A poll that met its contract is the machine's step. Assumes nothing.
--     views-agree    what a poll sees of a good machine's state and memory is what it sees of the machine
--     poll-steps     the step
use mathlib.Core.Path.{◌≡◌, refl, sym, ap, ap₂, ◌∙◌, subst}
use mathlib.Core.List.{List}
use mathlib.Core.Bool.{Bool, true, false, cond, not}
use Prim.Native.Nat.{ℕ, ◌<◌}
use lib.Dec.{eqb, ltb}
use lib.ListN.{length, get_or}
use Rattle.basics.specs.Card.{Card, card, done_card, done_no, table_no, reply_no}
use Rattle.basics.specs.Lists.{pasted}
use Rattle.basics.proofs.Lists.{get_or-tabulate}
use Rattle.points.specs.Table.{table_bytes}
use Rattle.archive.specs.Layout.{all_files}
use Rattle.polls.specs.View.{View}
use Rattle.polls.specs.Frames.{reply_to, requested_after}
use Rattle.polls.specs.Lent.{least_buffer}
use Rattle.polls.proofs.Agree.{Agree, replies-same, requested-same}
use Rattle.state.specs.declared.parts.State.{State}
use Rattle.gateway.specs.declared.poll.PollAnswer.{PollAnswer}
use Rattle.gateway.specs.Poll.{poll_view, lent_number, poll_number, poll_told, poll_answer, poll_buffer}
use Rattle.gateway.proofs.Polls.{poll-valid}
use Rattle.state.specs.Validity.{valid}
use Rattle.machine.specs.Machine.{Machine, layout, pointer_of, view_of, poll, card_for, with_requested, does, step, replied, outcome}
use Rattle.machine.specs.View.{pointers_of, state_of}
use Rattle.machine.proofs.Steps.{Held, Good, Steps, by-step, none-applies}

module _ (M : Machine) (m : List ℕ) (good : Good M m) where
  -- ---- the two views
  pub points : (f : ℕ) → f < all_files → get_or (pointers_of (layout M) M.files.lists) f 0 ≡ pointer_of (layout M) M.files.lists f
  unfolding pointers_of
  points f below = get_or-tabulate all_files (pointer_of (layout M) M.files.lists) f 0 below

  pub views-agree : (table : List ℕ) → Agree (poll_view (state_of M) m table) (view_of M table)
  unfolding poll_view view_of state_of
  views-agree table = record {
    unit = refl;
    limit = λ f below. refl;
    pointer = points;
    requested = refl;
    reads = λ f below k first last. (good.held.files f below).reads k first last;
    table = refl;
  }

  module _ (table frame buffer : List ℕ) where
    abbrev v : View
    v = view_of M table

    abbrev asks : Machine
    asks = with_requested M (requested_after v frame)

    poll_number_lem : poll_number (state_of M) (length m) (length table) (length buffer) ≡ lent_number (length table) (length buffer)
    unfolding poll_number
    poll_number_lem = rw (none-applies M m good) refl

    -- an answer by whether the table is whole and the buffer too short
    abbrev reply : List ℕ
    reply = reply_to v frame

    abbrev number_by : Bool → Bool → ℕ
    number_by whole short = cond (not whole) table_no (cond short reply_no done_no)

    abbrev card_by : Bool → Bool → Card
    card_by whole short = cond (not whole) (card table_no 0) (cond short (card reply_no 0) done_card)

    abbrev told : State → State → Bool → Bool → PollAnswer
    told old new whole short =
        let number = number_by whole short in cond (eqb number 0) (poll_told new done_no (length reply)) (poll_told old number 0)

    same-reply : reply_to (poll_view (state_of M) m table) frame ≡ reply_to v frame
    same-reply = replies-same (poll_view (state_of M) m table) v (views-agree table) frame

    same-requested : requested_after (poll_view (state_of M) m table) frame ≡ requested_after v frame
    same-requested = requested-same (poll_view (state_of M) m table) v (views-agree table) frame

    -- ---- what the contract says, in the machine's words
    poll-state : (poll_answer (state_of M) m table frame (length buffer)).state ≡ state_of (step M (poll table frame buffer))
    unfolding poll_answer step card_for does state_of
    poll-state = rw (poll_number_lem, same-requested, same-reply) (go (eqb (length table) table_bytes) (ltb (length buffer) least_buffer))
      where
        go : (t b : Bool) → (told (state_of M) (state_of asks) t b).state ≡ state_of (cond (eqb (card_by t b).number done_no) asks M)
        go false b = refl
        go true true = refl
        go true false = refl

    poll-outcome :
        replied (poll_answer (state_of M) m table frame (length buffer)).number (poll_answer (state_of M) m table frame (length buffer)).length
        (poll_buffer (state_of M) m table frame buffer) ≡ outcome M (poll table frame buffer)
    unfolding poll_answer poll_buffer outcome card_for
    poll-outcome = rw (poll_number_lem, same-requested, same-reply) (go _ (eqb (length table) table_bytes) (ltb (length buffer) least_buffer))
      where
        go : (s : State) (t b : Bool) →
            (let r = told (state_of M) s t b in replied r.number r.length (cond (eqb (number_by t b) 0) (pasted buffer 0 reply) buffer))
            ≡ (let number = (card_by t b).number in
            cond (eqb number done_no) (replied done_no (length reply) (pasted buffer 0 reply)) (replied number 0 buffer))
        go s false b = refl
        go s true true = refl
        go s true false = refl

    -- ---- it leaves a good machine
    poll-good : Good (step M (poll table frame buffer)) m
    unfolding does
    poll-good =
        let c = poll table frame buffer in
        record {
          long = by-step (λ N. length m ≡ N.site.archive_length) M c good.long (λ _. good.long);
          sound = subst (λ s. valid s ≡ true) poll-state (poll-valid (state_of M) m table frame buffer good.sound);
          held = by-step (Held m) M c good.held (λ _. good.held);
        }

    pub poll-steps : Steps M m (poll table frame buffer)
    poll-steps o s m' given =
        record {
          is = given.is ∙ ap₂ (λ r b. replied r.number r.length b) given.meets.1.answer given.meets.1.reply ∙ poll-outcome;
          state = given.left ∙ ap (λ r. r.state) given.meets.1.answer ∙ poll-state;
          good = subst (Good (step M (poll table frame buffer))) (sym given.meets.1.memory) poll-good;
        }
