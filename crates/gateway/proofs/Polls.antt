-- Laws of the poll. Assumes nothing.
--     poll-number-is    the code's number, in the words of the definition
--     poll-taken        none of a poll's numbers applies
--     poll-refuses      what a poll leaves that is refused
--     poll-sees         the answering function sees by the state's depth
--     poll_lends, poll_answers    what the answering function is lent, and that it answers what a poll sees, in a reply that fits
--     poll-valid        a poll leaves a valid state valid
use mathlib.Core.Path.{◌≡◌, refl, ap, ◌∙◌, subst}
use mathlib.Core.List.{List}
use mathlib.Core.Bool.{true, false}
use Prim.Native.Nat.{ℕ, ◌≤◌}
use native.Mathlib.Omega.{arith}
use borrow.Author.Rules.{rules}
use borrow.Author.Tests.{ne_eqb, leb-true}
use lib.Dec.{eqb}
use lib.ListN.{length}
use Rattle.std.proofs.lemmas.Grind.{common_steps}
use Rattle.basics.specs.Card.{first_of}
use Rattle.basics.proofs.Tests.{by_cond}
use Rattle.points.specs.Table.{table_bytes}
use Rattle.archive.specs.declared.layout.File.{File}
use Rattle.archive.specs.Layout.{layout_of, good_files, has_room, layout_size}
use Rattle.polls.proofs.Agree.{files_view, answers_laid, laid_lends}
use Rattle.polls.specs.View.{archive_view}
use Rattle.polls.specs.Frames.{Answers}
use Rattle.polls.specs.Lent.{least_buffer, LentPoll}
use Rattle.polls.proofs.Laws.{requested-within}
use Rattle.polls.proofs.Lengths.{reply-short}
use Rattle.state.specs.declared.parts.State.{State}
use Rattle.state.specs.Lent.{IsTaken}
use Rattle.state.specs.State.{depth_of, laid_out}
use Rattle.state.specs.Validity.{state_number, valid}
use Rattle.state.proofs.Clauses.{valid-split, valid-join, within_split, within_join}
use Rattle.gateway.specs.declared.poll.PollAnswer.{PollAnswer}
use Rattle.gateway.specs.Poll.{poll_view, lent_number, poll_number, poll_told, poll_answer, poll_buffer, Polled}

pub poll-number-is : (s : State) (size table_size buffer_size n : ℕ) → n ≡ state_number s size →
    first_of n (lent_number table_size buffer_size) ≡ poll_number s size table_size buffer_size
unfolding poll_number
poll-number-is s size table_size buffer_size n is = ap (λ k. first_of k (lent_number table_size buffer_size)) is

pub record Taken (s : State) (size table_size buffer_size : ℕ) : Type 0 where
  pub state : state_number s size ≡ 0
  pub whole : table_size ≡ table_bytes
  pub buffered : least_buffer ≤ buffer_size

pub poll-taken : (s : State) (size table_size buffer_size : ℕ) → poll_number s size table_size buffer_size ≡ 0 → Taken s size table_size buffer_size
unfolding poll_number
poll-taken s size table_size buffer_size taken = grind (arith, common_steps)

module _ (s : State) (m table frame buffer : List ℕ) where
  abbrev number : ℕ
  number = poll_number s (length m) (length table) (length buffer)

  -- refused by any number, all stays
  pub poll-refuses : (n : ℕ) → n ≡ poll_number s (length m) (length table) (length buffer) → (n ≡ 0 → ⊥) →
      Polled s m table frame buffer (poll_told s n 0) m table buffer
  unfolding poll_answer poll_buffer
  poll-refuses n is some =
      let refused : eqb number 0 ≡ false = ne_eqb number 0 (λ none. some (is ∙ none)) in
      record { answer = rw (is, refused) refl; memory = refl; kept = refl; reply = rw refused refl }

  pub poll-sees : (depth told : ℕ) (buffer' requested' : List ℕ) → depth ≡ depth_of s.site →
      Answers (archive_view s.site.unit (layout_of s.files.layout depth) s.files.pointers s.line.requested m table)
      frame buffer told buffer' requested' → Answers (poll_view s m table) frame buffer told buffer' requested'
  unfolding poll_view
  poll-sees depth told buffer' requested' deep =
      subst (λ d. Answers (archive_view s.site.unit (layout_of s.files.layout d) s.files.pointers s.line.requested m table)
      frame buffer told buffer' requested') deep

  -- where a state is taken, what the answering function is lent, and what it leaves
  module _ (files : List File) (taken : IsTaken s (length m) files) where
    good : good_files s.files.layout.groups ≡ true
    good = (valid-split s taken.sound).laid

    pub poll_lends : least_buffer ≤ length buffer → LentPoll files m buffer
    unfolding has_room
    poll_lends buffered =
        let room = leb-true (layout_size (laid_out s)) s.site.archive_length (valid-split s taken.sound).room in
        laid_lends (laid_out s) files m buffer good taken.laid (omega (arith, room, taken.same)) buffered

    pub poll_answers : (told : ℕ) (buffer' requested' : List ℕ) →
        Answers (files_view s.site.unit files s.files.pointers s.line.requested m table) frame buffer told buffer' requested' →
        Answers (poll_view s m table) frame buffer told buffer' requested' × (told ≤ least_buffer)
    unfolding poll_view
    poll_answers told buffer' requested' answers =
        let laid = answers_laid s.site.unit (laid_out s) files s.files.pointers s.line.requested m table taken.laid frame buffer told buffer' requested' answers in
        (laid, omega (arith, reply-short s.site.unit (laid_out s) s.files.pointers s.line.requested m table good frame, laid.sent.size))

  pub poll-valid : valid s ≡ true → valid (poll_answer s m table frame (length buffer)).state ≡ true
  unfolding poll_answer poll_view
  poll-valid sound =
      let k = valid-split s sound in
      by_cond (λ (r : PollAnswer). valid r.state ≡ true) (eqb number 0) _ _
      (λ _.
      let requested = within_join _ (laid_out s) (requested-within (poll_view s m table) frame (within_split s.line.requested (laid_out s) k.requested)) in
      search (rules, valid-join))
      (λ _. sound)
