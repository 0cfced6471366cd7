use native.Mathlib.Omega.{arith}
use Rattle.std.proofs.lemmas.Grind.{common_steps}
use Rattle.gateway.specs.Poll.{poll_number, poll_answer, poll_buffer}
use Rattle.gateway.proofs.Polls.{poll_answers}
use Rattle.gateway.proofs.poll.poll.Goals as goal

pub overflow_cast-result : goal.overflow_cast-result
overflow_cast-result c =
    omega (arith, poll_answers _ _ _ _ _ _ c.in_ok-files.ensures.taken _ _ _ (rw c.in_ok-table.ensures.0 at c.answer-length.ensures))

pub returns : goal.returns
unfolding poll_answer poll_buffer poll_number
returns c =
    let answers = poll_answers _ _ _ _ _ _ c.in_ok-files.ensures.taken _ _ _ (rw c.in_ok-table.ensures.0 at c.answer-length.ensures) in
    grind (arith, common_steps)
