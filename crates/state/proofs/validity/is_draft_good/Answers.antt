use native.Mathlib.Omega.{arith}
use Rattle.state.proofs.Every.{all_same}
use Rattle.state.proofs.validity.is_draft_good.Goals as goal

pub returns-then-are_same : goal.returns-then-are_same
returns-then-are_same c = grind (arith, all_same c.args.draft.now c.args.laid.now 32)
