use mathlib.Core.Path.{◌≡◌, sym, ◌∙◌}
use Prim.Native.Nat.{ℕ, ◌+◌}
use lib.ListN.{length}
use Rattle.std.proofs.lemmas.Result.{IfOk-weaker}
use Rattle.points.proofs.Laws.{judged-good}
use Rattle.reader.specs.Frame.{Passed}
use Rattle.reader.proofs.frame.check_frame.Goals as goal

pub check_reply-requires : goal.check_reply-requires
check_reply-requires c =
    let good = judged-good _ _ (sym c.judge.ensures ∙ c.in_ok-size.was) in
    (good.least, good.most)

pub returns-clause-passed : goal.returns-clause-passed
returns-clause-passed c =
    let good = judged-good _ _ (sym c.judge.ensures ∙ c.in_ok-size.was) in
    let size = c.in_ok-size.size in
    let more : (n : ℕ) → (n ≡ size) × (length c.args.frame.now ≡ size + 5) → Passed c.args.groups.now c.args.frame.now n
    = λ n both. record { list = good.list; sized = both.0 ∙ good.sized; least = rw both.0 good.least; most = rw both.0 good.most; long = rw both.0 both.1 } in
    IfOk-weaker _ _ _ more c.check_reply.ensures.sized
