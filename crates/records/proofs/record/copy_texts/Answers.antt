use native.Mathlib.Omega.{arith}
use mathlib.Core.Path.{◌≡◌, sym, ap, ◌∙◌}
use lib.ListN.{length, get_or}
use Rattle.std.proofs.lemmas.Grind.{common_steps}
use Rattle.basics.specs.Lists.{tabulate}
use Rattle.basics.proofs.Lists.{filled_next, filled-all, map-tabulate, copied}
use Rattle.records.specs.Capture.{text_byte, cleaned}
use Rattle.records.proofs.record.copy_texts.Invariants.{clean_at}
use Rattle.records.proofs.record.copy_texts.Goals as goal

pub loop-i-preserved : goal.loop-i-preserved
loop-i-preserved c = grind (arith, common_steps, filled_next (clean_at c.args.texts.now))

pub returns : goal.returns
returns c =
    let texts = c.args.texts.now in
    let whole : tabulate (length texts) (clean_at texts) ≡ cleaned texts
    = sym (map-tabulate text_byte (λ i. get_or texts i 0) (length texts)) ∙ ap cleaned (copied texts) in
    grind (arith, filled-all (clean_at texts))
