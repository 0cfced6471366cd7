use Rattle.std.proofs.Common.{rules, tests, ◌∙◌}
use Rattle.std.proofs.lemmas.Iterator.{YieldsList-from_slice, YieldsList-from_zip}
use Rattle.std.proofs.lemmas.Iterator.Search.{all_from_yields_List}
use Rattle.state.proofs.Every.{is_within, zipped_within}
use Rattle.state.proofs.validity.are_within.Goals as goal

pub returns : goal.returns
returns c =
    let a = c.args in
    λ l laid.
    all_from_yields_List is_within c.all.new.self _ c.all.result c.all.ensures.ran (YieldsList-from_zip (YieldsList-from_slice a.numbers.now cc) (YieldsList-from_slice a.files.now cc)) (λ x b q k. search (rules, tests))
    ∙ zipped_within a.numbers.now a.files.now l (search rules) laid
