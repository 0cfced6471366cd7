-- Each clause is a computed check of this crate.
use Rattle.cases.proofs.Check.{marked-cases-hold}
use Rattle.cases.proofs.Ran.{run_holds, older-run-holds}
use Rattle.cases.proofs.cases_hold.Goals as goal

pub returns : goal.returns
returns c = record { marked_cases = marked-cases-hold; newer_firmware = run_holds; older_firmware = older-run-holds }
