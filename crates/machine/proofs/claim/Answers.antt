-- Each clause of the claim is a theorem of this crate.
use Rattle.machine.proofs.Start.{fresh-answers}
use Rattle.machine.proofs.Whole.{each_list_follows}
use Rattle.machine.proofs.Words.{end_reads}
use Rattle.machine.proofs.Replies.{depth-kept, same_bytes, past_the_end, old-driver}
use Rattle.machine.proofs.ReadsBack.{each_poll_reads_back}
use Rattle.machine.proofs.Exists.{every-list-runs, every-list-ran}
use Rattle.machine.proofs.claim.Goals as goal

pub returns : goal.returns
returns c = record {
  each_list_follows = each_list_follows;
  fresh_answers = fresh-answers;
  ends_as_read = end_reads;
  depth_kept = depth-kept;
  same_bytes = same_bytes;
  past_the_end = past_the_end;
  old_driver = old-driver;
  each_poll_reads_back = each_poll_reads_back;
  each_list_runs = every-list-runs;
  each_fresh_begins = every-list-ran;
}
