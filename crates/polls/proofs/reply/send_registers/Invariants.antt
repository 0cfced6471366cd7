use Rattle.std.proofs.Common.{◌≡◌}
use Rattle.basics.specs.Lists.{pasted}
use Rattle.polls.specs.View.{view_of}
use Rattle.polls.specs.Frames.{register_bytes}
use Rattle.polls.proofs.reply.send_registers.Given as goal

abbrev pub invariant-loop-i : goal.invariant-loop-i
invariant-loop-i l = l.buffer ≡ pasted l.initial.buffer 3 (register_bytes (view_of l.view) l.first l.i)
