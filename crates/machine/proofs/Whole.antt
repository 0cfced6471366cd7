-- The claim about whole lists of calls, in one. Assumes nothing.
--     each_list_follows    the claim
--     ended                the same, with what is carried along the list, for what is said of its end
use mathlib.Core.Path.{◌≡◌, refl, ap, ap₂, ◌∙◌, subst}
use mathlib.Core.List.{List, ◌∷◌}
use mathlib.Core.Bool.{Bool}
use Prim.Native.Nat.{ℕ}
use lib.ListN.{length}
use Rattle.state.specs.declared.parts.State.{State}
use Rattle.machine.specs.Machine.{Machine, layout, Call, unlock, lock, stop, start, define, trigger, alarm, scan, poll, step, Outcome, after, fresh}
use Rattle.machine.specs.View.{laid_out_memory, state_of, memory_of}
use Rattle.machine.specs.Runs.{Meets, Runs, none, next, Ran, Follows, EachListFollows}
use Rattle.machine.proofs.Memory.{memory-fixed}
use Rattle.machine.proofs.Steps.{Good, Steps, unlock-steps, lock-steps, stop-steps, define-steps, trigger-steps, alarm-steps}
use Rattle.machine.proofs.Start.{start-steps, fresh-began}
use Rattle.machine.proofs.Scan.{scan_steps}
use Rattle.machine.proofs.Polls.{poll-steps}

steps : (M : Machine) (m : List ℕ) → Good M m → (c : Call) → Steps M m c
steps M m good unlock = unlock-steps M m good
steps M m good lock = lock-steps M m good
steps M m good stop = stop-steps M m good
steps M m good (define f gs n) = define-steps M m good f gs n
steps M m good start = start-steps M m good
steps M m good (trigger f p) = trigger-steps M m good f p
steps M m good (alarm k point type transducer) = alarm-steps M m good k point type transducer
steps M m good (scan table stamp) = scan_steps M m good table stamp
steps M m good (poll table frame buffer) = poll-steps M m good table frame buffer

memory-is : (M : Machine) (m : List ℕ) → Good M m → m ≡ memory_of M
memory-is M m good =
    memory-fixed (layout M) _ M.files.lists good.held ∙ ap (λ n. laid_out_memory n (layout M) M.files.lists) good.long

whole : (M : Machine) {s s'' : State} {m m'' : List ℕ} {cs : List Call} {os : List Outcome} →
    s ≡ state_of M → Good M m → Runs s m cs os s'' m'' → Follows M cs os s'' m'' × Good (after M cs) m''
whole M {s} {s''} {m} is good none = (record { answers = refl; state = is; memory = memory-is M m good }, good)
whole M {s} {s''} {m} is good (next {s' = s'} {m' = m'} {c = c} {o = o} meets runs) =
    let one = steps M m good c o s' m' (subst (λ t. Meets t m c o s' m') is meets) in
    let rest = whole (step M c) one.state one.good runs in (
      record { answers = ap₂ ◌∷◌ one.is rest.0.answers; state = rest.0.state; memory = rest.0.memory },
      rest.1,
    )

pub ended : {day_first : Bool} {unit firmware : ℕ} {m₀ : List ℕ} {cs : List Call} {os : List Outcome} {s : State} {m : List ℕ} →
    Ran day_first unit firmware m₀ cs os s m →
    Follows (fresh day_first unit firmware (length m₀)) cs os s m × Good (after (fresh day_first unit firmware (length m₀)) cs) m
ended {day_first} {unit} {firmware} {m₀} ran =
    let first = fresh-began day_first unit firmware m₀ ran.began ran.zeroed ran.made ran.taken in
    whole (fresh day_first unit firmware (length m₀)) first.0 first.1 ran.runs

pub each_list_follows : EachListFollows
each_list_follows day_first unit firmware m₀ cs os s m ran = (ended ran).0
