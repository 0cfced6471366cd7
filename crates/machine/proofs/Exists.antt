-- Every list of calls runs, from every state and memory: no claim about runs is empty. Assumes nothing.
--     every-list-runs    from any state and memory
--     every-list-ran     from an accepted Fresh
--     read-frame         and every 03 can be sent
use mathlib.Core.Path.{refl, ap, ◌∙◌}
use mathlib.Core.List.{List, [], ◌∷◌, ◌++◌}
use Prim.Native.Nat.{ℕ}
use native.Mathlib.Nat.{div-add-mod'}
use native.Mathlib.Omega.{arith}
use lib.ListN.{length}
use Rattle.modbus.specs.Word.{word_bytes}
use Rattle.modbus.specs.Crc.{with_crc}
use Rattle.modbus.proofs.Laws.{framed-checks}
use Rattle.polls.specs.Frames.{is_heard}
use Rattle.state.specs.declared.parts.State.{State}
use Rattle.gateway.specs.declared.calls.Answer.{Answer}
use Rattle.gateway.specs.Calls.{unlock_answer, lock_answer, stop_answer, trigger_answer, alarm_answer, define_answer, start_answer, start_memory, fresh_answer, fresh_memory, MadeFresh}
use Rattle.gateway.specs.Scan.{scan_answer, scan_memory}
use Rattle.gateway.specs.Poll.{poll_answer, poll_buffer}
use Rattle.machine.specs.Machine.{Call, unlock, lock, stop, start, define, trigger, alarm, scan, poll, Outcome}
use Rattle.machine.specs.Runs.{Answering, Meets, none, next, EachListRuns, EachFreshBegins}
use Rattle.machine.specs.Readings.{Read}
use Rattle.machine.proofs.Start.{fresh-answers}

-- ---- one call
-- an outcome, a state and memory of which this holds
pub record Given (Met : Outcome → State → List ℕ → Type 0) : Type 0 where
  pub told : Outcome
  pub state : State
  pub memory : List ℕ
  pub met : Met told state memory

answering : {Contract : Answer → List ℕ → Type 0} (r : Answer) (m : List ℕ) → Contract r m → Given (Answering Contract)
answering r m meets = record { told = _; state = _; memory = m; met = record { answer = r; meets = meets; is = refl; left = refl } }

gives : (s : State) (m : List ℕ) (c : Call) → Given (Meets s m c)
gives s m unlock = answering (unlock_answer s (length m)) m (record { answer = refl; memory = refl })
gives s m lock = answering (lock_answer s (length m)) m (record { answer = refl; memory = refl })
gives s m stop = answering (stop_answer s (length m)) m (record { answer = refl; memory = refl })
gives s m (define f gs n) = answering (define_answer s (length m) f gs n) m (record { answer = refl; memory = refl })
gives s m start = answering (start_answer s (length m)) (start_memory s m) (record { answer = refl; memory = refl })
gives s m (trigger f p) = answering (trigger_answer s (length m) f p) m (record { answer = refl; memory = refl })
gives s m (alarm k point type transducer) =
    answering (alarm_answer s (length m) k point type transducer) m (record { answer = refl; memory = refl })
gives s m (scan table stamp) = answering (scan_answer s m table stamp) (scan_memory s m table stamp) (table, record { answer = refl; memory = refl; kept = refl })
gives s m (poll table frame buffer) =
    record {
      told = _;
      state = _;
      memory = m;
      met = record {
        answer = poll_answer s m table frame (length buffer);
        buffer = poll_buffer s m table frame buffer;
        meets = (table, record { answer = refl; memory = refl; kept = refl; reply = refl });
        is = refl;
        left = refl;
      };
    }

-- ---- a list
pub every-list-runs : EachListRuns
every-list-runs s m [] = ([], s, m, none)
every-list-runs s m (c ∷ cs) =
    let one = gives s m c in
    let rest = every-list-runs one.state one.memory cs in
    (one.told ∷ rest.0, rest.1, rest.2, next {c = c} one.met rest.3)

pub every-list-ran : EachFreshBegins
every-list-ran day_first unit firmware m₀ cs accepted =
    let r = fresh_answer day_first unit firmware (length m₀) in
    let left = fresh_memory unit firmware m₀ in
    let made : MadeFresh day_first unit firmware m₀ r left = record { answer = refl; memory = refl } in
    let taken = ap (λ k. k.number) (fresh-answers day_first unit firmware m₀ r left made ∙ accepted) in
    let rest = every-list-runs r.state left cs in (
      rest.0,
      rest.1,
      rest.2,
      record { began = r; zeroed = left; made = made; taken = taken; runs = rest.3 },
    )

-- ---- a frame
-- a 03 to any unit, for any address and quantity
pub read-frame : (unit address quantity : ℕ) → Read unit address quantity (with_crc (unit ∷ 3 ∷ word_bytes address ++ word_bytes quantity))
unfolding with_crc is_heard
read-frame unit address quantity = record {
  heard = framed-checks (unit ∷ 3 ∷ word_bytes address ++ word_bytes quantity);
  long = refl;
  ours = refl;
  reads = refl;
  at = omega (arith, div-add-mod' address 256);
  asks = omega (arith, div-add-mod' quantity 256);
}
