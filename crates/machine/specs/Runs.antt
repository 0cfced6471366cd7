-- One claim about the whole list of calls. A step of a list is the very contract that the exported function promises.
use Rattle.std.specs.Prelude.{◌≡◌, List, [], ◌∷◌, Bool, ℕ, length}
use Rattle.basics.specs.Card.{card, done_no, done_card}
use Rattle.state.specs.declared.parts.State.{State}
use Rattle.gateway.specs.declared.calls.Answer.{Answer}
use Rattle.gateway.specs.declared.poll.PollAnswer.{PollAnswer}
use Rattle.gateway.specs.Calls.{Locked, Stopped, Unlocked, TriggerSet, AlarmSet, Defined, Started, MadeFresh}
use Rattle.gateway.specs.Scan.{Scanned}
use Rattle.gateway.specs.Poll.{Polled}
use Rattle.machine.specs.Machine.{Machine, Call, unlock, lock, stop, start, define, trigger, alarm, scan, poll, Outcome, answered, replied, outcomes, after, fresh, fresh_card}
use Rattle.machine.specs.View.{state_of, memory_of}

-- ---- what a call that met its contract gives: its outcome, and the state and memory that it leaves
pub record Answering (Contract : Answer → List ℕ → Type 0) (o : Outcome) (s : State) (m : List ℕ) : Type 0 where
  pub answer : Answer
  pub meets : Contract answer m
  pub is : o ≡ answered (card answer.number answer.carried)
  pub left : s ≡ answer.state

pub record Replying (Contract : PollAnswer → List ℕ → List ℕ → Type 0) (o : Outcome) (s : State) (m : List ℕ) : Type 0 where
  pub answer : PollAnswer
  pub buffer : List ℕ
  pub meets : Contract answer m buffer
  pub is : o ≡ replied answer.number answer.length buffer
  pub left : s ≡ answer.state

-- t is the live table as the call leaves it
abbrev pub Meets : State → List ℕ → Call → Outcome → State → List ℕ → Type 0
Meets s m unlock = Answering (Unlocked s m)
Meets s m lock = Answering (Locked s m)
Meets s m stop = Answering (Stopped s m)
Meets s m (define f gs n) = Answering (Defined s m f gs n)
Meets s m start = Answering (Started s m)
Meets s m (trigger f p) = Answering (TriggerSet s m f p)
Meets s m (alarm k point type transducer) = Answering (AlarmSet s m k point type transducer)
Meets s m (scan table stamp) = Answering (λ r m'. (t : List ℕ) × Scanned s m table stamp r m' t)
Meets s m (poll table frame buffer) = Replying (λ r m' buffer'. (t : List ℕ) × Polled s m table frame buffer r m' t buffer')

-- ---- calls one after the other, each over the state and memory that the one before it left
pub data Runs : State → List ℕ → List Call → List Outcome → State → List ℕ → Type 0 where
  none : {s : State} {m : List ℕ} → Runs s m [] [] s m
  next : {s s' s'' : State} {m m' m'' : List ℕ} {c : Call} {o : Outcome} {cs : List Call} {os : List Outcome} →
      Meets s m c o s' m' → Runs s' m' cs os s'' m'' → Runs s m (c ∷ cs) (o ∷ os) s'' m''

-- a list of calls that ran from what an accepted Fresh over memory m₀ left, for either firmware
pub record Ran (day_first : Bool) (unit firmware : ℕ) (m₀ : List ℕ) (cs : List Call) (os : List Outcome) (s : State) (m : List ℕ) : Type 0 where
  pub began : Answer
  pub zeroed : List ℕ
  pub made : MadeFresh day_first unit firmware m₀ began zeroed
  pub taken : began.number ≡ done_no
  pub runs : Runs began.state zeroed cs os s m

-- ---- the claim: every outcome is the machine's, and so are state and memory at the end
pub record Follows (M : Machine) (cs : List Call) (os : List Outcome) (s : State) (m : List ℕ) : Type 0 where
  pub answers : os ≡ outcomes M cs
  pub state : s ≡ state_of (after M cs)
  pub memory : m ≡ memory_of (after M cs)

abbrev pub EachListFollows : Type 0
EachListFollows =
    (day_first : Bool) (unit firmware : ℕ) (m₀ : List ℕ) (cs : List Call) (os : List Outcome) (s : State) (m : List ℕ) →
    Ran day_first unit firmware m₀ cs os s m → Follows (fresh day_first unit firmware (length m₀)) cs os s m

-- Fresh begins a list and is no call of one. Accepted or refused, it answers what the machine's card says; that a refused one hands back a
-- state of zeros and leaves memory is its contract, `MadeFresh`
abbrev pub FreshAnswers : Type 0
FreshAnswers =
    (day_first : Bool) (unit firmware : ℕ) (m₀ : List ℕ) (r : Answer) (m₁ : List ℕ) → MadeFresh day_first unit firmware m₀ r m₁ →
    card r.number r.carried ≡ fresh_card unit firmware (length m₀)

-- ---- no claim about runs is empty: every list runs, from any state and memory, and from what an accepted Fresh left
abbrev pub EachListRuns : Type 0
EachListRuns = (s : State) (m : List ℕ) (cs : List Call) → (os : List Outcome) × (s' : State) × (m' : List ℕ) × Runs s m cs os s' m'

abbrev pub EachFreshBegins : Type 0
EachFreshBegins =
    (day_first : Bool) (unit firmware : ℕ) (m₀ : List ℕ) (cs : List Call) → fresh_card unit firmware (length m₀) ≡ done_card →
    (os : List Outcome) × (s : State) × (m : List ℕ) × Ran day_first unit firmware m₀ cs os s m
