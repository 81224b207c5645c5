-- What holds of every list of calls on a fresh board.
use Rattle.std.specs.Prelude.{◌≡◌, ℕ, ◌<◌, ◌≤◌, List, ◌++◌, Some, None, Option, Ok, Err}
use Rattle.std.specs.List.{AllByRecursion}
use Rattle.message.specs.Format.{Lawful}
use Rattle.leg.specs.declared.codes.Refusal.{Refusal}
use Rattle.timers.specs.Order.{First}
use Rattle.rules.specs.declared.answer.Outcome.TheVariants as outcome
use Rattle.rules.specs.Answers.{Answer}
use Rattle.rules.specs.declared.call.Call.{Call}
use Rattle.rules.specs.declared.plan.Plan.{Plan}
use Rattle.rules.specs.declared.settings.Settings.{Settings}
use Rattle.rules.specs.States.{State, fresh}
use Rattle.rules.specs.Firsts.{first_of}
use Rattle.rules.specs.Plans.{listed, plan_ends, other_ends}
use Rattle.rules.specs.Steps.{step, plan_for}
use Rattle.rules.specs.Runs.{runs}
use Rattle.rules.specs.Consistent.{Consistent}

-- whatever is called on a fresh board, its state is consistent
abbrev pub AlwaysConsistent : Type 0
AlwaysConsistent = (settings : Settings) (capacity : ℕ) (calls : List Call) → Consistent (runs (fresh settings capacity) calls).1

-- what an answer names as sent is lawful, and so is what was taken: its row reads back as the same message
abbrev pub LawfulAnswer : Answer → Type 0
LawfulAnswer a = elim a [ Err _ ↦ Unit {0} | Ok o ↦ elim o [ outcome.Done d ↦ AllByRecursion Lawful (listed d.sent) | outcome.Taken m ↦ Lawful m | outcome.Shown _ ↦ Unit {0} ] ]

-- whatever is called on a fresh board, every answer is lawful
abbrev pub AlwaysLawful : Type 0
AlwaysLawful = (settings : Settings) (capacity : ℕ) (calls : List Call) → AllByRecursion LawfulAnswer (runs (fresh settings capacity) calls).0

-- an answer has places for two ends, and that suffices: what is carried out names all ends of both legs
abbrev pub EndsAllNamed : Type 0
EndsAllNamed =
    (settings : Settings) (capacity : ℕ) (calls : List Call) (c : Call) (p : Plan) →
    plan_for (runs (fresh settings capacity) calls).1 c ≡ Some p →
    listed (plan_ends p) ≡ listed p.own.ends ++ listed (other_ends p.other)

-- a refused call leaves the state as it was
abbrev pub RefusedChangesNothing : Type 0
RefusedChangesNothing = (s : State) (c : Call) (why : Refusal) → (step s c).0 ≡ Err why → (step s c).1 ≡ s

-- the first timer of a tick is first by what first means: it runs, and no running one comes before it
abbrev pub FirstIsFirst : Type 0
FirstIsFirst =
    (deadlines : ℕ → Option ℕ) → ((k : ℕ) → 64 ≤ k → deadlines k ≡ None) →
    elim (first_of deadlines) [ None ↦ ((k : ℕ) → deadlines k ≡ None) | Some d ↦ First deadlines d.key d.deadline × (d.key < 64) ]
