-- Calls one after another.
use Rattle.std.specs.Prelude.{List, [], ◌∷◌}
use Rattle.rules.specs.declared.call.Call.{Call}
use Rattle.rules.specs.Answers.{Answer}
use Rattle.rules.specs.States.{State}
use Rattle.rules.specs.Steps.{step}

-- the answers to a list of calls, and the state after them
unfoldable pub runs : State → List Call → List Answer × State
runs s [] = ([], s)
runs s (c ∷ cs) = ((step s c).0 ∷ (runs (step s c).1 cs).0, (runs (step s c).1 cs).1)
