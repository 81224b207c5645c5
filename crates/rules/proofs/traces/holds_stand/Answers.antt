use Rattle.rules.specs.Runs.{runs}
use Rattle.rules.specs.Firsts.{first_below}
use Rattle.rules.proofs.traces.holds_stand.Goals as goal

pub returns : goal.returns
unfolding runs first_below
returns c = assumption
