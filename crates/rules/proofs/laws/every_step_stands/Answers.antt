use Rattle.rules.proofs.First.{first_is_first}
use Rattle.rules.proofs.Lives.{refused_changes_nothing}
use Rattle.rules.proofs.laws.every_step_stands.Goals as goal

pub returns : goal.returns
returns c = record { refused = refused_changes_nothing; first = first_is_first }
