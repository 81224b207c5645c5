use Rattle.rules.proofs.Lives.{always_consistent, always_lawful, ends_all_named}
use Rattle.rules.proofs.laws.every_life_stands.Goals as goal

pub returns : goal.returns
returns c = record { consistent = always_consistent; lawful = always_lawful; ends = ends_all_named }
