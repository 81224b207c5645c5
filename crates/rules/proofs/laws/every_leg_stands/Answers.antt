use Rattle.rules.proofs.Tolds.{stays_sound, told_stays_sound}
use Rattle.rules.proofs.laws.every_leg_stands.Goals as goal

pub returns : goal.returns
returns c = record { event = stays_sound; told = told_stays_sound }
