-- What another leg is told.
use Rattle.std.specs.Prelude.{Some, Option}
use Rattle.leg.specs.declared.place.Place.{Place}
use Rattle.leg.specs.declared.reaction.Tell.{Tell}
use Rattle.leg.specs.declared.reaction.Word.{Word}

-- the leg at this place is told this word
abbrev pub tell_leg : Place → Word → Option Tell
tell_leg p w = Some (record { to = p; word = w })
