-- What a leg does at one event: its record, its place, this station's own number and the next request number are given.
use Rattle.std.specs.Prelude.{ℕ, Ok, Option, Result}
use Rattle.leg.specs.declared.place.Place.{Place}
use Rattle.leg.specs.declared.codes.Refusal.{Refusal}
use Rattle.leg.specs.declared.record.Leg.{Leg}
use Rattle.leg.specs.declared.reaction.Reaction.{Reaction}
use Rattle.machine.specs.declared.event.Event.{Event}
use Rattle.machine.specs.declared.event.Event.TheVariants as event
use Rattle.machine.specs.Calls.{opening, clearing, transferring, identifying, placing, accepting, declining, holding, retrieving}
use Rattle.machine.specs.Invokes.{set_up}
use Rattle.machine.specs.Replies.{heard_on}
use Rattle.machine.specs.Timeouts.{timed_out}

abbrev pub reacts : Leg → Place → ℕ → Option ℕ → Event → Result Reaction Refusal
reacts l at own next (event.Open q) = opening l q
reacts l at own next event.Clear = clearing l at
reacts l at own next (event.Transfer a) = transferring l at a next
reacts l at own next (event.Identify p) = identifying l at p next
reacts l at own next (event.SetUp p o) = placing at p o own next
reacts l at own next event.Accept = accepting l at
reacts l at own next event.Decline = declining l at
reacts l at own next (event.Hold k) = holding l at k next
reacts l at own next event.Retrieve = retrieving l at next
reacts l at own next (event.Hear m) = Ok (heard_on l at own m)
reacts l at own next (event.Meet m s) = set_up l at m s
reacts l at own next (event.RunOut k) = Ok (timed_out l at k)
