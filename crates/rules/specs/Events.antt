-- What holds of a leg at every event.
use Rattle.std.specs.Prelude.{◌≡◌, ℕ, Bool, true, false, Some, Ok, Err, Option, Result, None}
use Rattle.message.specs.declared.codes.Carrier.TheVariants as carrier
use Rattle.message.specs.Format.{Lawful}
use Rattle.machine.specs.declared.event.Event.{Event}
use Rattle.machine.specs.declared.event.Event.TheVariants as event
use Rattle.machine.specs.Reacts.{reacts}
use Rattle.leg.specs.declared.place.Place.{Place}
use Rattle.leg.specs.declared.codes.Refusal.{Refusal}
use Rattle.leg.specs.declared.record.Leg.{Leg}
use Rattle.leg.specs.declared.reaction.Word.{Word}
use Rattle.leg.specs.declared.reaction.Word.TheVariants as word
use Rattle.leg.specs.declared.reaction.Reaction.{Reaction}
use Rattle.leg.specs.Views.{in_use, is_active, is_idle}
use Rattle.machine.specs.Told.{told_word}
use Rattle.rules.specs.Sound.{InWord, InIdentity, NextInRange, OwedInRange, Sound, LawfulIf, tie_of, Tells, end_follows, is_two}

-- What comes before an event: numbers in range, lawful messages; a secondary that is active and idle; a new leg that is free; and that the other leg, which is no partner yet, may be told.
abbrev pub Ready : (Place → Word → Bool) → Place → Leg → Event → Type 0
Ready Other at l (event.Open q) = InWord q
Ready Other at l event.Clear = Unit {0}
Ready Other at l (event.Transfer a) = InWord a
Ready Other at l (event.Identify p) = (is_active l ≡ true) × (is_idle l ≡ true) × (Other p (word.Consult at) ≡ true)
Ready Other at l (event.SetUp p o) = (in_use l ≡ false) × OwedInRange o × (Other p (word.Place at) ≡ true)
Ready Other at l event.Accept = Unit {0}
Ready Other at l event.Decline = Unit {0}
Ready Other at l (event.Hold k) = Unit {0}
Ready Other at l event.Retrieve = Unit {0}
Ready Other at l (event.Hear m) = Lawful m
Ready Other at l (event.Meet m s) = (m.carrier ≡ carrier.Setup) × Lawful m × (in_use l ≡ false → (q : Place) → s ≡ Some q → (Other q word.Met ≡ true))
Ready Other at l (event.RunOut k) = Unit {0}

-- The record that comes of it occurs, what is sent is lawful, what is told fits the tie, and where the leg that is told may name an end there is a place for it.
pub record Fine (Other : Place → Word → Bool) (at : Place) (l : Leg) (r : Reaction) : Type 0 where
  pub sound : Sound r.leg
  pub lawful : LawfulIf r.sent
  pub tells : Tells Other at (tie_of l) r.tell (tie_of r.leg)
  pub few : end_follows (tie_of l) r.tell ≡ true → is_two r.ends ≡ false

abbrev pub FineIf : (Place → Word → Bool) → Place → Leg → Result Reaction Refusal → Type 0
FineIf Other at l d = elim d [ Err _ ↦ Unit {0} | Ok r ↦ Fine Other at l r ]

-- every event that is ready leaves a leg sound
abbrev pub LegStaysSound : Type 0
LegStaysSound =
    (Other : Place → Word → Bool) (l : Leg) (at : Place) (own : ℕ) (next : Option ℕ) (e : Event) →
    Sound l → InWord own → NextInRange next → Ready Other at l e → FineIf Other at l (reacts l at own next e)

-- a word that makes a leg idle or bound is for an active leg; an identity and an address that are handed on are in range
abbrev pub ReadyFor : Leg → Word → Type 0
ReadyFor l w = elim w [
  | word.Consult _ ↦ is_active l ≡ true
  | word.Place _ ↦ Unit {0}
  | word.Initiate i a ↦ InIdentity i × InWord a
  | word.Part ↦ is_active l ≡ true
  | word.Abandon ↦ is_active l ≡ true
  | word.Complete ↦ Unit {0}
  | word.Met ↦ Unit {0}
  | word.Lost ↦ Unit {0}
]

-- a leg that is told tells nobody in turn
pub record FineTold (r : Reaction) : Type 0 where
  pub sound : Sound r.leg
  pub lawful : LawfulIf r.sent
  pub nobody : r.tell ≡ None

abbrev pub FineToldIf : Result Reaction Refusal → Type 0
FineToldIf d = elim d [ Err _ ↦ Unit {0} | Ok r ↦ FineTold r ]

abbrev pub ToldStaysSound : Type 0
ToldStaysSound = (l : Leg) (at : Place) (w : Word) (next : Option ℕ) → Sound l → NextInRange next → ReadyFor l w → FineToldIf (told_word l at w next)
