-- What holds of every state that a board comes to.
use Rattle.std.specs.Prelude.{◌≡◌, ◌^◌, ◌≤◌, ◌≢◌, length, Some, Option}
use Rattle.std.specs.List.{AllByRecursion}
use Rattle.message.specs.Format.{Lawful}
use Rattle.leg.specs.declared.place.Place.{Place}
use Rattle.rules.specs.Sound.{Sound, Tie, tie_of, tied_to, returned, NextInRange}
use Rattle.rules.specs.States.{State, leg_at}

-- Partners name each other in matching states, and none is its own partner.
abbrev pub Mutual : (Place → Option Tie) → Type 0
Mutual ties = (p : Place) (t : Tie) → ties p ≡ Some t → (ties (tied_to t) ≡ Some (returned t p)) × ((tied_to t).index ≢ p.index)

-- What holds of the state between calls: 32 records that occur, partners that name each other, and numbers, time and queue within their bounds.
pub record Consistent (s : State) : Type 0 where
  pub size : length s.legs ≡ 32
  -- every record is one of those that occur, and what it keeps is in range
  pub sound : (p : Place) → Sound (leg_at s p)
  pub partners : Mutual (λ p. tie_of (leg_at s p))
  pub next : NextInRange s.next
  pub time : s.time ≤ 2 ^ 40
  -- all that waits is lawful, and no more waits than there is capacity for
  pub lawful : AllByRecursion Lawful s.waiting
  pub fits : length s.waiting ≤ s.capacity
