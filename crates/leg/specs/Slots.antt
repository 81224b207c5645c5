-- Which of a leg's two keys a timer runs on.
use Rattle.leg.specs.declared.reaction.Slot.{Slot}
use Rattle.leg.specs.declared.reaction.Slot.TheVariants as slot
use Rattle.leg.specs.declared.reaction.Timer.{Timer}
use Rattle.leg.specs.declared.reaction.Timer.TheVariants as timer

-- the timers of H.450.2 on the transfer's, those of H.450.4 on the hold's
abbrev pub timer_slot : Timer → Slot
timer_slot t = elim t [
  | timer.CtT1 ↦ slot.Transfer
  | timer.CtT2 ↦ slot.Transfer
  | timer.CtT3 ↦ slot.Transfer
  | timer.CtT4 ↦ slot.Transfer
  | timer.HoldT1 ↦ slot.Hold
  | timer.HoldT2 ↦ slot.Hold
]
