-- The values of the six timers.
use Rattle.std.specs.Prelude.{ℕ, Bool, ◌&&◌, nat_le}
use Rattle.leg.specs.declared.value.TimerValue.{TimerValue}
use Rattle.leg.specs.declared.values.TimerValues.{TimerValues}
use Rattle.leg.specs.declared.reaction.Timer.{Timer}
use Rattle.leg.specs.declared.reaction.Timer.TheVariants as timer

-- a timer runs for 1 to 3,600 ticks
abbrev pub in_timer_range : ℕ → Bool
in_timer_range n = nat_le 1 n && nat_le n 3600

abbrev pub all_in_range : ℕ → ℕ → ℕ → ℕ → ℕ → ℕ → Bool
all_in_range a b c d e f =
    in_timer_range a && (in_timer_range b && (in_timer_range c && (in_timer_range d && (in_timer_range e && in_timer_range f))))

abbrev pub value_of : TimerValues → Timer → TimerValue
value_of v t = elim t [
  | timer.CtT1 ↦ v.ct_t1
  | timer.CtT2 ↦ v.ct_t2
  | timer.CtT3 ↦ v.ct_t3
  | timer.CtT4 ↦ v.ct_t4
  | timer.HoldT1 ↦ v.hold_t1
  | timer.HoldT2 ↦ v.hold_t2
]
