-- What a board stands for.
use Rattle.std.specs.Prelude.{ℕ, ◌-◌, List, [], length, replicate, Some, None, Option, slice_index_or}
use Rattle.message.specs.declared.record.Message.{Message}
use Rattle.leg.specs.declared.place.Place.{Place}
use Rattle.leg.specs.declared.record.Leg.{Leg}
use Rattle.leg.specs.Views.{free_leg}
use Rattle.rules.specs.declared.settings.Settings.{Settings}

-- Of the timers only the deadlines count, of the queue only what waits and the capacity.
pub record State : Type 0 where
  pub settings : Settings
  pub time : ℕ
  -- the number of the next request, none after the last
  pub next : Option ℕ
  -- 32 records
  pub legs : List Leg
  -- by key: 2 × leg is a leg's transfer timer, 2 × leg + 1 its hold timer
  pub deadlines : ℕ → Option ℕ
  pub waiting : List Message
  pub capacity : ℕ

abbrev pub fresh : Settings → ℕ → State
fresh settings capacity =
    record {
      settings = settings;
      time = 0;
      next = Some 1;
      legs = replicate 32 free_leg;
      deadlines = λ _. None;
      waiting = [];
      capacity = capacity;
    }

abbrev pub leg_at : State → Place → Leg
leg_at s p = slice_index_or s.legs p.index free_leg

abbrev pub free_places : State → ℕ
free_places s = s.capacity - length s.waiting
