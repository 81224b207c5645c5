-- A plan, and how it is carried out.
use Rattle.std.specs.Prelude.{ℕ, ◌+◌, ◌*◌, Bool, false, cond, ◌&&◌, ◌||◌, List, [], ◌∷◌, ◌++◌, length, Some, None, Ok, Err, Option, Result, nat_eq, nat_lt, slice_set}
use Rattle.std.specs.Map.{update}
use Rattle.message.specs.declared.codes.Kind.TheVariants.{Invoke}
use Rattle.message.specs.declared.record.Message.{Message}
use Rattle.message.specs.Ranges.{of_kind, has_number}
use Rattle.leg.specs.declared.place.Place.{Place}
use Rattle.leg.specs.declared.codes.Ended.{Ended}
use Rattle.leg.specs.declared.codes.Refusal.{Refusal}
use Rattle.leg.specs.declared.codes.Refusal.TheVariants as refusal
use Rattle.leg.specs.declared.record.Leg.{Leg}
use Rattle.leg.specs.declared.reaction.Reaction.{Reaction}
use Rattle.leg.specs.declared.reaction.Slot.{Slot}
use Rattle.leg.specs.declared.reaction.Slot.TheVariants as slot
use Rattle.leg.specs.declared.reaction.TimerChange.{TimerChange}
use Rattle.leg.specs.declared.reaction.TimerChange.TheVariants as change
use Rattle.leg.specs.declared.reaction.UpToTwo.{UpToTwo}
use Rattle.leg.specs.declared.reaction.UpToTwo.TheVariants as few
use Rattle.leg.specs.declared.values.TimerValues.{TimerValues}
use Rattle.leg.specs.Reactions.{up_to_two}
use Rattle.machine.specs.Told.{told_word}
use Rattle.leg.specs.Values.{value_of}
use Rattle.rules.specs.Answers.{Answer, did}
use Rattle.rules.specs.declared.plan.Told.{Told}
use Rattle.rules.specs.declared.plan.Plan.{Plan}
use Rattle.rules.specs.States.{State, leg_at, free_places}

-- a leg is told, and reacts
abbrev pub also : Place → Reaction → Option Told
also q x = Some (record { to = q; reaction = x })

-- the reaction of the leg that is told
abbrev pub telling : Place → Reaction → Place → Result Reaction Refusal → Result Plan Refusal
telling p r q told = elim told [ Err why ↦ Err why | Ok x ↦ Ok (record { place = p; own = r; other = also q x }) ]

-- A leg reacts, and then the leg that it tells, if it tells one. Both are decided from the records as they were.
abbrev pub planned : State → Place → Reaction → Result Plan Refusal
planned s p r = elim r.tell [
  | None ↦ Ok (record { place = p; own = r; other = None })
  | Some t ↦ telling p r t.to (told_word (leg_at s t.to) t.to t.word s.next)
]

-- what the leg refuses is refused
abbrev pub reacting : State → Place → Result Reaction Refusal → Result Plan Refusal
reacting s p d = elim d [ Err why ↦ Err why | Ok r ↦ planned s p r ]

-- the told leg's part of a plan
abbrev pub other_sent : Option Told → Option Message
other_sent o = elim o [ None ↦ None | Some t ↦ t.reaction.sent ]

-- the ends of the told leg
abbrev pub other_ends : Option Told → UpToTwo Ended
other_ends o = elim o [ None ↦ few.Zero | Some t ↦ t.reaction.ends ]

module _ {A : Type 0} where
  -- two and no more: that none is left out is a law
  abbrev pub followed : UpToTwo A → UpToTwo A → UpToTwo A
  followed x y = elim x [
    | few.Zero ↦ y
    | few.One a ↦ elim y [ few.Zero ↦ few.One a | few.One b ↦ few.Two a b | few.Two b _ ↦ few.Two a b ]
    | few.Two a b ↦ few.Two a b
  ]

  -- two or fewer as a list, in their order
  abbrev pub listed : UpToTwo A → List A
  listed x = elim x [ few.Zero ↦ [] | few.One a ↦ a ∷ [] | few.Two a b ↦ a ∷ b ∷ [] ]

-- the leg's own message goes before the other's
abbrev pub plan_sent : Plan → UpToTwo Message
plan_sent p = up_to_two p.own.sent (other_sent p.other)

-- and so do its ends
abbrev pub plan_ends : Plan → UpToTwo Ended
plan_ends p = followed p.own.ends (other_ends p.other)

-- a request is a confirmed invoke that the board sends
abbrev pub is_request : Message → Bool
is_request m = of_kind m.kind Invoke && has_number m.operation

-- whether this message, if there is one, is a request
abbrev pub asks : Option Message → Bool
asks o = elim o [ None ↦ false | Some m ↦ is_request m ]

-- the number after this one, 65,535 being the last
abbrev pub following : Option ℕ → Option ℕ
following next = elim next [ None ↦ None | Some n ↦ cond (nat_lt n 65535) (Some (n + 1)) None ]

-- a request uses the next number up
abbrev pub next_after : Option ℕ → Plan → Option ℕ
next_after next p = cond (asks p.own.sent || asks (other_sent p.other)) (following next) next

-- the key of a leg's timer: the transfer's is even, the hold's is the next
abbrev pub key_of : Place → Slot → ℕ
key_of p k = elim k [ slot.Transfer ↦ 2 * p.index | slot.Hold ↦ 2 * p.index + 1 ]

-- a timer that is set runs from now
abbrev pub timed : (ℕ → Option ℕ) → ℕ → TimerChange → ℕ → TimerValues → ℕ → Option ℕ
timed f k c now values = elim c [
  | change.Kept ↦ f
  | change.Stopped ↦ update nat_eq f k None
  | change.Set t ↦ update nat_eq f k (Some (now + (value_of values t).ticks))
]

-- the deadlines after a leg's reaction: its transfer timer, then its hold timer
abbrev pub timed_leg : (ℕ → Option ℕ) → Place → Reaction → ℕ → TimerValues → ℕ → Option ℕ
timed_leg f p r now values = timed (timed f (key_of p slot.Transfer) r.transfer_timer now values) (key_of p slot.Hold) r.hold_timer now values

-- the same of the leg that is told, if one is
abbrev pub timed_other : (ℕ → Option ℕ) → Option Told → ℕ → TimerValues → ℕ → Option ℕ
timed_other f o now values = elim o [ None ↦ f | Some t ↦ timed_leg f t.to t.reaction now values ]

-- the record of a leg takes the place of the one before
abbrev pub put_leg : List Leg → Place → Leg → List Leg
put_leg legs p l = slice_set legs p.index l

-- the same of the leg that is told, if one is
abbrev pub put_other : List Leg → Option Told → List Leg
put_other legs o = elim o [ None ↦ legs | Some t ↦ put_leg legs t.to t.reaction.leg ]

-- The state after a plan at this time: the leg's part, then the other's.
abbrev pub after : State → ℕ → Plan → State
after s now p =
    record {
      settings = s.settings;
      time = now;
      next = next_after s.next p;
      legs = put_other (put_leg s.legs p.place p.own.leg) p.other;
      deadlines = timed_other (timed_leg s.deadlines p.place p.own now s.settings.values) p.other now s.settings.values;
      waiting = s.waiting ++ listed (plan_sent p);
      capacity = s.capacity;
    }

-- the answer: the leg's own note, and what both legs sent and ended
abbrev pub done_by : Plan → Answer
done_by p = did p.own.note (plan_sent p) (plan_ends p)

-- The last stage: a plan that sends more messages than there are free places is refused. Else it is carried out.
abbrev pub carried : State → ℕ → Plan → Answer × State
carried s now p = cond (nat_lt (free_places s) (length (listed (plan_sent p)))) (Err refusal.QueueFull, s) (done_by p, after s now p)

-- a refusal changes nothing
abbrev pub settled : State → ℕ → Result Plan Refusal → Answer × State
settled s now d = elim d [ Err why ↦ (Err why, s) | Ok p ↦ carried s now p ]
