-- The shapes of a leg's reaction.
use Rattle.std.specs.Prelude.{ℕ, Some, None, Option}
use Rattle.message.specs.declared.record.Message.{Message}
use Rattle.leg.specs.declared.place.Place.{Place}
use Rattle.leg.specs.declared.codes.Cause.{Cause}
use Rattle.leg.specs.declared.codes.Cause.TheVariants as cause
use Rattle.leg.specs.declared.codes.Ended.{Ended}
use Rattle.leg.specs.declared.codes.Note.{Note}
use Rattle.leg.specs.declared.codes.Note.TheVariants as note
use Rattle.leg.specs.declared.record.Leg.{Leg}
use Rattle.leg.specs.declared.record.Request.{Request}
use Rattle.leg.specs.declared.record.Transfer.TheVariants as transfer
use Rattle.leg.specs.declared.reaction.Timer.{Timer}
use Rattle.leg.specs.declared.reaction.TimerChange.{TimerChange}
use Rattle.leg.specs.declared.reaction.TimerChange.TheVariants as timer
use Rattle.leg.specs.declared.reaction.Slot.{Slot}
use Rattle.leg.specs.declared.reaction.Slot.TheVariants as slot
use Rattle.leg.specs.declared.reaction.UpToTwo.{UpToTwo}
use Rattle.leg.specs.declared.reaction.UpToTwo.TheVariants as few
use Rattle.leg.specs.declared.reaction.Word.{Word}
use Rattle.leg.specs.declared.reaction.Word.TheVariants as word
use Rattle.leg.specs.declared.reaction.Tell.{Tell}
use Rattle.leg.specs.declared.reaction.Named.{Named}
use Rattle.leg.specs.declared.reaction.Named.TheVariants as named
use Rattle.leg.specs.declared.reaction.Reaction.{Reaction}
use Rattle.leg.specs.Reactions.{up_to_two}
use Rattle.leg.specs.Slots.{timer_slot}
use Rattle.leg.specs.Tells.{tell_leg}
use Rattle.leg.specs.Views.{free_leg, transfer_request, hold_request, partner_of, with_transfer}

-- a reaction: the record that comes of it, a message, ends, transfer timer, hold timer, who is told, and the note
abbrev pub reaction : Leg → Option Message → UpToTwo Ended → TimerChange → TimerChange → Option Tell → Note → Reaction
reaction l m es t h w n = record { leg = l; sent = m; ends = es; transfer_timer = t; hold_timer = h; tell = w; note = n }

-- the record l, perhaps a message, a note, and nothing else
abbrev pub acting : Leg → Option Message → Note → Reaction
acting l m n = reaction l m few.Zero timer.Kept timer.Kept None n

-- the same reaction, but that the timer in this slot is stopped or set
abbrev pub with_timer : Slot → TimerChange → Reaction → Reaction
with_timer k c r = elim k [
  | slot.Transfer ↦ reaction r.leg r.sent r.ends c r.hold_timer r.tell r.note
  | slot.Hold ↦ reaction r.leg r.sent r.ends r.transfer_timer c r.tell r.note
]

-- a message that fits nothing changes nothing
abbrev pub strayed : Leg → Reaction
strayed l = acting l None note.Stray

-- a request goes out, and its timer runs
abbrev pub sending : Leg → Message → Timer → Option Tell → Reaction
sending l m t w = with_timer (timer_slot t) (timer.Set t) (reaction l (Some m) few.Zero timer.Kept timer.Kept w note.Done)

-- a request goes out, and the transfer timer runs
abbrev pub requesting : Leg → Message → Timer → Option Tell → Reaction
requesting l m t w = with_timer slot.Transfer (timer.Set t) (reaction l (Some m) few.Zero timer.Kept timer.Kept w note.Done)

-- a request goes out, and the hold timer runs
abbrev pub hold_requesting : Leg → Message → Timer → Reaction
hold_requesting l m t = with_timer slot.Hold (timer.Set t) (reaction l (Some m) few.Zero timer.Kept timer.Kept None note.Done)

-- the end of a request, by its number and cause
abbrev pub ended_by : ℕ → Cause → Ended
ended_by n c = record { number = n; cause = c }

-- the request on the timer in this slot ends, and the timer stops
abbrev pub ending : Leg → Slot → Ended → Option Message → Option Tell → Reaction
ending l k e m w = with_timer k timer.Stopped (reaction l m (few.One e) timer.Kept timer.Kept w note.Done)

-- the transfer's request ends, and its timer stops
abbrev pub settling : Leg → Option Message → ℕ → Cause → Option Tell → Reaction
settling l m n c w = ending l slot.Transfer (ended_by n c) m w

-- the hold's request ends, and its timer stops
abbrev pub hold_settling : Leg → ℕ → Cause → Reaction
hold_settling l n c = ending l slot.Hold (ended_by n c) None None

-- the set-up is awaited no longer, and its timer stops
abbrev pub unawaited : Leg → Note → Reaction
unawaited l n = reaction (with_transfer l transfer.Idle) None few.Zero timer.Stopped timer.Kept None n

-- the end of a request, if there is one
abbrev pub request_end : Option Request → Cause → Option Ended
request_end o c = elim o [ None ↦ None | Some r ↦ Some (ended_by r.number c) ]

-- The requests of a leg that ends: first the one that the step names, by its cause; then what is left, transfer before hold, as cleared.
abbrev pub last_ends : Leg → Option Named → UpToTwo Ended
last_ends l k = elim k [
  | None ↦ up_to_two (request_end (transfer_request l) cause.Cleared) (request_end (hold_request l) cause.Cleared)
  | Some n ↦ elim n [
    | named.Transfer c ↦ up_to_two (request_end (transfer_request l) c) (request_end (hold_request l) cause.Cleared)
    | named.Hold c ↦ up_to_two (request_end (hold_request l) c) (request_end (transfer_request l) cause.Cleared)
  ]
]

-- the leg ends: it is free, both timers stop, its requests end, what it owes is dropped
abbrev pub leaving : Leg → Option Message → Option Named → Option Tell → Reaction
leaving l m k w = reaction free_leg m (last_ends l k) timer.Stopped timer.Stopped w note.Done

-- a word to this leg, if there is one
abbrev pub tell_to : Option Place → Word → Option Tell
tell_to o w = elim o [ None ↦ None | Some p ↦ tell_leg p w ]

-- the partner, if there is one, is told that this leg ended
abbrev pub tell_lost : Leg → Option Tell
tell_lost l = tell_to (partner_of l) word.Lost
