-- One step for each call. Refusals come stage by stage: arguments, legs, numbers, queue.
use Rattle.std.specs.Prelude.{ℕ, ◌-◌, ◌/◌, ◌%◌, ◌^◌, cond, ◌&&◌, List, [], ◌∷◌, Some, None, Ok, Err, Option, Result, ◌==◌, nat_le}
use Rattle.message.specs.declared.codes.Carrier.TheVariants as carrier
use Rattle.message.specs.declared.record.Message.{Message}
use Rattle.message.specs.Format.{verdict}
use Rattle.leg.specs.declared.place.Place.{Place}
use Rattle.leg.specs.declared.codes.Note.{Note}
use Rattle.leg.specs.declared.codes.Note.TheVariants as note
use Rattle.leg.specs.declared.codes.Refusal.{Refusal}
use Rattle.leg.specs.declared.codes.Refusal.TheVariants as refusal
use Rattle.leg.specs.declared.record.HoldKind.{HoldKind}
use Rattle.leg.specs.declared.reaction.Reaction.{Reaction}
use Rattle.leg.specs.declared.reaction.Slot.{Slot}
use Rattle.leg.specs.declared.reaction.Slot.TheVariants as slot
use Rattle.leg.specs.declared.reaction.UpToTwo.TheVariants as few
use Rattle.leg.specs.Places.{place_of}
use Rattle.leg.specs.Views.{in_use, is_active, is_idle, is_awaiting_setup, when_asked}
use Rattle.machine.specs.Calls.{opening, clearing, transferring, identifying, placing, accepting, declining, holding, retrieving}
use Rattle.machine.specs.Invokes.{set_up}
use Rattle.machine.specs.Replies.{heard_on}
use Rattle.machine.specs.Timeouts.{timed_out}
use Rattle.timers.specs.declared.meaning.Due.{Due}
use Rattle.rules.specs.Answers.{Answer, did, taken, shown}
use Rattle.rules.specs.declared.call.Call.{Call}
use Rattle.rules.specs.declared.call.Call.TheVariants as call
use Rattle.rules.specs.declared.plan.Plan.{Plan}
use Rattle.rules.specs.Firsts.{due_by}
use Rattle.rules.specs.Plans.{planned, reacting, settled}
use Rattle.rules.specs.States.{State, leg_at}

-- a leg's number has to be one of 0 to 31
abbrev pub at_place : ℕ → (Place → Result Plan Refusal) → Result Plan Refusal
at_place leg f = elim (place_of leg) [ None ↦ Err refusal.NoSuchLeg | Some p ↦ f p ]

-- a peer or an address has to be one of 1 to 65,535
abbrev pub with_address : ℕ → Result Plan Refusal → Result Plan Refusal
with_address a d = cond (nat_le 1 a && nat_le a 65535) d (Err refusal.BadAddress)

-- open: a free leg carries an active call with this peer
abbrev pub open_plan : State → ℕ → ℕ → Result Plan Refusal
open_plan s leg peer = at_place leg (λ p. with_address peer (reacting s p (opening (leg_at s p) peer)))

-- clear: RELEASE COMPLETE goes out on a leg in use, and it ends; its partner is told
abbrev pub clear_plan : State → ℕ → Result Plan Refusal
clear_plan s leg = at_place leg (λ p. reacting s p (clearing (leg_at s p) p))

-- transfer: the far end of an active, idle leg is asked to call this address, with no consultation before
abbrev pub transfer_plan : State → ℕ → ℕ → Result Plan Refusal
transfer_plan s leg address = at_place leg (λ p. with_address address (reacting s p (transferring (leg_at s p) p address s.next)))

-- Both legs are in use, both are active, they are two, and both are idle: each is asked of both before the next. The secondary asks for its identity.
abbrev pub consult_at : State → Place → Place → Result Plan Refusal
consult_at s p q =
    cond (in_use (leg_at s p) && in_use (leg_at s q))
    (cond (is_active (leg_at s p) && is_active (leg_at s q))
    (cond (p.index == q.index) (Err refusal.SameLeg)
    (cond (is_idle (leg_at s p) && is_idle (leg_at s q)) (reacting s q (identifying (leg_at s q) q p s.next)) (Err refusal.NotIdle)))
    (Err refusal.NotActive))
    (Err refusal.LegFree)

-- consult: the far end of the secondary is asked for its identity, and the primary is bound to it until the answer
abbrev pub consult_plan : State → ℕ → ℕ → Result Plan Refusal
consult_plan s primary secondary = at_place primary (λ p. at_place secondary (λ q. consult_at s p q))

-- The new leg is free, and the primary was asked. The new leg calls.
abbrev pub place_at : State → Place → Place → Result Plan Refusal
place_at s p n =
    cond (in_use (leg_at s n)) (Err refusal.LegInUse)
    (cond (in_use (leg_at s p)) (when_asked (leg_at s p).transfer (λ o. reacting s n (placing n p o s.settings.own s.next)) (Err refusal.WrongState)) (Err refusal.LegFree))

-- place: the new leg calls, by SETUP, the address that the far end of the primary asked for, and the primary is bound to it
abbrev pub place_plan : State → ℕ → ℕ → Result Plan Refusal
place_plan s primary new = at_place primary (λ p. at_place new (λ n. place_at s p n))

-- accept: a ringing leg is answered by CONNECT, and is active
abbrev pub accept_plan : State → ℕ → Result Plan Refusal
accept_plan s leg = at_place leg (λ p. reacting s p (accepting (leg_at s p) p))

-- decline: a ringing leg is turned down and ends; a transfer that the far end asked for is turned down, and the leg goes on
abbrev pub decline_plan : State → ℕ → Result Plan Refusal
decline_plan s leg = at_place leg (λ p. reacting s p (declining (leg_at s p) p))

-- hold: an active leg where nobody holds or asked to is held at this end, of which the far end is told, or the far end is asked to hold it
abbrev pub hold_plan : State → ℕ → HoldKind → Result Plan Refusal
hold_plan s leg k = at_place leg (λ p. reacting s p (holding (leg_at s p) p k s.next))

-- retrieve: what this end holds is fetched back; at this end the far end is only told, at the far end it is asked
abbrev pub retrieve_plan : State → ℕ → Result Plan Refusal
retrieve_plan s leg = at_place leg (λ p. reacting s p (retrieving (leg_at s p) p s.next))

-- A leg's identity is its place plus 1. A set-up is met by the leg with its identity, if that leg awaits one.
abbrev pub if_awaiting : State → Option Place → Option Place
if_awaiting s o = elim o [ None ↦ None | Some q ↦ cond (is_awaiting_setup (leg_at s q)) (Some q) None ]

-- the leg that a set-up with this identity is met by, if there is one; identity 0 is that of none
abbrev pub awaiting : State → ℕ → Option Place
awaiting s identity = cond (identity == 0) None (if_awaiting s (place_of (identity - 1)))

-- SETUP asks for a free leg; any other message is for the leg as it is
abbrev pub heard_at : State → Message → Place → Result Reaction Refusal
heard_at s m p = elim m.carrier [
  | carrier.Setup ↦ set_up (leg_at s p) p m (awaiting s m.identity)
  | carrier.Alerting ↦ Ok (heard_on (leg_at s p) p s.settings.own m)
  | carrier.Connect ↦ Ok (heard_on (leg_at s p) p s.settings.own m)
  | carrier.Facility ↦ Ok (heard_on (leg_at s p) p s.settings.own m)
  | carrier.ReleaseComplete ↦ Ok (heard_on (leg_at s p) p s.settings.own m)
]

-- heard: bytes that are a message are for the leg that the message names; others are refused with the first wrong byte
abbrev pub heard_plan : State → List ℕ → Result Plan Refusal
heard_plan s bytes = elim (verdict bytes) [ Err f ↦ Err (refusal.BadMessage f) | Ok m ↦ at_place m.leg (λ p. reacting s p (heard_at s m p)) ]

-- a key is a leg's transfer timer or its hold timer
abbrev pub slot_of : ℕ → Slot
slot_of key = cond (key % 2 == 0) slot.Transfer slot.Hold

-- a timer that is due runs out at the leg of its key
abbrev pub timeout_plan : State → Due → Result Plan Refusal
timeout_plan s d = at_place (d.key / 2) (λ p. planned s p (timed_out (leg_at s p) p (slot_of d.key)))

-- a note, and nothing sent or ended
abbrev pub saying : Note → Answer
saying n = did n few.Zero few.Zero

-- the state at this time, else the same
abbrev pub at_time : State → ℕ → State
at_time s t =
    record { settings = s.settings; time = t; next = s.next; legs = s.legs; deadlines = s.deadlines; waiting = s.waiting; capacity = s.capacity }

-- Time moves on, and the first timer is out if its deadline has come. One timer at a call.
abbrev pub tick_to : State → ℕ → Answer × State
tick_to s t = elim (due_by t s.deadlines) [ None ↦ (saying note.NoneDue, at_time s t) | Some d ↦ settled s t (timeout_plan s d) ]

-- tick: time may not go back, nor beyond 2^40; at most one timer runs out
abbrev pub tick_step : State → ℕ → Answer × State
tick_step s t = cond (nat_le s.time t && nat_le t (2 ^ 40)) (tick_to s t) (Err refusal.BadTime, s)

-- the state with this queue, else the same
abbrev pub with_waiting : State → List Message → State
with_waiting s w =
    record { settings = s.settings; time = s.time; next = s.next; legs = s.legs; deadlines = s.deadlines; waiting = w; capacity = s.capacity }

-- take: the message that waits longest leaves the queue, if one waits
abbrev pub take_step : State → Answer × State
take_step s = elim s.waiting [ [] ↦ (saying note.QueueEmpty, s) | m ∷ ms ↦ (taken m, with_waiting s ms) ]

-- look: the record of a leg, in use or free; nothing changes
abbrev pub look_step : State → ℕ → Answer × State
look_step s leg = elim (place_of leg) [ None ↦ (Err refusal.NoSuchLeg, s) | Some p ↦ (shown (leg_at s p), s) ]

-- the answer to a call, and the state after it
abbrev pub step : State → Call → Answer × State
step s (call.Open leg peer) = settled s s.time (open_plan s leg peer)
step s (call.Clear leg) = settled s s.time (clear_plan s leg)
step s (call.Transfer leg address) = settled s s.time (transfer_plan s leg address)
step s (call.Consult primary secondary) = settled s s.time (consult_plan s primary secondary)
step s (call.Place primary new) = settled s s.time (place_plan s primary new)
step s (call.Accept leg) = settled s s.time (accept_plan s leg)
step s (call.Decline leg) = settled s s.time (decline_plan s leg)
step s (call.Hold leg k) = settled s s.time (hold_plan s leg k)
step s (call.Retrieve leg) = settled s s.time (retrieve_plan s leg)
step s (call.Heard bytes) = settled s s.time (heard_plan s bytes.now)
step s (call.Tick t) = tick_step s t
step s call.Take = take_step s
step s (call.Look leg) = look_step s leg

-- the plan that a call comes to, if it comes to one
abbrev pub plan_in : Result Plan Refusal → Option Plan
plan_in d = elim d [ Err _ ↦ None | Ok p ↦ Some p ]

-- By call; a tick comes to the plan of the timer that is due, and take and look come to none.
abbrev pub plan_for : State → Call → Option Plan
plan_for s (call.Open leg peer) = plan_in (open_plan s leg peer)
plan_for s (call.Clear leg) = plan_in (clear_plan s leg)
plan_for s (call.Transfer leg address) = plan_in (transfer_plan s leg address)
plan_for s (call.Consult primary secondary) = plan_in (consult_plan s primary secondary)
plan_for s (call.Place primary new) = plan_in (place_plan s primary new)
plan_for s (call.Accept leg) = plan_in (accept_plan s leg)
plan_for s (call.Decline leg) = plan_in (decline_plan s leg)
plan_for s (call.Hold leg k) = plan_in (hold_plan s leg k)
plan_for s (call.Retrieve leg) = plan_in (retrieve_plan s leg)
plan_for s (call.Heard bytes) = plan_in (heard_plan s bytes.now)
plan_for s (call.Tick t) = elim (due_by t s.deadlines) [ None ↦ None | Some d ↦ plan_in (timeout_plan s d) ]
plan_for s call.Take = None
plan_for s (call.Look leg) = None
