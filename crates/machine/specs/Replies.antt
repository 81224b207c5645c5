-- What a leg does with a reply that it hears, or with the end of its call. A reply matches an open request of its leg by operation and number; any other is stray.
use Rattle.std.specs.Prelude.{ℕ, cond, ◌&&◌, ◌||◌, Some, None, ◌==◌}
use Rattle.message.specs.declared.codes.Carrier.TheVariants as carrier
use Rattle.message.specs.declared.codes.Kind.TheVariants as kind
use Rattle.message.specs.declared.codes.Operation.{Operation}
use Rattle.message.specs.declared.codes.Operation.TheVariants as operation
use Rattle.message.specs.declared.record.Message.{Message}
use Rattle.message.specs.Ranges.{of_kind, names}
use Rattle.leg.specs.declared.place.Place.{Place}
use Rattle.leg.specs.declared.codes.Cause.TheVariants as cause
use Rattle.leg.specs.declared.codes.Note.TheVariants as note
use Rattle.leg.specs.declared.record.Phase.{Phase}
use Rattle.leg.specs.declared.record.Phase.TheVariants as phase
use Rattle.leg.specs.declared.record.Bond.TheVariants as bond
use Rattle.leg.specs.declared.record.Transfer.TheVariants as transfer
use Rattle.leg.specs.declared.record.Holder.TheVariants as holder
use Rattle.leg.specs.declared.record.Leg.{Leg}
use Rattle.leg.specs.declared.reaction.Word.TheVariants as word
use Rattle.leg.specs.declared.reaction.Named.TheVariants as named
use Rattle.leg.specs.declared.reaction.Reaction.{Reaction}
use Rattle.leg.specs.Tells.{tell_leg}
use Rattle.leg.specs.Views.{in_use, is_alerting, when_await_identify, when_await_initiate, when_await_setup_response, when_hold_requested, when_retrieve_requested, with_phase, with_transfer, with_holder}
use Rattle.machine.specs.Messages.{release_on}
use Rattle.machine.specs.Reactions.{acting, strayed, settling, hold_settling, leaving, tell_to, tell_lost}
use Rattle.machine.specs.Invokes.{invoked}

-- the far end said which identity it is met by: the primary is asked to call there
abbrev pub identify_result : Leg → Message → Reaction
identify_result l m =
    when_await_identify l.transfer
    (λ n p. cond (n == m.number) (settling (with_transfer l (transfer.Bound (bond.Consulted p))) None n cause.Result (tell_leg p (word.Initiate m.identity m.address))) (strayed l))
    (strayed l)

-- the transfer is done: the secondary parts, and this leg, now without use, ends
abbrev pub initiate_result : Leg → Place → Message → Reaction
initiate_result l at m =
    when_await_initiate l.transfer
    (λ n s. cond (n == m.number) (leaving l (Some (release_on at)) (Some (named.Transfer cause.Result)) (tell_to s word.Part)) (strayed l))
    (strayed l)

-- the far end holds the call
abbrev pub hold_result : Leg → Message → Reaction
hold_result l m =
    when_hold_requested l.holder (λ n. cond (n == m.number) (hold_settling (with_holder l holder.RemoteHolding) n cause.Result) (strayed l)) (strayed l)

-- the call is fetched back
abbrev pub retrieve_result : Leg → Message → Reaction
retrieve_result l m =
    when_retrieve_requested l.holder (λ n. cond (n == m.number) (hold_settling (with_holder l holder.Idle) n cause.Result) (strayed l)) (strayed l)

-- a result, by operation, heard by FACILITY
abbrev pub resulted : Leg → Place → Operation → Message → Reaction
resulted l at o m = elim o [
  | operation.CallTransferIdentify ↦ identify_result l m
  | operation.CallTransferAbandon ↦ strayed l
  | operation.CallTransferInitiate ↦ initiate_result l at m
  | operation.CallTransferSetup ↦ strayed l
  | operation.HoldNotific ↦ strayed l
  | operation.RetrieveNotific ↦ strayed l
  | operation.RemoteHold ↦ hold_result l m
  | operation.RemoteRetrieve ↦ retrieve_result l m
]

-- no identity: both legs of the consultation are as before it
abbrev pub identify_fault : Leg → Message → Reaction
identify_fault l m =
    when_await_identify l.transfer (λ n p. cond (n == m.number) (settling (with_transfer l transfer.Idle) None n cause.Fault (tell_leg p word.Part)) (strayed l)) (strayed l)

-- no transfer: the secondary tells its far end not to wait
abbrev pub initiate_fault : Leg → Message → Reaction
initiate_fault l m =
    when_await_initiate l.transfer (λ n s. cond (n == m.number) (settling (with_transfer l transfer.Idle) None n cause.Fault (tell_to s word.Abandon)) (strayed l)) (strayed l)

-- the far end does not hold, and the call goes on
abbrev pub hold_fault : Leg → Message → Reaction
hold_fault l m =
    when_hold_requested l.holder (λ n. cond (n == m.number) (hold_settling (with_holder l holder.Idle) n cause.Fault) (strayed l)) (strayed l)

-- a held call that cannot be fetched back is released
abbrev pub retrieve_fault : Leg → Place → Message → Reaction
retrieve_fault l at m =
    when_retrieve_requested l.holder (λ n. cond (n == m.number) (leaving l (Some (release_on at)) (Some (named.Hold cause.Fault)) (tell_lost l)) (strayed l)) (strayed l)

-- an error or a reject, by operation, heard by FACILITY
abbrev pub faulted : Leg → Place → Operation → Message → Reaction
faulted l at o m = elim o [
  | operation.CallTransferIdentify ↦ identify_fault l m
  | operation.CallTransferAbandon ↦ strayed l
  | operation.CallTransferInitiate ↦ initiate_fault l m
  | operation.CallTransferSetup ↦ strayed l
  | operation.HoldNotific ↦ strayed l
  | operation.RetrieveNotific ↦ strayed l
  | operation.RemoteHold ↦ hold_fault l m
  | operation.RemoteRetrieve ↦ retrieve_fault l at m
]

-- a placed leg that goes on in this phase: no transfer under way, peer and hold as before
abbrev pub connected_leg : Leg → Phase → Leg
connected_leg l p = record { phase = p; peer = l.peer; transfer = transfer.Idle; holder = l.holder; held = l.held }

-- A matching result of the set-up: the placed leg goes on in this phase, and its primary answers that the transfer is done.
abbrev pub setup_result : Leg → Message → Phase → Reaction → Reaction
setup_result l m p other =
    cond (of_kind m.kind kind.Result && names m.operation operation.CallTransferSetup)
    (when_await_setup_response l.transfer (λ n q. cond (n == m.number) (settling (connected_leg l p) None n cause.Result (tell_leg q word.Complete)) other) other)
    other

-- ALERTING: only a matching result of the set-up counts
abbrev pub alerted : Leg → Message → Reaction
alerted l m = setup_result l m phase.Alerting (strayed l)

-- any CONNECT makes an alerting leg active
abbrev pub connected : Leg → Message → Reaction
connected l m = setup_result l m phase.Active (cond (is_alerting l) (acting (with_phase l phase.Active) None note.Done) (strayed l))

-- the far end ended the call
abbrev pub lost : Leg → Reaction
lost l = leaving l None None (tell_lost l)

-- RELEASE COMPLETE ends the leg, whatever it brings. A matching result of an initiate parts the secondary first; a matching fault of a set-up is what the request ends by.
abbrev pub released_by_result : Leg → Message → Reaction
released_by_result l m =
    when_await_initiate l.transfer (λ n s. cond (n == m.number) (leaving l None (Some (named.Transfer cause.Result)) (tell_to s word.Part)) (lost l)) (lost l)

-- the primary is told that the placed leg is lost, whatever the fault was
abbrev pub released_by_fault : Leg → Message → Reaction
released_by_fault l m =
    when_await_setup_response l.transfer (λ n p. cond (n == m.number) (leaving l None (Some (named.Transfer cause.Fault)) (tell_leg p word.Lost)) (lost l)) (lost l)

-- RELEASE COMPLETE, by what it brings: one of these two replies, or anything else, and then the leg is only lost
abbrev pub released : Leg → Message → Reaction
released l m =
    cond (of_kind m.kind kind.Result && names m.operation operation.CallTransferInitiate) (released_by_result l m)
    (cond ((of_kind m.kind kind.Error || of_kind m.kind kind.Reject) && names m.operation operation.CallTransferSetup) (released_by_fault l m) (lost l))

-- by FACILITY
abbrev pub served : Leg → Place → ℕ → Message → Operation → Reaction
served l at own m o = elim m.kind [
  | kind.Nothing ↦ strayed l
  | kind.Invoke ↦ invoked l at own o m
  | kind.Result ↦ resulted l at o m
  | kind.Error ↦ faulted l at o m
  | kind.Reject ↦ faulted l at o m
]

-- Any message but SETUP, by its carrier. On a free leg all is stray.
abbrev pub heard_on : Leg → Place → ℕ → Message → Reaction
heard_on l at own m =
    cond (in_use l)
    (elim m.carrier [
      | carrier.Setup ↦ strayed l
      | carrier.Alerting ↦ alerted l m
      | carrier.Connect ↦ connected l m
      | carrier.Facility ↦ elim m.operation [ None ↦ strayed l | Some o ↦ served l at own m o ]
      | carrier.ReleaseComplete ↦ released l m
    ])
    (strayed l)
