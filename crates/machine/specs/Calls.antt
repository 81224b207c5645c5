-- What a leg does at a call of the host. A refusal of an earlier stage goes before one of a later stage.
use Rattle.std.specs.Prelude.{ℕ, cond, Some, None, Ok, Err, Option, Result}
use Rattle.message.specs.declared.codes.Carrier.TheVariants as carrier
use Rattle.message.specs.declared.codes.Operation.TheVariants as operation
use Rattle.message.specs.declared.codes.ErrorCode.TheVariants as error
use Rattle.leg.specs.declared.place.Place.{Place}
use Rattle.leg.specs.declared.codes.Note.TheVariants as note
use Rattle.leg.specs.declared.codes.Refusal.{Refusal}
use Rattle.leg.specs.declared.codes.Refusal.TheVariants as refusal
use Rattle.leg.specs.declared.record.Owed.{Owed}
use Rattle.leg.specs.declared.record.Phase.TheVariants as phase
use Rattle.leg.specs.declared.record.Transfer.TheVariants as transfer
use Rattle.leg.specs.declared.record.Holder.TheVariants as holder
use Rattle.leg.specs.declared.record.HoldKind.{HoldKind}
use Rattle.leg.specs.declared.record.HoldKind.TheVariants as hold
use Rattle.leg.specs.declared.record.Leg.{Leg}
use Rattle.leg.specs.declared.reaction.Timer.TheVariants as timer
use Rattle.leg.specs.declared.reaction.Word.TheVariants as word
use Rattle.leg.specs.declared.reaction.Reaction.{Reaction}
use Rattle.leg.specs.Tells.{tell_leg}
use Rattle.leg.specs.Views.{active_leg, calling_leg, in_use, is_active, is_idle, is_unheld, when_ringing, when_asked, with_phase, with_transfer, with_holder}
use Rattle.machine.specs.Messages.{release_on, notice_on, request_on, result_on, error_on}
use Rattle.machine.specs.Reactions.{acting, requesting, hold_requesting, leaving, tell_lost}

-- open: a free leg is active, with this peer
abbrev pub opening : Leg → ℕ → Result Reaction Refusal
opening l q = cond (in_use l) (Err refusal.LegInUse) (Ok (acting (active_leg q) None note.Done))

-- clear: a bare RELEASE COMPLETE, and the leg ends
abbrev pub clearing : Leg → Place → Result Reaction Refusal
clearing l at = cond (in_use l) (Ok (leaving l (Some (release_on at)) None (tell_lost l))) (Err refusal.LegFree)

-- A request takes the next number, and is refused where there is none.
abbrev pub numbered : Option ℕ → (ℕ → Reaction) → Result Reaction Refusal
numbered next f = elim next [ None ↦ Err refusal.NoNumberLeft | Some n ↦ Ok (f n) ]

-- an initiate goes out: the far end is to call the address, where the identity is known
abbrev pub initiating : Leg → Place → Option Place → ℕ → ℕ → Option ℕ → Result Reaction Refusal
initiating l at s i a next =
    numbered next (λ n. requesting (with_transfer l (transfer.AwaitInitiate n s)) (request_on at carrier.Facility operation.CallTransferInitiate n i a) timer.CtT3 None)

-- transfer: without consultation, so with no secondary and identity 0
abbrev pub transferring : Leg → Place → ℕ → Option ℕ → Result Reaction Refusal
transferring l at a next =
    cond (in_use l)
    (cond (is_active l) (cond (is_idle l) (initiating l at None 0 a next) (Err refusal.NotIdle)) (Err refusal.NotActive))
    (Err refusal.LegFree)

-- consult, on the secondary: its far end is asked for an identity, and the primary is bound to it
abbrev pub identifying : Leg → Place → Place → Option ℕ → Result Reaction Refusal
identifying l at p next =
    numbered next (λ n. requesting (with_transfer l (transfer.AwaitIdentify n p)) (request_on at carrier.Facility operation.CallTransferIdentify n 0 0) timer.CtT1 (tell_leg p (word.Consult at)))

-- place, on the new leg: SETUP to the address asked for, with the identity asked for and this station's own number; the primary is bound to it
abbrev pub placing : Place → Place → Owed → ℕ → Option ℕ → Result Reaction Refusal
placing at p o own next =
    numbered next (λ n. requesting (calling_leg o.address n p) (request_on at carrier.Setup operation.CallTransferSetup n o.identity own) timer.CtT4 (tell_leg p (word.Place at)))

-- accept: CONNECT with the result of the set-up, and the leg is active
abbrev pub accepting : Leg → Place → Result Reaction Refusal
accepting l at =
    cond (in_use l)
    (when_ringing l.phase (λ o. Ok (acting (with_phase l phase.Active) (Some (result_on at carrier.Connect operation.CallTransferSetup o.number)) note.Done)) (Err refusal.WrongState))
    (Err refusal.LegFree)

-- decline: a set-up by RELEASE COMPLETE, and the leg ends; a transfer that is asked for by FACILITY, and the leg is idle
abbrev pub declining : Leg → Place → Result Reaction Refusal
declining l at =
    cond (in_use l)
    (when_ringing l.phase
    (λ o. Ok (leaving l (Some (error_on at carrier.ReleaseComplete operation.CallTransferSetup o.number error.Unspecified)) None (tell_lost l)))
    (when_asked l.transfer
    (λ o. Ok (acting (with_transfer l transfer.Idle) (Some (error_on at carrier.Facility operation.CallTransferInitiate o.number error.Unspecified)) note.Done))
    (Err refusal.WrongState)))
    (Err refusal.LegFree)

-- hold: at this end, of which the far end is only told; or at the far end, which is asked
abbrev pub holding_by : Leg → Place → HoldKind → Option ℕ → Result Reaction Refusal
holding_by l at k next = elim k [
  | hold.Near ↦ Ok (acting (with_holder l holder.NearHolding) (Some (notice_on at operation.HoldNotific)) note.Done)
  | hold.Remote ↦ numbered next (λ n. hold_requesting (with_holder l (holder.RemoteRequested n)) (request_on at carrier.Facility operation.RemoteHold n 0 0) timer.HoldT1)
]

-- hold is for an active leg where neither end holds or asked to; a transfer under way does not matter
abbrev pub holding : Leg → Place → HoldKind → Option ℕ → Result Reaction Refusal
holding l at k next =
    cond (in_use l)
    (cond (is_active l) (cond (is_unheld l) (holding_by l at k next) (Err refusal.HoldNotIdle)) (Err refusal.NotActive))
    (Err refusal.LegFree)

-- retrieve: by what this end holds
abbrev pub retrieving : Leg → Place → Option ℕ → Result Reaction Refusal
retrieving l at next =
    cond (in_use l)
    (elim l.holder [
      | holder.Idle ↦ Err refusal.WrongState
      | holder.NearHolding ↦ Ok (acting (with_holder l holder.Idle) (Some (notice_on at operation.RetrieveNotific)) note.Done)
      | holder.RemoteRequested _ ↦ Err refusal.WrongState
      | holder.RemoteHolding ↦ numbered next (λ n. hold_requesting (with_holder l (holder.RetrieveRequested n)) (request_on at carrier.Facility operation.RemoteRetrieve n 0 0) timer.HoldT2)
      | holder.RetrieveRequested _ ↦ Err refusal.WrongState
    ])
    (Err refusal.LegFree)
