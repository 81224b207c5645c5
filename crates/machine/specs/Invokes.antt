-- What a leg does with an invoke that it hears.
use Rattle.std.specs.Prelude.{ℕ, cond, ◌&&◌, Some, None, Ok, Err, Option, Result, ◌==◌}
use Rattle.message.specs.declared.codes.Carrier.TheVariants as carrier
use Rattle.message.specs.declared.codes.Operation.{Operation}
use Rattle.message.specs.declared.codes.Operation.TheVariants as operation
use Rattle.message.specs.declared.codes.ErrorCode.{ErrorCode}
use Rattle.message.specs.declared.codes.ErrorCode.TheVariants as error
use Rattle.message.specs.declared.record.Message.{Message}
use Rattle.leg.specs.declared.place.Place.{Place}
use Rattle.leg.specs.declared.codes.Note.TheVariants as note
use Rattle.leg.specs.declared.codes.Refusal.{Refusal}
use Rattle.leg.specs.declared.codes.Refusal.TheVariants as refusal
use Rattle.leg.specs.declared.record.Owed.{Owed}
use Rattle.leg.specs.declared.record.Phase.TheVariants as phase
use Rattle.leg.specs.declared.record.Transfer.TheVariants as transfer
use Rattle.leg.specs.declared.record.Holder.TheVariants as holder
use Rattle.leg.specs.declared.record.HoldKind.TheVariants as hold
use Rattle.leg.specs.declared.record.Leg.{Leg}
use Rattle.leg.specs.declared.reaction.Timer.TheVariants as timer
use Rattle.leg.specs.declared.reaction.TimerChange.TheVariants as change
use Rattle.leg.specs.declared.reaction.UpToTwo.TheVariants as few
use Rattle.leg.specs.declared.reaction.Word.TheVariants as word
use Rattle.leg.specs.declared.reaction.Reaction.{Reaction}
use Rattle.leg.specs.Tells.{tell_leg}
use Rattle.leg.specs.Views.{active_leg, in_use, is_active, is_idle, is_awaiting_setup, holds_none, is_held_near, is_held_remote, is_unheld, with_transfer, with_held}
use Rattle.machine.specs.Messages.{result_on, identity_on, error_on}
use Rattle.machine.specs.Reactions.{reaction, acting, strayed, unawaited}

-- the invoke is answered by an error, and nothing changes
abbrev pub failed : Leg → Place → Operation → ℕ → ErrorCode → Reaction
failed l at o n e = acting l (Some (error_on at carrier.Facility o n e)) note.Done

-- identify: the answer is an identity, and the set-up that names it is awaited
abbrev pub identified : Leg → Place → ℕ → ℕ → Reaction
identified l at n own =
    reaction (with_transfer l transfer.AwaitSetup) (Some (identity_on at n own)) few.Zero (change.Set timer.CtT2) change.Kept None note.Done

-- what is owed for an invoke until it is answered
abbrev pub owed_for : Message → Owed
owed_for m = record { number = m.number; identity = m.identity; address = m.address }

-- By operation, heard by FACILITY on a leg in use. A confirmed invoke is always answered, but for an initiate that is taken up: the host decides on that.
abbrev pub invoked : Leg → Place → ℕ → Operation → Message → Reaction
invoked l at own o m = elim o [
  | operation.CallTransferIdentify ↦
      cond (is_active l && is_idle l) (identified l at m.number own) (failed l at operation.CallTransferIdentify m.number error.Unspecified)
  | operation.CallTransferAbandon ↦ cond (is_awaiting_setup l) (unawaited l note.Done) (strayed l)
  | operation.CallTransferInitiate ↦
      cond (is_active l && is_idle l) (acting (with_transfer l (transfer.Asked (owed_for m))) None (note.Asked m.address)) (failed l at operation.CallTransferInitiate m.number error.Unspecified)
  | operation.CallTransferSetup ↦ strayed l
  | operation.HoldNotific ↦ cond (is_active l && is_unheld l) (acting (with_held l (Some hold.Near)) None note.Held) (strayed l)
  | operation.RetrieveNotific ↦ cond (is_held_near l) (acting (with_held l None) None note.Retrieved) (strayed l)
  | operation.RemoteHold ↦
      cond (is_active l && is_unheld l) (acting (with_held l (Some hold.Remote)) (Some (result_on at carrier.Facility operation.RemoteHold m.number)) note.Held)
      (failed l at operation.RemoteHold m.number (cond (holds_none l) error.InvalidCallState error.SupplementaryServiceInteractionNotAllowed))
  | operation.RemoteRetrieve ↦
      cond (is_held_remote l) (acting (with_held l None) (Some (result_on at carrier.Facility operation.RemoteRetrieve m.number)) note.Retrieved)
      (failed l at operation.RemoteRetrieve m.number error.InvalidCallState)
]

-- a leg that rings, and owes the answer to this SETUP
abbrev pub ringing_leg : Message → Leg
ringing_leg m = record { phase = phase.Ringing (owed_for m); peer = m.address; transfer = transfer.Idle; holder = holder.Idle; held = None }

-- A SETUP: without identity the leg rings; with the identity of a leg that awaits it, the call is connected and takes that leg's place; with any other it fails.
abbrev pub set_up : Leg → Place → Message → Option Place → Result Reaction Refusal
set_up l at m met =
    cond (in_use l) (Err refusal.LegInUse)
    (Ok (cond (m.identity == 0) (acting (ringing_leg m) None note.Ringing)
    (elim met [
      | None ↦ acting l (Some (error_on at carrier.ReleaseComplete operation.CallTransferSetup m.number error.UnrecognizedCallIdentity)) note.Done
      | Some s ↦ reaction (active_leg m.address) (Some (result_on at carrier.Connect operation.CallTransferSetup m.number)) few.Zero change.Kept change.Kept (tell_leg s word.Met) note.Done
    ])))
