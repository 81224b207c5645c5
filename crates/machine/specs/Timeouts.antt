-- What a leg does when one of its timers runs out.
use Rattle.std.specs.Prelude.{Some, None}
use Rattle.message.specs.declared.codes.Operation.TheVariants as operation
use Rattle.leg.specs.declared.place.Place.{Place}
use Rattle.leg.specs.declared.codes.Cause.TheVariants as cause
use Rattle.leg.specs.declared.codes.Note.TheVariants as note
use Rattle.leg.specs.declared.record.Transfer.TheVariants as transfer
use Rattle.leg.specs.declared.record.Holder.TheVariants as holder
use Rattle.leg.specs.declared.record.Leg.{Leg}
use Rattle.leg.specs.declared.reaction.TimerChange.TheVariants as change
use Rattle.leg.specs.declared.reaction.UpToTwo.TheVariants as few
use Rattle.leg.specs.declared.reaction.Word.TheVariants as word
use Rattle.leg.specs.declared.reaction.Named.TheVariants as named
use Rattle.leg.specs.declared.reaction.Reaction.{Reaction}
use Rattle.leg.specs.Tells.{tell_leg}
use Rattle.leg.specs.Views.{with_transfer, with_holder}
use Rattle.machine.specs.Messages.{release_on, notice_on}
use Rattle.machine.specs.Reactions.{reaction, settling, hold_settling, unawaited, leaving, tell_to, tell_lost}
use Rattle.leg.specs.declared.reaction.Slot.{Slot}
use Rattle.leg.specs.declared.reaction.Slot.TheVariants as slot

-- a timer that nothing waits for only stops
abbrev pub expired : Leg → Slot → Reaction
expired l k = elim k [
  | slot.Transfer ↦ reaction l None few.Zero change.Stopped change.Kept None note.Done
  | slot.Hold ↦ reaction l None few.Zero change.Kept change.Stopped None note.Done
]

-- CT-T1: both legs are as before, and the far end is told not to wait. CT-T3: the same of the secondary. CT-T4: the call is given up. CT-T2: no set-up came.
abbrev pub transfer_timed_out : Leg → Place → Reaction
transfer_timed_out l at = elim l.transfer [
  | transfer.Idle ↦ expired l slot.Transfer
  | transfer.AwaitIdentify n p ↦ settling (with_transfer l transfer.Idle) (Some (notice_on at operation.CallTransferAbandon)) n cause.Timeout (tell_leg p word.Part)
  | transfer.AwaitInitiate n s ↦ settling (with_transfer l transfer.Idle) None n cause.Timeout (tell_to s word.Abandon)
  | transfer.AwaitSetupResponse n p ↦ leaving l (Some (release_on at)) (Some (named.Transfer cause.Timeout)) (tell_leg p word.Lost)
  | transfer.AwaitSetup ↦ unawaited l note.SetupLapsed
  | transfer.Asked _ ↦ expired l slot.Transfer
  | transfer.Bound _ ↦ expired l slot.Transfer
]

-- hold T1: no hold. hold T2: a held call that cannot be fetched back is released.
abbrev pub hold_timed_out : Leg → Place → Reaction
hold_timed_out l at = elim l.holder [
  | holder.Idle ↦ expired l slot.Hold
  | holder.NearHolding ↦ expired l slot.Hold
  | holder.RemoteRequested n ↦ hold_settling (with_holder l holder.Idle) n cause.Timeout
  | holder.RemoteHolding ↦ expired l slot.Hold
  | holder.RetrieveRequested n ↦ leaving l (Some (release_on at)) (Some (named.Hold cause.Timeout)) (tell_lost l)
]

-- by the timer that ran out
abbrev pub timed_out : Leg → Place → Slot → Reaction
timed_out l at k = elim k [ slot.Transfer ↦ transfer_timed_out l at | slot.Hold ↦ hold_timed_out l at ]
