-- What a leg does at a word of another leg.
use Rattle.std.specs.Prelude.{ℕ, Some, None, Ok, Option, Result}
use Rattle.message.specs.declared.codes.Carrier.TheVariants as carrier
use Rattle.message.specs.declared.codes.Operation.TheVariants as operation
use Rattle.message.specs.declared.codes.ErrorCode.TheVariants as error
use Rattle.message.specs.declared.record.Message.{Message}
use Rattle.leg.specs.declared.place.Place.{Place}
use Rattle.leg.specs.declared.codes.Cause.TheVariants as cause
use Rattle.leg.specs.declared.codes.Note.TheVariants as note
use Rattle.leg.specs.declared.codes.Refusal.{Refusal}
use Rattle.leg.specs.declared.record.Bond.{Bond}
use Rattle.leg.specs.declared.record.Bond.TheVariants as bond
use Rattle.leg.specs.declared.record.Transfer.TheVariants as transfer
use Rattle.leg.specs.declared.record.Leg.{Leg}
use Rattle.leg.specs.declared.reaction.Word.{Word}
use Rattle.leg.specs.declared.reaction.Word.TheVariants as word
use Rattle.leg.specs.declared.reaction.Reaction.{Reaction}
use Rattle.leg.specs.Views.{when_asked, when_bound, with_transfer}
use Rattle.machine.specs.Messages.{release_on, notice_on, result_on, error_on}
use Rattle.machine.specs.Reactions.{acting, settling, leaving}
use Rattle.machine.specs.Calls.{initiating}

-- the record l, and nothing else
abbrev pub unmoved : Leg → Reaction
unmoved l = acting l None note.Done

-- back to idle, perhaps with a message
abbrev pub parting : Leg → Option Message → Reaction
parting l m = acting (with_transfer l transfer.Idle) m note.Done

-- the consulted far end gave its identity and address: the far end of this leg is asked to call there
abbrev pub bond_initiates : Leg → Place → ℕ → ℕ → Option ℕ → Bond → Result Reaction Refusal
bond_initiates l at i a next b = elim b [
  | bond.Consulting s ↦ initiating l at (Some s) i a next
  | bond.Consulted _ ↦ Ok (unmoved l)
  | bond.Placing _ _ ↦ Ok (unmoved l)
]

-- the call that was asked for has come about: that is answered by RELEASE COMPLETE, and the leg ends
abbrev pub bond_completes : Leg → Place → Bond → Reaction
bond_completes l at b = elim b [
  | bond.Consulting _ ↦ unmoved l
  | bond.Consulted _ ↦ unmoved l
  | bond.Placing _ o ↦ leaving l (Some (result_on at carrier.ReleaseComplete operation.CallTransferInitiate o.number)) None None
]

-- what a bound leg sends when its partner has ended
abbrev pub bond_sends : Place → Bond → Option Message
bond_sends at b = elim b [
  | bond.Consulting _ ↦ None
  | bond.Consulted _ ↦ Some (notice_on at operation.CallTransferAbandon)
  | bond.Placing _ o ↦ Some (error_on at carrier.Facility operation.CallTransferInitiate o.number error.EstablishmentFailure)
]

-- The partner has ended. A consulted leg is abandoned; an initiate goes on alone; a call on behalf of the partner is given up.
abbrev pub partner_lost : Leg → Place → Reaction
partner_lost l at = elim l.transfer [
  | transfer.Idle ↦ unmoved l
  | transfer.AwaitIdentify n _ ↦ settling (with_transfer l transfer.Idle) (Some (notice_on at operation.CallTransferAbandon)) n cause.Cleared None
  | transfer.AwaitInitiate n _ ↦ unmoved (with_transfer l (transfer.AwaitInitiate n None))
  | transfer.AwaitSetupResponse _ _ ↦ leaving l (Some (release_on at)) None None
  | transfer.AwaitSetup ↦ unmoved l
  | transfer.Asked _ ↦ unmoved l
  | transfer.Bound b ↦ parting l (bond_sends at b)
]

-- By word: bound, asked to initiate, parted, abandoned, done, met by its set-up, or left by its partner.
abbrev pub told_word : Leg → Place → Word → Option ℕ → Result Reaction Refusal
told_word l at w next = elim w [
  | word.Consult s ↦ Ok (unmoved (with_transfer l (transfer.Bound (bond.Consulting s))))
  | word.Place n ↦ Ok (when_asked l.transfer (λ o. unmoved (with_transfer l (transfer.Bound (bond.Placing n o)))) (unmoved l))
  | word.Initiate i a ↦ when_bound l.transfer (bond_initiates l at i a next) (Ok (unmoved l))
  | word.Part ↦ Ok (parting l None)
  | word.Abandon ↦ Ok (parting l (Some (notice_on at operation.CallTransferAbandon)))
  | word.Complete ↦ Ok (when_bound l.transfer (bond_completes l at) (unmoved l))
  | word.Met ↦ Ok (leaving l (Some (release_on at)) None None)
  | word.Lost ↦ Ok (partner_lost l at)
]
