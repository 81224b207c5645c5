-- What a leg's record says.
use Rattle.std.specs.Prelude.{ℕ, Bool, true, false, ◌&&◌, Some, None, is_none, Option}
use Rattle.message.specs.declared.codes.Operation.{Operation}
use Rattle.message.specs.declared.codes.Operation.TheVariants as operation
use Rattle.leg.specs.declared.place.Place.{Place}
use Rattle.leg.specs.declared.record.Owed.{Owed}
use Rattle.leg.specs.declared.record.Request.{Request}
use Rattle.leg.specs.declared.record.Phase.{Phase}
use Rattle.leg.specs.declared.record.Phase.TheVariants as phase
use Rattle.leg.specs.declared.record.Bond.{Bond}
use Rattle.leg.specs.declared.record.Bond.TheVariants as bond
use Rattle.leg.specs.declared.record.Transfer.{Transfer}
use Rattle.leg.specs.declared.record.Transfer.TheVariants as transfer
use Rattle.leg.specs.declared.record.Holder.{Holder}
use Rattle.leg.specs.declared.record.Holder.TheVariants as holder
use Rattle.leg.specs.declared.record.HoldKind.{HoldKind}
use Rattle.leg.specs.declared.record.HoldKind.TheVariants as hold
use Rattle.leg.specs.declared.record.Leg.{Leg}

-- a leg that serves no call
abbrev pub free_leg : Leg
free_leg = record { phase = phase.Free; peer = 0; transfer = transfer.Idle; holder = holder.Idle; held = None }

-- a leg with this peer, and no transfer or hold
abbrev pub active_leg : ℕ → Leg
active_leg q = record { phase = phase.Active; peer = q; transfer = transfer.Idle; holder = holder.Idle; held = None }

-- a leg that calls this peer on behalf of the primary
abbrev pub calling_leg : ℕ → ℕ → Place → Leg
calling_leg q n p = record { phase = phase.Calling; peer = q; transfer = transfer.AwaitSetupResponse n p; holder = holder.Idle; held = None }

abbrev pub in_use : Leg → Bool
in_use l = elim l.phase [ phase.Free ↦ false | phase.Calling ↦ true | phase.Ringing _ ↦ true | phase.Alerting ↦ true | phase.Active ↦ true ]

abbrev pub is_active : Leg → Bool
is_active l = elim l.phase [ phase.Free ↦ false | phase.Calling ↦ false | phase.Ringing _ ↦ false | phase.Alerting ↦ false | phase.Active ↦ true ]

abbrev pub is_alerting : Leg → Bool
is_alerting l = elim l.phase [ phase.Free ↦ false | phase.Calling ↦ false | phase.Ringing _ ↦ false | phase.Alerting ↦ true | phase.Active ↦ false ]

-- One case of a leg's phase, transfer or holder state, with what it carries, and another answer for all other cases.
module _ {A : Type 0} where
  abbrev pub when_ringing : Phase → (Owed → A) → A → A
  when_ringing p f other = elim p [ phase.Free ↦ other | phase.Calling ↦ other | phase.Ringing o ↦ f o | phase.Alerting ↦ other | phase.Active ↦ other ]

  abbrev pub when_idle : Transfer → A → A → A
  when_idle t x other = elim t [
    | transfer.Idle ↦ x
    | transfer.AwaitIdentify _ _ ↦ other
    | transfer.AwaitInitiate _ _ ↦ other
    | transfer.AwaitSetupResponse _ _ ↦ other
    | transfer.AwaitSetup ↦ other
    | transfer.Asked _ ↦ other
    | transfer.Bound _ ↦ other
  ]

  abbrev pub when_await_identify : Transfer → (ℕ → Place → A) → A → A
  when_await_identify t f other = elim t [
    | transfer.Idle ↦ other
    | transfer.AwaitIdentify n p ↦ f n p
    | transfer.AwaitInitiate _ _ ↦ other
    | transfer.AwaitSetupResponse _ _ ↦ other
    | transfer.AwaitSetup ↦ other
    | transfer.Asked _ ↦ other
    | transfer.Bound _ ↦ other
  ]

  abbrev pub when_await_initiate : Transfer → (ℕ → Option Place → A) → A → A
  when_await_initiate t f other = elim t [
    | transfer.Idle ↦ other
    | transfer.AwaitIdentify _ _ ↦ other
    | transfer.AwaitInitiate n s ↦ f n s
    | transfer.AwaitSetupResponse _ _ ↦ other
    | transfer.AwaitSetup ↦ other
    | transfer.Asked _ ↦ other
    | transfer.Bound _ ↦ other
  ]

  abbrev pub when_await_setup_response : Transfer → (ℕ → Place → A) → A → A
  when_await_setup_response t f other = elim t [
    | transfer.Idle ↦ other
    | transfer.AwaitIdentify _ _ ↦ other
    | transfer.AwaitInitiate _ _ ↦ other
    | transfer.AwaitSetupResponse n p ↦ f n p
    | transfer.AwaitSetup ↦ other
    | transfer.Asked _ ↦ other
    | transfer.Bound _ ↦ other
  ]

  abbrev pub when_await_setup : Transfer → A → A → A
  when_await_setup t x other = elim t [
    | transfer.Idle ↦ other
    | transfer.AwaitIdentify _ _ ↦ other
    | transfer.AwaitInitiate _ _ ↦ other
    | transfer.AwaitSetupResponse _ _ ↦ other
    | transfer.AwaitSetup ↦ x
    | transfer.Asked _ ↦ other
    | transfer.Bound _ ↦ other
  ]

  abbrev pub when_asked : Transfer → (Owed → A) → A → A
  when_asked t f other = elim t [
    | transfer.Idle ↦ other
    | transfer.AwaitIdentify _ _ ↦ other
    | transfer.AwaitInitiate _ _ ↦ other
    | transfer.AwaitSetupResponse _ _ ↦ other
    | transfer.AwaitSetup ↦ other
    | transfer.Asked o ↦ f o
    | transfer.Bound _ ↦ other
  ]

  abbrev pub when_bound : Transfer → (Bond → A) → A → A
  when_bound t f other = elim t [
    | transfer.Idle ↦ other
    | transfer.AwaitIdentify _ _ ↦ other
    | transfer.AwaitInitiate _ _ ↦ other
    | transfer.AwaitSetupResponse _ _ ↦ other
    | transfer.AwaitSetup ↦ other
    | transfer.Asked _ ↦ other
    | transfer.Bound b ↦ f b
  ]

  abbrev pub when_hold_requested : Holder → (ℕ → A) → A → A
  when_hold_requested h f other = elim h [ holder.Idle ↦ other | holder.NearHolding ↦ other | holder.RemoteRequested n ↦ f n | holder.RemoteHolding ↦ other | holder.RetrieveRequested _ ↦ other ]

  abbrev pub when_retrieve_requested : Holder → (ℕ → A) → A → A
  when_retrieve_requested h f other = elim h [ holder.Idle ↦ other | holder.NearHolding ↦ other | holder.RemoteRequested _ ↦ other | holder.RemoteHolding ↦ other | holder.RetrieveRequested n ↦ f n ]

abbrev pub is_idle : Leg → Bool
is_idle l = when_idle l.transfer true false

abbrev pub is_awaiting_setup : Leg → Bool
is_awaiting_setup l = when_await_setup l.transfer true false

-- this end does not hold, and asked for no hold
abbrev pub holds_none : Leg → Bool
holds_none l = elim l.holder [ holder.Idle ↦ true | holder.NearHolding ↦ false | holder.RemoteRequested _ ↦ false | holder.RemoteHolding ↦ false | holder.RetrieveRequested _ ↦ false ]

-- this end is not held
abbrev pub is_held_not : Leg → Bool
is_held_not l = is_none l.held

abbrev pub is_held_near : Leg → Bool
is_held_near l = elim l.held [ None ↦ false | Some k ↦ elim k [ hold.Near ↦ true | hold.Remote ↦ false ] ]

abbrev pub is_held_remote : Leg → Bool
is_held_remote l = elim l.held [ None ↦ false | Some k ↦ elim k [ hold.Near ↦ false | hold.Remote ↦ true ] ]

-- nobody holds
abbrev pub is_unheld : Leg → Bool
is_unheld l = holds_none l && is_held_not l

abbrev pub request_of : Operation → ℕ → Option Request
request_of o n = Some (record { operation = o; number = n })

-- the open request on the leg's transfer timer
abbrev pub transfer_request : Leg → Option Request
transfer_request l = elim l.transfer [
  | transfer.Idle ↦ None
  | transfer.AwaitIdentify n _ ↦ request_of operation.CallTransferIdentify n
  | transfer.AwaitInitiate n _ ↦ request_of operation.CallTransferInitiate n
  | transfer.AwaitSetupResponse n _ ↦ request_of operation.CallTransferSetup n
  | transfer.AwaitSetup ↦ None
  | transfer.Asked _ ↦ None
  | transfer.Bound _ ↦ None
]

-- the open request on the leg's hold timer
abbrev pub hold_request : Leg → Option Request
hold_request l = elim l.holder [
  | holder.Idle ↦ None
  | holder.NearHolding ↦ None
  | holder.RemoteRequested n ↦ request_of operation.RemoteHold n
  | holder.RemoteHolding ↦ None
  | holder.RetrieveRequested n ↦ request_of operation.RemoteRetrieve n
]

abbrev pub bond_owed : Bond → Option Owed
bond_owed b = elim b [ bond.Consulting _ ↦ None | bond.Consulted _ ↦ None | bond.Placing _ o ↦ Some o ]

abbrev pub transfer_owed : Transfer → Option Owed
transfer_owed t = elim t [
  | transfer.Idle ↦ None
  | transfer.AwaitIdentify _ _ ↦ None
  | transfer.AwaitInitiate _ _ ↦ None
  | transfer.AwaitSetupResponse _ _ ↦ None
  | transfer.AwaitSetup ↦ None
  | transfer.Asked o ↦ Some o
  | transfer.Bound b ↦ bond_owed b
]

-- the invoke that was heard on this leg and is not answered yet
abbrev pub owed_by : Leg → Option Owed
owed_by l = when_ringing l.phase (λ o. Some o) (transfer_owed l.transfer)

abbrev pub bond_partner : Bond → Place
bond_partner b = elim b [ bond.Consulting s ↦ s | bond.Consulted p ↦ p | bond.Placing n _ ↦ n ]

abbrev pub partner_of : Leg → Option Place
partner_of l = elim l.transfer [
  | transfer.Idle ↦ None
  | transfer.AwaitIdentify _ p ↦ Some p
  | transfer.AwaitInitiate _ s ↦ s
  | transfer.AwaitSetupResponse _ p ↦ Some p
  | transfer.AwaitSetup ↦ None
  | transfer.Asked _ ↦ None
  | transfer.Bound b ↦ Some (bond_partner b)
]

abbrev pub with_phase : Leg → Phase → Leg
with_phase l p = record { phase = p; peer = l.peer; transfer = l.transfer; holder = l.holder; held = l.held }

abbrev pub with_transfer : Leg → Transfer → Leg
with_transfer l t = record { phase = l.phase; peer = l.peer; transfer = t; holder = l.holder; held = l.held }

abbrev pub with_holder : Leg → Holder → Leg
with_holder l h = record { phase = l.phase; peer = l.peer; transfer = l.transfer; holder = h; held = l.held }

abbrev pub with_held : Leg → Option HoldKind → Leg
with_held l h = record { phase = l.phase; peer = l.peer; transfer = l.transfer; holder = l.holder; held = h }
