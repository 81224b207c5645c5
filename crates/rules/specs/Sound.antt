-- Which records occur, which numbers they keep, and how two legs are tied to each other.
use Rattle.std.specs.Prelude.{◌≡◌, ℕ, Bool, true, false, Some, None, Option}
use Rattle.message.specs.declared.record.Message.{Message}
use Rattle.message.specs.Format.{Lawful}
use Rattle.message.specs.Ranges.{inside, span}
use Rattle.leg.specs.declared.place.Place.{Place}
use Rattle.leg.specs.declared.record.Owed.{Owed}
use Rattle.leg.specs.declared.record.Phase.{Phase}
use Rattle.leg.specs.declared.record.Phase.TheVariants as phase
use Rattle.leg.specs.declared.record.Bond.{Bond}
use Rattle.leg.specs.declared.record.Bond.TheVariants as bond
use Rattle.leg.specs.declared.record.Transfer.{Transfer}
use Rattle.leg.specs.declared.record.Transfer.TheVariants as transfer
use Rattle.leg.specs.declared.record.Holder.{Holder}
use Rattle.leg.specs.declared.record.Holder.TheVariants as holder
use Rattle.leg.specs.declared.record.HoldKind.{HoldKind}
use Rattle.leg.specs.declared.record.Leg.{Leg}
use Rattle.leg.specs.declared.reaction.Tell.{Tell}
use Rattle.leg.specs.Tells.{tell_leg}
use Rattle.leg.specs.declared.reaction.UpToTwo.{UpToTwo}
use Rattle.leg.specs.declared.reaction.UpToTwo.TheVariants as few
use Rattle.leg.specs.declared.reaction.Word.{Word}
use Rattle.leg.specs.declared.reaction.Word.TheVariants as word
use Rattle.leg.specs.Views.{free_leg, calling_leg}

-- a number, an address or a peer: 1 to 65,535
abbrev pub InWord : ℕ → Type 0
InWord n = inside (span 1 65535) n ≡ true

-- an identity in an invoke: 0 to 9,999
abbrev pub InIdentity : ℕ → Type 0
InIdentity i = inside (span 0 9999) i ≡ true

-- the next request number, if one is left
abbrev pub NextInRange : Option ℕ → Type 0
NextInRange next = elim next [ None ↦ Unit {0} | Some n ↦ InWord n ]

-- what is kept of an invoke that is owed an answer
pub record OwedInRange (o : Owed) : Type 0 where
  pub number : InWord o.number
  pub identity : InIdentity o.identity
  pub address : InWord o.address

abbrev pub leg : Phase → ℕ → Transfer → Holder → Option HoldKind → Leg
leg ph q t h d = record { phase = ph; peer = q; transfer = t; holder = h; held = d }

pub data SoundBond : Bond → Type 0 where
  consulting : (s : Place) → SoundBond (bond.Consulting s)
  consulted : (p : Place) → SoundBond (bond.Consulted p)
  placing : (n : Place) (o : Owed) → OwedInRange o → SoundBond (bond.Placing n o)

-- the transfer states of an active leg: all but the one that awaits the answer to a set-up
pub data SoundTransfer : Transfer → Type 0 where
  idle : SoundTransfer transfer.Idle
  identify : (n : ℕ) (p : Place) → SoundTransfer (transfer.AwaitIdentify n p)
  initiate : (n : ℕ) (s : Option Place) → SoundTransfer (transfer.AwaitInitiate n s)
  setup : SoundTransfer transfer.AwaitSetup
  asked : (o : Owed) → OwedInRange o → SoundTransfer (transfer.Asked o)
  bound : (b : Bond) → SoundBond b → SoundTransfer (transfer.Bound b)

-- an end that holds is not held, and one that is held does not hold
pub data SoundHold : Holder → Option HoldKind → Type 0 where
  holds : (h : Holder) → SoundHold h None
  is_held : (d : Option HoldKind) → SoundHold holder.Idle d

-- The records that occur. A leg that calls awaits the answer to its set-up, and no other leg does; a leg that rings or alerts is otherwise idle; hold states stand on active legs only.
pub data Sound : Leg → Type 0 where
  free : Sound free_leg
  calling : (q n : ℕ) (p : Place) → InWord q → Sound (calling_leg q n p)
  ringing : (q : ℕ) (o : Owed) → InWord q → OwedInRange o → Sound (leg (phase.Ringing o) q transfer.Idle holder.Idle None)
  alerting : (q : ℕ) → InWord q → Sound (leg phase.Alerting q transfer.Idle holder.Idle None)
  active : (q : ℕ) (t : Transfer) (h : Holder) (d : Option HoldKind) → InWord q → SoundTransfer t → SoundHold h d → Sound (leg phase.Active q t h d)

-- How a leg is tied to its partner: the first three wait for a reply, the other three are bound to one that waits.
pub data Tie : Type 0 where
  identifies : Place → Tie
  initiates : Place → Tie
  sets_up : Place → Tie
  consulting : Place → Tie
  consulted : Place → Tie
  placing : Place → Tie

abbrev pub bond_tie : Bond → Tie
bond_tie b = elim b [ bond.Consulting s ↦ Tie.consulting s | bond.Consulted p ↦ Tie.consulted p | bond.Placing n _ ↦ Tie.placing n ]

abbrev pub secondary_tie : Option Place → Option Tie
secondary_tie o = elim o [ None ↦ None | Some s ↦ Some (initiates s) ]

abbrev pub transfer_tie : Transfer → Option Tie
transfer_tie t = elim t [
  | transfer.Idle ↦ None
  | transfer.AwaitIdentify _ p ↦ Some (identifies p)
  | transfer.AwaitInitiate _ s ↦ secondary_tie s
  | transfer.AwaitSetupResponse _ p ↦ Some (sets_up p)
  | transfer.AwaitSetup ↦ None
  | transfer.Asked _ ↦ None
  | transfer.Bound b ↦ Some (bond_tie b)
]

abbrev pub tie_of : Leg → Option Tie
tie_of l = transfer_tie l.transfer

abbrev pub tied_to : Tie → Place
tied_to (identifies p) = p
tied_to (initiates s) = s
tied_to (sets_up p) = p
tied_to (Tie.consulting s) = s
tied_to (Tie.consulted p) = p
tied_to (Tie.placing n) = n

-- the tie that the partner has in turn, to the leg at this place
abbrev pub returned : Tie → Place → Tie
returned (identifies _) at = Tie.consulting at
returned (initiates _) at = Tie.consulted at
returned (sets_up _) at = Tie.placing at
returned (Tie.consulting _) at = identifies at
returned (Tie.consulted _) at = initiates at
returned (Tie.placing _) at = sets_up at

-- What a leg may have another do, by its tie before and after. A leg that tells nobody keeps its tie. Its partner is told by what the tie is; which other legs may be told something is for the board to say.
pub data Tells (Other : Place → Word → Bool) (at : Place) : Option Tie → Option Tell → Option Tie → Type 0 where
  keeps : (t : Option Tie) → Tells Other at t None t
  consults : (p : Place) → (Other p (word.Consult at) ≡ true) → Tells Other at None (tell_leg p (word.Consult at)) (Some (identifies p))
  places : (p : Place) → (Other p (word.Place at) ≡ true) → Tells Other at None (tell_leg p (word.Place at)) (Some (sets_up p))
  meets : (s : Place) → (Other s word.Met ≡ true) → Tells Other at None (tell_leg s word.Met) None
  hands : (p : Place) (i a : ℕ) → InIdentity i → InWord a → Tells Other at (Some (identifies p)) (tell_leg p (word.Initiate i a)) (Some (Tie.consulted p))
  parts : (p : Place) → Tells Other at (Some (identifies p)) (tell_leg p word.Part) None
  releases : (s : Place) → Tells Other at (Some (initiates s)) (tell_leg s word.Part) None
  abandons : (s : Place) → Tells Other at (Some (initiates s)) (tell_leg s word.Abandon) None
  completes : (p : Place) → Tells Other at (Some (sets_up p)) (tell_leg p word.Complete) None
  loses : (t : Tie) → Tells Other at (Some t) (tell_leg (tied_to t) word.Lost) None

-- a leg that is bound to one that asks or calls leaves the end of that request to it
abbrev pub tie_ends : Option Tie → Bool
tie_ends None = false
tie_ends (Some (identifies _)) = false
tie_ends (Some (initiates _)) = false
tie_ends (Some (sets_up _)) = false
tie_ends (Some (Tie.consulting _)) = true
tie_ends (Some (Tie.consulted _)) = false
tie_ends (Some (Tie.placing _)) = true

-- whether the leg that is told may name an end of its own
abbrev pub end_follows : Option Tie → Option Tell → Bool
end_follows t w = elim w [
  | None ↦ false
  | Some v ↦ elim v.word [
    | word.Consult _ ↦ false
    | word.Place _ ↦ false
    | word.Initiate _ _ ↦ false
    | word.Part ↦ false
    | word.Abandon ↦ false
    | word.Complete ↦ true
    | word.Met ↦ true
    | word.Lost ↦ tie_ends t
  ]
]

module _ {A : Type 0} where
  abbrev pub is_two : UpToTwo A → Bool
  is_two x = elim x [ few.Zero ↦ false | few.One _ ↦ false | few.Two _ _ ↦ true ]

-- what is sent, if anything is, is lawful
abbrev pub LawfulIf : Option Message → Type 0
LawfulIf o = elim o [ None ↦ Unit {0} | Some m ↦ Lawful m ]
