-- What a tie says of the transfer state.
use Rattle.std.proofs.Common.{◌≡◌, ℕ, Some, arith}
use Rattle.leg.specs.declared.place.Place.{Place}
use Rattle.leg.specs.declared.record.Owed.{Owed}
use Rattle.leg.specs.declared.record.Bond.TheVariants as bond
use Rattle.leg.specs.declared.record.Transfer.{Transfer}
use Rattle.leg.specs.declared.record.Transfer.TheVariants as transfer
use Rattle.rules.specs.Sound.{Tie, identifies, initiates, sets_up, transfer_tie}

-- the transfer state that makes a tie, with what the tie does not say
pub data Makes : Tie → Transfer → Type 0 where
  identify : (n : ℕ) (p : Place) → Makes (identifies p) (transfer.AwaitIdentify n p)
  initiate : (n : ℕ) (s : Place) → Makes (initiates s) (transfer.AwaitInitiate n (Some s))
  response : (n : ℕ) (p : Place) → Makes (sets_up p) (transfer.AwaitSetupResponse n p)
  consulting : (s : Place) → Makes (Tie.consulting s) (transfer.Bound (bond.Consulting s))
  consulted : (p : Place) → Makes (Tie.consulted p) (transfer.Bound (bond.Consulted p))
  placing : (n : Place) (o : Owed) → Makes (Tie.placing n) (transfer.Bound (bond.Placing n o))

pub makes : (u : Transfer) (t : Tie) → transfer_tie u ≡ Some t → Makes t u
makes u t e = grind (arith, identify, initiate, response, consulting, consulted, placing)
