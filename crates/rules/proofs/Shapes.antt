-- The shapes of reactions: what is to be shown of each.
use Rattle.std.proofs.Common.{◌≡◌, Bool, true, false, Some, None, Option, refl, arith}
use Rattle.message.specs.declared.record.Message.{Message}
use Rattle.leg.specs.declared.place.Place.{Place}
use Rattle.leg.specs.declared.record.Phase.TheVariants as phase
use Rattle.leg.specs.declared.record.Bond.TheVariants as bond
use Rattle.leg.specs.declared.record.Transfer.{Transfer}
use Rattle.leg.specs.declared.record.Transfer.TheVariants as transfer
use Rattle.leg.specs.declared.record.Holder.{Holder}
use Rattle.leg.specs.declared.record.Holder.TheVariants as holder
use Rattle.leg.specs.declared.record.Leg.{Leg}
use Rattle.leg.specs.declared.reaction.Tell.{Tell}
use Rattle.leg.specs.declared.reaction.Word.{Word}
use Rattle.leg.specs.declared.reaction.Word.TheVariants as word
use Rattle.leg.specs.declared.reaction.Slot.{Slot}
use Rattle.leg.specs.declared.reaction.Slot.TheVariants as slot
use Rattle.leg.specs.declared.reaction.Reaction.{Reaction}
use Rattle.leg.specs.declared.reaction.Named.{Named}
use Rattle.leg.specs.declared.codes.Note.{Note}
use Rattle.leg.specs.Views.{partner_of}
use Rattle.machine.specs.Reactions.{last_ends, tell_to, acting, strayed, leaving, tell_lost}
use Rattle.machine.specs.Timeouts.{expired}
use Rattle.rules.specs.Sound.{end_follows, is_two, leg, transfer_tie, secondary_tie, releases, abandons, Sound, free, Tie, tie_of, Tells, keeps, loses, LawfulIf}
use Rattle.rules.specs.Events.{Fine}

-- where the partner of a leg that ends may name an end, this leg names one at most
lost_few : (t : Transfer) (h : Holder) (k : Option Named) → end_follows (transfer_tie t) (tell_to (partner_of (leg phase.Free 0 t h None)) word.Lost) ≡ true → is_two (last_ends (leg phase.Free 0 t h None) k) ≡ false
lost_few t h k e = grind arith

-- a secondary that parts names no end
pub part_few : (t : Option Tie) (s : Option Place) → end_follows t (tell_to s word.Part) ≡ false
part_few t s = grind arith

module _ {Other : Place → Word → Bool} {at : Place} where
  -- a reaction that names one end at most
  pub fine : {l : Leg} {r : Reaction} → Sound r.leg → LawfulIf r.sent → Tells Other at (tie_of l) r.tell (tie_of r.leg) → is_two r.ends ≡ false → Fine Other at l r
  fine S L T e = record { sound = S; lawful = L; tells = T; few = λ _. e }

  pub acting_fine : {l k : Leg} {m : Option Message} {n : Note} → Sound k → LawfulIf m → tie_of k ≡ tie_of l → Fine Other at l (acting k m n)
  acting_fine S L e = fine S L (rw e (keeps _)) refl

  pub strayed_fine : {l : Leg} → Sound l → Fine Other at l (strayed l)
  strayed_fine S = acting_fine S tt refl

  -- the partner of a leg that ends is told so
  lost_tells : (t : Transfer) → Tells Other at (transfer_tie t) (tell_to (partner_of (leg phase.Free 0 t holder.Idle None)) word.Lost) None
  lost_tells (transfer.AwaitIdentify _ p) = loses (Tie.identifies p)
  lost_tells (transfer.AwaitInitiate _ (Some s)) = loses (Tie.initiates s)
  lost_tells (transfer.AwaitSetupResponse _ p) = loses (Tie.sets_up p)
  lost_tells (transfer.Bound (bond.Consulting s)) = loses (Tie.consulting s)
  lost_tells (transfer.Bound (bond.Consulted p)) = loses (Tie.consulted p)
  lost_tells (transfer.Bound (bond.Placing n _)) = loses (Tie.placing n)
  lost_tells _ = keeps None

  pub leaving_fine : {l : Leg} {m : Option Message} {w : Option Tell} (k : Option Named) → LawfulIf m → Tells Other at (tie_of l) w None → end_follows (tie_of l) w ≡ false → Fine Other at l (leaving l m k w)
  leaving_fine k L T f = record { sound = free; lawful = L; tells = T; few = λ e. cc }

  pub lost_fine : {l : Leg} {m : Option Message} (k : Option Named) → LawfulIf m → Fine Other at l (leaving l m k (tell_lost l))
  lost_fine {l = l} k L = record { sound = free; lawful = L; tells = lost_tells l.transfer; few = lost_few l.transfer l.holder k }

  -- the secondary of an initiate, if there is one, parts with it or is abandoned
  pub part_tells : (s : Option Place) → Tells Other at (secondary_tie s) (tell_to s word.Part) None
  part_tells None = keeps None
  part_tells (Some s) = releases s

  pub abandon_tells : (s : Option Place) → Tells Other at (secondary_tie s) (tell_to s word.Abandon) None
  abandon_tells None = keeps None
  abandon_tells (Some s) = abandons s

  pub expired_fine : {l : Leg} (k : Slot) → Sound l → Fine Other at l (expired l k)
  expired_fine slot.Transfer S = fine S tt (keeps _) refl
  expired_fine _ S = fine S tt (keeps _) refl
