-- A word of another leg leaves a leg sound; and the law as a whole.
use Rattle.std.proofs.Common.{Ok, ◌≡◌, ℕ, true, Some, None, Option, refl, subst}
use Rattle.message.specs.declared.codes.Operation.TheVariants as operation
use Rattle.message.specs.declared.record.Message.{Message}
use Rattle.message.specs.Format.{Lawful}
use Rattle.leg.specs.declared.place.Place.{Place}
use Rattle.leg.specs.declared.record.Owed.{Owed}
use Rattle.leg.specs.declared.record.Bond.{Bond}
use Rattle.leg.specs.declared.record.Bond.TheVariants as bond
use Rattle.leg.specs.declared.record.Transfer.TheVariants as transfer
use Rattle.leg.specs.declared.record.Leg.{Leg}
use Rattle.leg.specs.declared.reaction.Reaction.{Reaction}
use Rattle.leg.specs.declared.reaction.Word.TheVariants as word
use Rattle.leg.specs.Views.{is_active, with_transfer, when_asked, when_bound}
use Rattle.machine.specs.Messages.{notice_on}
use Rattle.rules.specs.Sound.{InWord, InIdentity, NextInRange, OwedInRange, Sound, free, calling, active, idle, identify, initiate, asked, bound, SoundBond, LawfulIf}
use Rattle.rules.specs.Events.{FineTold, FineToldIf}
use Rattle.rules.proofs.Sends.{release_lawful, request_lawful, result_lawful, error_lawful}
use Rattle.machine.specs.Told.{unmoved, parting, bond_initiates, bond_completes, bond_sends, partner_lost}
use Rattle.machine.specs.declared.event.Event.TheVariants as event
use Rattle.rules.specs.Events.{LegStaysSound, ToldStaysSound}
use Rattle.rules.proofs.Reacts.{opening_fine, clearing_fine, transferring_fine, identifying_fine, placing_fine, accepting_fine, declining_fine, holding_fine, retrieving_fine, timed_out_fine}
use Rattle.rules.proofs.Hears.{heard_on_fine, set_up_fine}

pub stays_sound : LegStaysSound
stays_sound Other l at own next (event.Open q) S W N R = opening_fine Other at q S R
stays_sound Other l at own next event.Clear S W N R = clearing_fine Other at l
stays_sound Other l at own next (event.Transfer a) S W N R = transferring_fine Other at a next S R N
stays_sound Other l at own next (event.Identify p) S W N R = identifying_fine Other at p next S R.0 R.1 R.2 N
stays_sound Other l at own next (event.SetUp p o) S W N R = placing_fine Other at p o own next S R.0 R.1 R.2 W N
stays_sound Other l at own next event.Accept S W N R = accepting_fine Other at S
stays_sound Other l at own next event.Decline S W N R = declining_fine Other at S
stays_sound Other l at own next (event.Hold k) S W N R = holding_fine Other at k next S N
stays_sound Other l at own next event.Retrieve S W N R = retrieving_fine Other at next S N
stays_sound Other l at own next (event.Hear m) S W N R = heard_on_fine l own m S W R
stays_sound Other l at own next (event.Meet m s) S W N R = set_up_fine Other at m s S R.0 R.1 R.2
stays_sound Other l at own next (event.RunOut k) S W N R = timed_out_fine Other at k S

told_fine : {r : Reaction} → Sound r.leg → LawfulIf r.sent → r.tell ≡ None → FineTold r
told_fine S L e = record { sound = S; lawful = L; nobody = e }

unmoved_fine : {l : Leg} → Sound l → FineTold (unmoved l)
unmoved_fine S = told_fine S tt refl

pub abandon_lawful : (at : Place) → Lawful (notice_on at operation.CallTransferAbandon)
abandon_lawful at = request_lawful at refl refl refl refl

pub parting_fine : {l : Leg} {m : Option Message} → Sound l → is_active l ≡ true → LawfulIf m → FineTold (parting l m)
parting_fine (active q _ h d Q T H) e L = told_fine (active q _ h d Q idle H) L refl
parting_fine _ e L = cc

told_consult : {l : Leg} (s : Place) → Sound l → is_active l ≡ true → FineTold (unmoved (with_transfer l (transfer.Bound (bond.Consulting s))))
told_consult s (active q _ h d Q T H) e = unmoved_fine (active q _ h d Q (bound _ (SoundBond.consulting s)) H)
told_consult s _ e = cc

told_place : {l : Leg} (n : Place) → Sound l → FineTold (when_asked l.transfer (λ o. unmoved (with_transfer l (transfer.Bound (bond.Placing n o)))) (unmoved l))
told_place n (active q _ h d Q (asked o O) H) = unmoved_fine (active q _ h d Q (bound _ (SoundBond.placing n o O)) H)
told_place n S = unmoved_fine S

told_initiate : {l : Leg} (at : Place) (i a : ℕ) (next : Option ℕ) → Sound l → InIdentity i → InWord a → NextInRange next → FineToldIf (when_bound l.transfer (bond_initiates l at i a next) (Ok (unmoved l)))
told_initiate at i a None (active q _ h d Q (bound _ (SoundBond.consulting s)) H) I A N = tt
told_initiate at i a (Some n) (active q _ h d Q (bound _ (SoundBond.consulting s)) H) I A N =
    told_fine (active q _ h d Q (initiate n (Some s)) H) (request_lawful at refl N I A) refl
told_initiate at i a next S I A N = unmoved_fine S

told_complete : {l : Leg} (at : Place) → Sound l → FineTold (when_bound l.transfer (bond_completes l at) (unmoved l))
told_complete at (active q _ h d Q (bound _ (SoundBond.placing n o O)) H) = told_fine free (result_lawful at refl O.number refl refl) refl
told_complete at S = unmoved_fine S

bond_sends_lem : (at : Place) (b : Bond) → SoundBond b → LawfulIf (bond_sends at b)
bond_sends_lem at _ (SoundBond.consulting s) = tt
bond_sends_lem at _ (SoundBond.consulted p) = abandon_lawful at
bond_sends_lem at _ (SoundBond.placing n o O) = error_lawful at refl O.number refl refl

lost_partner : (at : Place) (l : Leg) → Sound l → FineTold (partner_lost l at)
lost_partner at _ (calling q n p Q) = told_fine free (release_lawful at) refl
lost_partner at _ (active q _ h d Q (identify n p) H) = told_fine (active q _ h d Q idle H) (abandon_lawful at) refl
lost_partner at _ (active q _ h d Q (initiate n s) H) = unmoved_fine (active q _ h d Q (initiate n None) H)
lost_partner at _ (active q _ h d Q (bound b B) H) = told_fine (active q _ h d Q idle H) (bond_sends_lem at b B) refl
lost_partner at _ S = unmoved_fine S

-- what a leg that is asked keeps is in range
pub asked_in : (l : Leg) → Sound l → (o : Owed) → l.transfer ≡ transfer.Asked o → OwedInRange o
asked_in _ (active q _ h d Q (asked x O) H) o e = let same : x ≡ o = cc in subst OwedInRange same O
asked_in _ _ o e = cc

pub told_stays_sound : ToldStaysSound
told_stays_sound l at (word.Consult s) next S N R = told_consult s S R
told_stays_sound l at (word.Place n) next S N R = told_place n S
told_stays_sound l at (word.Initiate i a) next S N R = told_initiate at i a next S R.0 R.1 N
told_stays_sound l at word.Part next S N R = parting_fine S R tt
told_stays_sound l at word.Abandon next S N R = parting_fine S R (abandon_lawful at)
told_stays_sound l at word.Complete next S N R = told_complete at S
told_stays_sound l at word.Met next S N R = told_fine free (release_lawful at) refl
told_stays_sound l at word.Lost next S N R = lost_partner at l S
