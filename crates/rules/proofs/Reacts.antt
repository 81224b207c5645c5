-- The calls of the host, and timers that run out, leave a leg sound.
use Rattle.std.proofs.Common.{◌≡◌, ℕ, Bool, true, false, Some, None, Option, refl}
use Rattle.leg.specs.declared.place.Place.{Place}
use Rattle.leg.specs.declared.codes.Cause.TheVariants as cause
use Rattle.leg.specs.declared.record.Owed.{Owed}
use Rattle.leg.specs.declared.record.Holder.TheVariants as holder
use Rattle.leg.specs.declared.record.HoldKind.{HoldKind}
use Rattle.leg.specs.declared.record.HoldKind.TheVariants as hold
use Rattle.leg.specs.declared.record.Leg.{Leg}
use Rattle.leg.specs.declared.reaction.Slot.{Slot}
use Rattle.leg.specs.declared.reaction.Slot.TheVariants as slot
use Rattle.leg.specs.declared.reaction.Word.{Word}
use Rattle.leg.specs.declared.reaction.Word.TheVariants as word
use Rattle.leg.specs.declared.reaction.Named.TheVariants as named
use Rattle.leg.specs.declared.reaction.Reaction.{Reaction}
use Rattle.leg.specs.Views.{in_use, is_active, is_idle}
use Rattle.machine.specs.Calls.{numbered, opening, clearing, transferring, identifying, placing, accepting, declining, holding, retrieving}
use Rattle.rules.specs.Sound.{InWord, NextInRange, OwedInRange, Sound, free, calling, ringing, active, idle, identify, initiate, setup, asked, holds, Tie, keeps, consults, places, parts, loses}
use Rattle.rules.specs.Events.{Fine, FineIf}
use Rattle.rules.proofs.Sends.{release_lawful, request_lawful, result_lawful, error_lawful}
use Rattle.rules.proofs.Cases.{by_test}
use Rattle.rules.proofs.Shapes.{fine, acting_fine, leaving_fine, lost_fine, abandon_tells, expired_fine}
use Rattle.machine.specs.Timeouts.{transfer_timed_out, hold_timed_out, timed_out}

module _ (Other : Place → Word → Bool) (at : Place) where
  pub opening_fine : {l : Leg} (q : ℕ) → Sound l → InWord q → FineIf Other at l (opening l q)
  opening_fine q free Q = acting_fine (active q _ _ _ Q idle (holds _)) tt refl
  opening_fine q _ Q = tt

  pub clearing_fine : (l : Leg) → FineIf Other at l (clearing l at)
  clearing_fine l = by_test (FineIf Other at l) (in_use l) _ _ (λ _. lost_fine None (release_lawful at)) (λ _. tt)

  numbered_fine : (l : Leg) (next : Option ℕ) (f : ℕ → Reaction) → NextInRange next → ((n : ℕ) → InWord n → Fine Other at l (f n)) → FineIf Other at l (numbered next f)
  numbered_fine l None f N g = tt
  numbered_fine l (Some n) f N g = g n N

  pub transferring_fine : {l : Leg} (a : ℕ) (next : Option ℕ) → Sound l → InWord a → NextInRange next → FineIf Other at l (transferring l at a next)
  transferring_fine a next (active q _ h d Q idle H) A N =
      numbered_fine _ next _ N (λ n M. fine (active q _ h d Q (initiate n None) H) (request_lawful at refl M refl A) (keeps None) refl)
  transferring_fine a next _ A N = tt

  pub identifying_fine : {l : Leg} (p : Place) (next : Option ℕ) → Sound l → is_active l ≡ true → is_idle l ≡ true → (Other p (word.Consult at) ≡ true) → NextInRange next → FineIf Other at l (identifying l at p next)
  identifying_fine p next (active q _ h d Q idle H) e f X N =
      numbered_fine _ next _ N (λ n M. fine (active q _ h d Q (identify n p) H) (request_lawful at refl M refl refl) (consults p X) refl)
  identifying_fine p next _ e f X N = cc

  pub placing_fine : {l : Leg} (p : Place) (o : Owed) (own : ℕ) (next : Option ℕ) → Sound l → in_use l ≡ false → OwedInRange o → (Other p (word.Place at) ≡ true) → InWord own → NextInRange next → FineIf Other at l (placing at p o own next)
  placing_fine p o own next free e O X W N =
      numbered_fine _ next _ N
      (λ n M. fine (calling _ n p O.address) (request_lawful at refl M O.identity W) (places p X) refl)
  placing_fine p o own next _ e O X W N = cc

  pub accepting_fine : {l : Leg} → Sound l → FineIf Other at l (accepting l at)
  accepting_fine (ringing q o Q O) = acting_fine (active q _ _ _ Q idle (holds _)) (result_lawful at refl O.number refl refl) refl
  accepting_fine _ = tt

  pub declining_fine : {l : Leg} → Sound l → FineIf Other at l (declining l at)
  declining_fine (ringing q o Q O) = lost_fine None (error_lawful at refl O.number refl refl)
  declining_fine (active q _ h d Q (asked o O) H) = acting_fine (active q _ h d Q idle H) (error_lawful at refl O.number refl refl) refl
  declining_fine _ = tt

  pub holding_fine : {l : Leg} (k : HoldKind) (next : Option ℕ) → Sound l → NextInRange next → FineIf Other at l (holding l at k next)
  holding_fine hold.Near next (active q t holder.Idle None Q T H) N = acting_fine (active q t holder.NearHolding None Q T (holds _)) (request_lawful at refl refl refl refl) refl
  holding_fine hold.Remote next (active q t holder.Idle None Q T H) N =
      numbered_fine _ next _ N (λ n M. fine (active q t _ None Q T (holds (holder.RemoteRequested n))) (request_lawful at refl M refl refl) (keeps _) refl)
  holding_fine k next _ N = tt

  pub retrieving_fine : {l : Leg} (next : Option ℕ) → Sound l → NextInRange next → FineIf Other at l (retrieving l at next)
  retrieving_fine next (active q t _ _ Q T (holds holder.NearHolding)) N = acting_fine (active q t holder.Idle None Q T (holds _)) (request_lawful at refl refl refl refl) refl
  retrieving_fine next (active q t _ _ Q T (holds holder.RemoteHolding)) N =
      numbered_fine _ next _ N
      (λ n M. fine (active q t _ None Q T (holds (holder.RetrieveRequested n))) (request_lawful at refl M refl refl) (keeps _) refl)
  retrieving_fine next _ N = tt

  transfer_timed_out_fine : {l : Leg} → Sound l → Fine Other at l (transfer_timed_out l at)
  transfer_timed_out_fine (calling q n p Q) = leaving_fine (Some (named.Transfer cause.Timeout)) (release_lawful at) (loses (Tie.sets_up p)) refl
  transfer_timed_out_fine (active q _ h d Q (identify n p) H) =
      fine (active q _ h d Q idle H) (request_lawful at refl refl refl refl) (parts p) refl
  transfer_timed_out_fine (active q _ h d Q (initiate n s) H) = fine (active q _ h d Q idle H) tt (abandon_tells s) refl
  transfer_timed_out_fine (active q _ h d Q setup H) = fine (active q _ h d Q idle H) tt (keeps None) refl
  transfer_timed_out_fine S = expired_fine slot.Transfer S

  hold_timed_out_fine : {l : Leg} → Sound l → Fine Other at l (hold_timed_out l at)
  hold_timed_out_fine (active q t _ _ Q T (holds (holder.RemoteRequested n))) = fine (active q t _ None Q T (holds holder.Idle)) tt (keeps _) refl
  hold_timed_out_fine (active q t _ _ Q T (holds (holder.RetrieveRequested n))) = lost_fine (Some (named.Hold cause.Timeout)) (release_lawful at)
  hold_timed_out_fine S = expired_fine slot.Hold S

  pub timed_out_fine : {l : Leg} (k : Slot) → Sound l → Fine Other at l (timed_out l at k)
  timed_out_fine slot.Transfer S = transfer_timed_out_fine S
  timed_out_fine slot.Hold S = hold_timed_out_fine S
