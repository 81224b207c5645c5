-- Whatever is heard leaves a leg sound.
use Rattle.std.proofs.Common.{◌≡◌, ℕ, Bool, true, false, cond, ◌&&◌, ◌||◌, eqb, Some, None, Option, refl, subst, arith}
use Rattle.std.proofs.lemmas.Bool.Decides.{nat_tests}
use Rattle.message.specs.declared.codes.Carrier.{Carrier}
use Rattle.message.specs.declared.codes.Carrier.TheVariants as carrier
use Rattle.message.specs.declared.codes.Kind.{Kind}
use Rattle.message.specs.declared.codes.Kind.TheVariants as kind
use Rattle.message.specs.declared.codes.Operation.{Operation}
use Rattle.message.specs.declared.codes.Operation.TheVariants as operation
use Rattle.message.specs.declared.codes.ErrorCode.TheVariants as error
use Rattle.message.specs.declared.record.Message.{Message}
use Rattle.message.specs.Format.{Lawful}
use Rattle.message.specs.Ranges.{inside, span, number_range, identity_range, address_range, of_kind, names}
use Rattle.message.specs.Table.{permitted, operation_byte}
use Rattle.leg.specs.declared.place.Place.{Place}
use Rattle.leg.specs.declared.codes.Note.TheVariants as note
use Rattle.leg.specs.declared.codes.Cause.{Cause}
use Rattle.leg.specs.declared.codes.Cause.TheVariants as cause
use Rattle.leg.specs.declared.record.Phase.{Phase}
use Rattle.leg.specs.declared.record.Phase.TheVariants as phase
use Rattle.leg.specs.declared.record.Transfer.TheVariants as transfer
use Rattle.leg.specs.declared.record.Holder.{Holder}
use Rattle.leg.specs.declared.record.Holder.TheVariants as holder
use Rattle.leg.specs.declared.record.HoldKind.TheVariants as hold
use Rattle.leg.specs.declared.record.Leg.{Leg}
use Rattle.leg.specs.declared.reaction.TimerChange.TheVariants as change
use Rattle.leg.specs.declared.reaction.UpToTwo.TheVariants as few
use Rattle.leg.specs.Tells.{tell_leg}
use Rattle.leg.specs.declared.reaction.Word.{Word}
use Rattle.leg.specs.declared.reaction.Word.TheVariants as word
use Rattle.leg.specs.declared.reaction.Named.TheVariants as named
use Rattle.leg.specs.declared.reaction.Reaction.{Reaction}
use Rattle.leg.specs.Views.{free_leg, in_use, is_alerting, with_phase, with_holder, when_hold_requested, active_leg}
use Rattle.machine.specs.Messages.{result_on, error_on}
use Rattle.machine.specs.Reactions.{reaction, acting, strayed, hold_settling}
use Rattle.rules.specs.Sound.{InWord, InIdentity, OwedInRange, leg, Sound, free, calling, ringing, alerting, active, idle, identify, initiate, setup, asked, bound, SoundBond, holds, is_held, Tie, keeps, meets, hands, parts, completes, loses}
use Rattle.rules.specs.Events.{Fine, FineIf}
use Rattle.rules.proofs.Sends.{release_lawful, result_lawful, identity_lawful, error_lawful}
use Rattle.rules.proofs.Cases.{by_test}
use Rattle.rules.proofs.Shapes.{fine, acting_fine, strayed_fine, leaving_fine, lost_fine, part_tells, abandon_tells, part_few}
use Rattle.machine.specs.Invokes.{owed_for, invoked, set_up}
use Rattle.machine.specs.Replies.{resulted, faulted, setup_result, alerted, connected, lost, released, served, heard_on}

-- what is known of the numbers of a lawful message with this operation
pub record Told (m : Message) (k : Kind) (o : Operation) : Type 0 where
  pub number : inside (number_range (Some o)) m.number ≡ true
  pub identity : inside (identity_range k (Some o)) m.identity ≡ true
  pub address : inside (address_range k (Some o)) m.address ≡ true

identity_any : (i : ℕ) → inside (span 1 9999) i ≡ true → InIdentity i
identity_any i e = grind (arith, nat_tests)

-- the numbers of a lawful message, its operation being known
told_by : (m : Message) (o : Operation) → m.operation ≡ Some o → Lawful m → Told m m.kind o
told_by m o e L = record { number = rw e at L.number; identity = rw e at L.identity; address = rw e at L.address }

-- SETUP brings nothing but the invoke of a set-up
only_setup : (k : Kind) (o : Option Operation) → permitted carrier.Setup k (operation_byte o) ≡ true → (k ≡ kind.Invoke) × (o ≡ Some operation.CallTransferSetup)
only_setup k o e = grind (arith, nat_tests)

setup_told : (m : Message) → m.carrier ≡ carrier.Setup → Lawful m → Told m kind.Invoke operation.CallTransferSetup
setup_told m e L = let only = only_setup m.kind m.operation (rw e at L.standing) in subst (λ (k : Kind). Told m k operation.CallTransferSetup) only.0 (told_by m operation.CallTransferSetup only.1 L)

module _ {Other : Place → Word → Bool} {at : Place} where
  -- whichever of two reactions it is
  either_fine : {l : Leg} (b : Bool) (x y : Reaction) → Fine Other at l x → Fine Other at l y → Fine Other at l (cond b x y)
  either_fine {l = l} b x y F G = by_test (Fine Other at l) b x y (λ _. F) (λ _. G)

  -- an invoke, by operation: where the record fits it, and where it does not
  invoked_fine : {l : Leg} (own : ℕ) (o : Operation) (m : Message) → Sound l → InWord own → Told m kind.Invoke o → Fine Other at l (invoked l at own o m)
  invoked_fine own operation.CallTransferIdentify m (active q _ h d Q idle H) W M = fine (active q _ h d Q setup H) (identity_lawful at M.number W) (keeps None) refl
  invoked_fine own operation.CallTransferIdentify m S W M = acting_fine S (error_lawful at refl M.number refl refl) refl
  invoked_fine own operation.CallTransferAbandon m (active q _ h d Q setup H) W M = fine (active q _ h d Q idle H) tt (keeps None) refl
  invoked_fine own operation.CallTransferInitiate m (active q _ h d Q idle H) W M =
      acting_fine (active q _ h d Q (asked (owed_for m) (record { number = M.number; identity = M.identity; address = M.address })) H) tt refl
  invoked_fine own operation.CallTransferInitiate m S W M = acting_fine S (error_lawful at refl M.number refl refl) refl
  invoked_fine own operation.HoldNotific m (active q t holder.Idle None Q T H) W M = acting_fine (active q t _ (Some hold.Near) Q T (is_held _)) tt refl
  invoked_fine own operation.RetrieveNotific m (active q t h (Some hold.Near) Q T H) W M = acting_fine (active q t h None Q T (holds h)) tt refl
  invoked_fine own operation.RemoteHold m (active q t holder.Idle None Q T H) W M =
      acting_fine (active q t _ (Some hold.Remote) Q T (is_held _)) (result_lawful at refl M.number refl refl) refl
  invoked_fine own operation.RemoteHold m S W M = acting_fine S (error_lawful at refl M.number refl refl) refl
  invoked_fine own operation.RemoteRetrieve m (active q t h (Some hold.Remote) Q T H) W M = acting_fine (active q t h None Q T (holds h)) (result_lawful at refl M.number refl refl) refl
  invoked_fine own operation.RemoteRetrieve m S W M = acting_fine S (error_lawful at refl M.number refl refl) refl
  invoked_fine own _ m S W M = strayed_fine S

  -- ---- replies, which bring the number of a request or are stray

  -- a hold request that ends leaves the holder state h
  hold_reply_fine : {l : Leg} (m : Message) (h : Holder) (c : Cause) → Sound l
      → Fine Other at l (when_hold_requested l.holder (λ n. cond (eqb n m.number) (hold_settling (with_holder l h) n c) (strayed l)) (strayed l))
  hold_reply_fine m h c (active q t _ _ Q T (holds (holder.RemoteRequested n))) =
      either_fine _ _ _ (fine (active q t h None Q T (holds h)) tt (keeps _) refl) (strayed_fine (active q t _ None Q T (holds _)))
  hold_reply_fine m h c S = strayed_fine S

  resulted_fine : {l : Leg} (o : Operation) (m : Message) → Sound l → Told m kind.Result o → Fine Other at l (resulted l at o m)
  resulted_fine operation.CallTransferIdentify m (active q _ h d Q (identify n p) H) M =
      either_fine _ _ _ (fine (active q _ h d Q (bound _ (SoundBond.consulted p)) H) tt (hands p _ _ (identity_any m.identity M.identity) M.address) refl) (strayed_fine (active q _ h d Q (identify n p) H))
  resulted_fine operation.CallTransferInitiate m (active q _ h d Q (initiate n s) H) M =
      either_fine _ _ _ (leaving_fine (Some (named.Transfer cause.Result)) (release_lawful at) (part_tells s) (part_few _ s)) (strayed_fine (active q _ h d Q (initiate n s) H))
  resulted_fine operation.RemoteHold m S M = hold_reply_fine m holder.RemoteHolding cause.Result S
  resulted_fine operation.RemoteRetrieve m (active q t _ _ Q T (holds (holder.RetrieveRequested n))) M =
      either_fine _ _ _ (fine (active q t _ None Q T (holds holder.Idle)) tt (keeps _) refl) (strayed_fine (active q t _ None Q T (holds _)))
  resulted_fine _ m S M = strayed_fine S

  faulted_fine : {l : Leg} (o : Operation) (m : Message) → Sound l → Fine Other at l (faulted l at o m)
  faulted_fine operation.CallTransferIdentify m (active q _ h d Q (identify n p) H) =
      either_fine _ _ _ (fine (active q _ h d Q idle H) tt (parts p) refl) (strayed_fine (active q _ h d Q (identify n p) H))
  faulted_fine operation.CallTransferInitiate m (active q _ h d Q (initiate n s) H) =
      either_fine _ _ _ (fine (active q _ h d Q idle H) tt (abandon_tells s) refl) (strayed_fine (active q _ h d Q (initiate n s) H))
  faulted_fine operation.RemoteHold m S = hold_reply_fine m holder.Idle cause.Fault S
  faulted_fine operation.RemoteRetrieve m (active q t _ _ Q T (holds (holder.RetrieveRequested n))) =
      either_fine _ _ _ (lost_fine (Some (named.Hold cause.Fault)) (release_lawful at)) (strayed_fine (active q t _ None Q T (holds _)))
  faulted_fine _ m S = strayed_fine S

  -- a placed leg goes on in the phase p
  setup_result_fine : {l : Leg} {x : Reaction} (m : Message) (p : Phase) → Sound l → ((q : ℕ) → InWord q → Sound (leg p q transfer.Idle holder.Idle None)) → Fine Other at l x → Fine Other at l (setup_result l m p x)
  setup_result_fine m p (calling q n t Q) G F = either_fine _ _ _ (either_fine _ _ _ (fine (G q Q) tt (completes t) refl) F) F
  setup_result_fine m p (active q _ h d Q idle H) G F = either_fine _ _ _ F F
  setup_result_fine m p _ G F = either_fine _ _ _ F F

  -- any CONNECT makes an alerting leg active
  picked_up : {l : Leg} → Sound l → Fine Other at l (cond (is_alerting l) (acting (with_phase l phase.Active) None note.Done) (strayed l))
  picked_up (alerting q Q) = acting_fine (active q _ _ _ Q idle (holds _)) tt refl
  picked_up S = strayed_fine S

  -- whatever RELEASE COMPLETE brings, the leg ends
  gone : {l : Leg} → Fine Other at l (lost l)
  gone = lost_fine None tt

  -- it may bring the result of an initiate or the fault of a set-up
  released_by : {l : Leg} (m : Message) (x y : Reaction) → Fine Other at l x → Fine Other at l y
      → Fine Other at l (cond (of_kind m.kind kind.Result && names m.operation operation.CallTransferInitiate) x (cond ((of_kind m.kind kind.Error || of_kind m.kind kind.Reject) && names m.operation operation.CallTransferSetup) y (lost l)))
  released_by m x y F G = either_fine _ x _ F (either_fine _ y _ G gone)

  released_fine : {l : Leg} (m : Message) → Sound l → Fine Other at l (released l m)
  released_fine m (active q _ h d Q (initiate n s) H) = released_by m _ _ (either_fine (eqb n m.number) _ _ (leaving_fine (Some (named.Transfer cause.Result)) tt (part_tells s) (part_few _ s)) gone) gone
  released_fine m (calling q n p Q) = released_by m _ _ gone (either_fine (eqb n m.number) _ _ (leaving_fine (Some (named.Transfer cause.Fault)) tt (loses (Tie.sets_up p)) refl) gone)
  released_fine m _ = released_by m _ _ gone gone

  served_fine : {l : Leg} (own : ℕ) (m : Message) (o : Operation) (k : Kind) → Sound l → InWord own → Told m k o
      → Fine Other at l (elim k [ kind.Nothing ↦ strayed l | kind.Invoke ↦ invoked l at own o m | kind.Result ↦ resulted l at o m | kind.Error ↦ faulted l at o m | kind.Reject ↦ faulted l at o m ])
  served_fine own m o kind.Nothing S W M = strayed_fine S
  served_fine own m o kind.Invoke S W M = invoked_fine own o m S W M
  served_fine own m o kind.Result S W M = resulted_fine o m S M
  served_fine own m o _ S W M = faulted_fine o m S

  facility_fine : {l : Leg} (own : ℕ) (m : Message) (x : Option Operation) → m.operation ≡ x → Sound l → InWord own → Lawful m
      → Fine Other at l (elim x [ None ↦ strayed l | Some o ↦ served l at own m o ])
  facility_fine own m None e S W L = strayed_fine S
  facility_fine own m (Some o) e S W L = served_fine own m o m.kind S W (told_by m o e L)

  carried_fine : {l : Leg} (own : ℕ) (m : Message) (c : Carrier) → Sound l → InWord own → Lawful m
      → Fine Other at l (elim c [
        | carrier.Setup ↦ strayed l
        | carrier.Alerting ↦ alerted l m
        | carrier.Connect ↦ connected l m
        | carrier.Facility ↦ elim m.operation [ None ↦ strayed l | Some o ↦ served l at own m o ]
        | carrier.ReleaseComplete ↦ released l m
      ])
  carried_fine own m carrier.Setup S W L = strayed_fine S
  carried_fine own m carrier.Alerting S W L = setup_result_fine m phase.Alerting S alerting (strayed_fine S)
  carried_fine own m carrier.Connect S W L = setup_result_fine m phase.Active S (λ q Q. active q _ _ _ Q idle (holds _)) (picked_up S)
  carried_fine own m carrier.Facility S W L = facility_fine own m m.operation refl S W L
  carried_fine own m carrier.ReleaseComplete S W L = released_fine m S

  pub heard_on_fine : (l : Leg) (own : ℕ) (m : Message) → Sound l → InWord own → Lawful m → Fine Other at l (heard_on l at own m)
  heard_on_fine l own m S W L = either_fine _ _ _ (carried_fine own m m.carrier S W L) (strayed_fine S)

  met_fine : (m : Message) (s : Option Place) → Told m kind.Invoke operation.CallTransferSetup → ((q : Place) → s ≡ Some q → (Other q word.Met ≡ true))
      → Fine Other at free_leg (elim s [
        | None ↦ acting free_leg (Some (error_on at carrier.ReleaseComplete operation.CallTransferSetup m.number error.UnrecognizedCallIdentity)) note.Done
        | Some q ↦ reaction (active_leg m.address) (Some (result_on at carrier.Connect operation.CallTransferSetup m.number)) few.Zero change.Kept change.Kept (tell_leg q word.Met) note.Done
      ])
  met_fine m None M X = acting_fine free (error_lawful at refl M.number refl refl) refl
  met_fine m (Some q) M X = fine (active _ _ _ _ M.address idle (holds holder.Idle)) (result_lawful at refl M.number refl refl) (meets q (X q refl)) refl

pub set_up_fine : (Other : Place → Word → Bool) (at : Place) {l : Leg} (m : Message) (s : Option Place) → Sound l → m.carrier ≡ carrier.Setup → Lawful m
    → (in_use l ≡ false → (q : Place) → s ≡ Some q → (Other q word.Met ≡ true)) → FineIf Other at l (set_up l at m s)
set_up_fine Other at m s free e L X =
    let M = setup_told m e L in
    let O : OwedInRange (owed_for m) = record { number = M.number; identity = M.identity; address = M.address } in
    either_fine (eqb m.identity 0) _ _ (acting_fine (ringing m.address (owed_for m) M.address O) tt refl) (met_fine m s M (X refl))
set_up_fine Other at m s _ e L X = tt
