-- Each call's plan keeps a state consistent.
use Rattle.std.proofs.Common.{arith, ◌≢◌, ◌≡◌, ℕ, ◌/◌, Bool, true, false, ◌&&◌, eqb, leb, List, Some, None, Ok, Err, Option, Result, refl, ap}
use Rattle.std.proofs.lemmas.Bool.Decides.{nat_tests}
use Rattle.message.specs.declared.codes.Carrier.{Carrier}
use Rattle.message.specs.declared.codes.Carrier.TheVariants as carrier
use Rattle.message.specs.declared.record.Message.{Message}
use Rattle.message.specs.declared.record.MessageFault.{MessageFault}
use Rattle.message.specs.Format.{verdict, Lawful}
use Rattle.message.proofs.Accepted.{accepted_is_lawful}
use Rattle.leg.specs.declared.place.Place.{Place}
use Rattle.leg.specs.declared.codes.Refusal.{Refusal}
use Rattle.leg.specs.declared.codes.Refusal.TheVariants as refusal
use Rattle.leg.specs.declared.record.Leg.{Leg}
use Rattle.leg.specs.declared.record.Transfer.{Transfer}
use Rattle.leg.specs.declared.reaction.Word.{Word}
use Rattle.leg.specs.declared.reaction.Word.TheVariants as word
use Rattle.leg.specs.Places.{place_of}
use Rattle.leg.specs.Views.{in_use, is_active, is_idle, is_awaiting_setup, when_asked}
use Rattle.machine.specs.Invokes.{set_up}
use Rattle.machine.specs.Replies.{heard_on}
use Rattle.rules.specs.Sound.{Sound, InWord}
use Rattle.machine.specs.declared.event.Event.{Event}
use Rattle.machine.specs.declared.event.Event.TheVariants as event
use Rattle.machine.specs.Reacts.{reacts}
use Rattle.rules.specs.Events.{Ready}
use Rattle.rules.proofs.Cases.{by_test, by_option, by_asked}
use Rattle.rules.proofs.Tolds.{stays_sound, asked_in}
use Rattle.timers.specs.declared.meaning.Due.{Due}
use Rattle.rules.specs.declared.plan.Plan.{Plan}
use Rattle.rules.specs.States.{State, leg_at}
use Rattle.rules.specs.Plans.{reacting}
use Rattle.rules.specs.Steps.{at_place, consult_at, place_at, awaiting, heard_at, slot_of, timeout_plan, plan_for}
use Rattle.rules.specs.Consistent.{Consistent}
use Rattle.rules.specs.declared.call.Call.{Call}
use Rattle.rules.specs.declared.call.Call.TheVariants as call
use Rattle.rules.specs.Firsts.{due_by}
use Rattle.rules.proofs.Pairs.{word_fits, may_tell, KeepsAny, KeepsIf, reacting_keeps}

-- a leg that is not in use awaits nothing
free_awaits : (l : Leg) → Sound l → in_use l ≡ false → is_awaiting_setup l ≡ false
free_awaits l S e = grind arith

module _ (s : State) (C : Consistent s) where
  own_fits : InWord s.settings.own
  own_fits = grind (arith, nat_tests, s.settings.least, s.settings.most)

  react : (p : Place) (e : Event) → Ready (may_tell s p) p (leg_at s p) e → KeepsIf s (reacting s p (reacts (leg_at s p) p s.settings.own s.next e))
  react p e R = reacting_keeps s C p _ (stays_sound (may_tell s p) (leg_at s p) p s.settings.own s.next e (C.sound p) own_fits C.next R)

  by_place : (o : Option Place) (f : Place → Result Plan Refusal) → ((p : Place) → KeepsIf s (f p)) → KeepsIf s (elim o [ None ↦ Err refusal.NoSuchLeg | Some p ↦ f p ])
  by_place o f g = by_option (KeepsIf s) o _ f tt g

  -- two legs that differ in what they are, differ; and the one may be told a word that fits it
  may_tell_other : (p q : Place) (w : Word) (f : Leg → Bool) → f (leg_at s q) ≢ f (leg_at s p) → word_fits (leg_at s q) w ≡ true → may_tell s p q w ≡ true
  may_tell_other p q w f ne fits = grind (arith, nat_tests)

  consult_at_lem : (p q : Place) → KeepsIf s (consult_at s p q)
  consult_at_lem p q =
      by_test (KeepsIf s) (in_use (leg_at s p) && in_use (leg_at s q)) _ _
      (λ _. by_test (KeepsIf s) (is_active (leg_at s p) && is_active (leg_at s q)) _ _
      (λ a. by_test (KeepsIf s) (eqb p.index q.index) _ _
      (λ _. tt)
      (λ ne. by_test (KeepsIf s) (is_idle (leg_at s p) && is_idle (leg_at s q)) _ _
      (λ i. react q (event.Identify p) (grind arith))
      (λ _. tt)))
      (λ _. tt))
      (λ _. tt)

  place_at_lem : (p n : Place) → KeepsIf s (place_at s p n)
  place_at_lem p n =
      by_test (KeepsIf s) (in_use (leg_at s n)) _ _
      (λ _. tt)
      (λ not-used. by_test (KeepsIf s) (in_use (leg_at s p)) _ _
      (λ used. by_asked (KeepsIf s) (leg_at s p).transfer _ _
      (λ o e. react n (event.SetUp p o) (not-used, asked_in (leg_at s p) (C.sound p) o e, may_tell_other n p (word.Place n) in_use (λ x. cc) (ap (λ (t : Transfer). when_asked t (λ _. true) false) e)))
      tt)
      (λ _. tt))

  -- the leg that a set-up is met by awaits one
  awaits : (i : ℕ) (q : Place) → awaiting s i ≡ Some q → is_awaiting_setup (leg_at s q) ≡ true
  awaits i q e = grind arith

  met_by : (p : Place) (i : ℕ) → in_use (leg_at s p) ≡ false → (q : Place) → awaiting s i ≡ Some q → may_tell s p q word.Met ≡ true
  met_by p i not-used q e =
      may_tell_other p q word.Met is_awaiting_setup (λ x. (let f = free_awaits (leg_at s p) (C.sound p) not-used in let a = awaits i q e in cc)) (awaits i q e)

  heard_at_lem : (m : Message) (p : Place) (c : Carrier) → m.carrier ≡ c → Lawful m
      → KeepsIf s (reacting s p (elim c [
        | carrier.Setup ↦ set_up (leg_at s p) p m (awaiting s m.identity)
        | carrier.Alerting ↦ Ok (heard_on (leg_at s p) p s.settings.own m)
        | carrier.Connect ↦ Ok (heard_on (leg_at s p) p s.settings.own m)
        | carrier.Facility ↦ Ok (heard_on (leg_at s p) p s.settings.own m)
        | carrier.ReleaseComplete ↦ Ok (heard_on (leg_at s p) p s.settings.own m)
      ]))
  heard_at_lem m p carrier.Setup e L = react p (event.Meet m (awaiting s m.identity)) (e, L, met_by p m.identity)
  heard_at_lem m p _ e L = react p (event.Hear m) L

  heard_keeps : (bytes : List ℕ) (v : Result Message MessageFault) → verdict bytes ≡ v
      → KeepsIf s (elim v [ Err f ↦ Err (refusal.BadMessage f) | Ok m ↦ at_place m.leg (λ p. reacting s p (heard_at s m p)) ])
  heard_keeps bytes (Err f) e = tt
  heard_keeps bytes (Ok m) e = by_place (place_of m.leg) _ (λ p. heard_at_lem m p m.carrier refl (accepted_is_lawful bytes m e))

  pub timeout_keeps : (d : Due) → KeepsIf s (timeout_plan s d)
  timeout_keeps d = by_place (place_of (d.key / 2)) _ (λ p. react p (event.RunOut (slot_of d.key)) tt)

  pub call_keeps : (c : Call) → KeepsAny s (plan_for s c)
  call_keeps (call.Open leg peer) = by_place (place_of leg) _ (λ p. by_test (KeepsIf s) (leb 1 peer && leb peer 65535) _ _ (λ e. react p (event.Open peer) e) (λ _. tt))
  call_keeps (call.Clear leg) = by_place (place_of leg) _ (λ p. react p event.Clear tt)
  call_keeps (call.Transfer leg a) = by_place (place_of leg) _ (λ p. by_test (KeepsIf s) (leb 1 a && leb a 65535) _ _ (λ e. react p (event.Transfer a) e) (λ _. tt))
  call_keeps (call.Consult primary secondary) = by_place (place_of primary) _ (λ p. by_place (place_of secondary) _ (λ q. consult_at_lem p q))
  call_keeps (call.Place primary new) = by_place (place_of primary) _ (λ p. by_place (place_of new) _ (λ n. place_at_lem p n))
  call_keeps (call.Accept leg) = by_place (place_of leg) _ (λ p. react p event.Accept tt)
  call_keeps (call.Decline leg) = by_place (place_of leg) _ (λ p. react p event.Decline tt)
  call_keeps (call.Hold leg k) = by_place (place_of leg) _ (λ p. react p (event.Hold k) tt)
  call_keeps (call.Retrieve leg) = by_place (place_of leg) _ (λ p. react p event.Retrieve tt)
  call_keeps (call.Heard bytes) = heard_keeps bytes.now (verdict bytes.now) refl
  call_keeps (call.Tick t) = by_option (KeepsAny s) (due_by t s.deadlines) _ _ tt timeout_keeps
  call_keeps _ = tt
