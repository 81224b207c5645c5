-- Every life of a board keeps its state consistent.
use Rattle.std.proofs.Common.{◌≡◌, ℕ, ◌^◌, ◌≤◌, false, ◌&&◌, ◌||◌, ltb, leb, List, [], ◌∷◌, length, Some, None, Ok, Err, Option, Result, refl, ap, ◌∙◌, arith, length-append}
use lib.ListN.{get_or-replicate}
use Rattle.std.proofs.ByRecursion.{All-append}
use Rattle.std.proofs.lemmas.Bool.{and_parts, leb-true, ltb-false}
use Rattle.std.proofs.lemmas.Bool.Decides.{nat_tests}
use Rattle.std.specs.List.{AllByRecursion}
use Rattle.message.specs.declared.record.Message.{Message}
use Rattle.message.specs.Format.{Lawful}
use Rattle.leg.specs.declared.place.Place.{Place}
use Rattle.leg.specs.declared.codes.Note.TheVariants as note
use Rattle.leg.specs.declared.codes.Refusal.{Refusal}
use Rattle.leg.specs.declared.reaction.UpToTwo.TheVariants as few
use Rattle.leg.specs.declared.record.Leg.{Leg}
use Rattle.leg.specs.Places.{place_of}
use Rattle.leg.specs.Views.{free_leg}
use Rattle.rules.specs.Sound.{Sound, free, NextInRange, tie_of}
use Rattle.rules.proofs.Cases.{by_test, by_option}
use Rattle.rules.specs.Answers.{Answer, did, taken}
use Rattle.rules.specs.declared.call.Call.{Call}
use Rattle.rules.specs.declared.call.Call.TheVariants as call
use Rattle.rules.specs.declared.plan.Told.{Told}
use Rattle.rules.specs.declared.plan.Plan.{Plan}
use Rattle.rules.specs.declared.settings.Settings.{Settings}
use Rattle.rules.specs.States.{State, fresh, leg_at, free_places}
use Rattle.rules.specs.Firsts.{due_by}
use Rattle.rules.specs.Plans.{other_sent, listed, plan_sent, asks, following, put_leg, put_other, after, carried, settled}
use Rattle.rules.specs.Steps.{timeout_plan, tick_step, at_time, with_waiting, step}
use Rattle.rules.specs.Runs.{runs}
use Rattle.rules.specs.Consistent.{Consistent}
use Rattle.rules.specs.Laws.{LawfulAnswer, AlwaysConsistent, AlwaysLawful, EndsAllNamed, RefusedChangesNothing}
use Rattle.rules.proofs.Tables.{read, size_put, all_put}
use Rattle.rules.proofs.Pairs.{OtherSound, Keeps, KeepsIf}
use Rattle.rules.proofs.Calls.{timeout_keeps, call_keeps}

-- ---- after a plan

following_fits : (next : Option ℕ) → NextInRange next → NextInRange (following next)
following_fits None N = tt
following_fits (Some n) N = grind (arith, nat_tests)

module _ (s : State) (C : Consistent s) where
  size_after : (legs : List Leg) (o : Option Told) → length legs ≡ 32 → length (put_other legs o) ≡ 32
  size_after legs o e = grind (arith, size_put)

  sound_after : (legs : List Leg) (o : Option Told) → length legs ≡ 32 → ((p : Place) → Sound (read legs p)) → OtherSound o → (p : Place) → Sound (read (put_other legs o) p)
  sound_after legs None e S F p = S p
  sound_after legs (Some t) e S F p = all_put legs t.to t.reaction.leg Sound e S F p

  after_consistent : (t : ℕ) (x : Plan) → Keeps s x → t ≤ 2 ^ 40 → ltb (free_places s) (length (listed (plan_sent x))) ≡ false → Consistent (after s t x)
  after_consistent t x K T room =
      record {
        size = size_after (put_leg s.legs x.place x.own.leg) x.other once;
        sound = sound_after (put_leg s.legs x.place x.own.leg) x.other once (all_put s.legs x.place x.own.leg Sound C.size C.sound K.sound) K.other;
        partners = K.partners;
        next = by_test NextInRange (asks x.own.sent || asks (other_sent x.other)) _ _ (λ _. following_fits s.next C.next) (λ _. C.next);
        time = T;
        lawful = All-append Lawful s.waiting (listed (plan_sent x)) C.lawful K.lawful;
        fits = simp length-append (omega (arith, C.fits, ltb-false (free_places s) (length (listed (plan_sent x))) room));
      }
    where
      once : length (put_leg s.legs x.place x.own.leg) ≡ 32
      once = size_put s.legs x.place x.own.leg ∙ C.size

  -- ---- each step

  abbrev Good : Answer × State → Type 0
  Good a = LawfulAnswer a.0 × Consistent a.1

  carried_good : (t : ℕ) (x : Plan) → Keeps s x → t ≤ 2 ^ 40 → Good (carried s t x)
  carried_good t x K T =
      by_test Good (ltb (free_places s) (length (listed (plan_sent x)))) _ _
      (λ _. (tt, C))
      (λ room. (K.lawful, after_consistent t x K T room))

  settled_good : (t : ℕ) (d : Result Plan Refusal) → KeepsIf s d → t ≤ 2 ^ 40 → Good (settled s t d)
  settled_good t (Err why) K T = (tt, C)
  settled_good t (Ok x) K T = carried_good t x K T

  at_time_lem : (t : ℕ) → t ≤ 2 ^ 40 → Consistent (at_time s t)
  at_time_lem t T = assumption

  tick_good : (t : ℕ) → Good (tick_step s t)
  tick_good t =
      by_test Good (leb s.time t && leb t (2 ^ 40)) _ _
      (λ e.
      let T = leb-true t (2 ^ 40) (and_parts (leb s.time t) (leb t (2 ^ 40)) e).1 in
      by_option Good (due_by t s.deadlines) _ _ (tt, at_time_lem t T) (λ d. settled_good t _ (timeout_keeps s C d) T))
      (λ _. (tt, C))

  take_good : (w : List Message) → s.waiting ≡ w → Good (elim w [ [] ↦ (did note.QueueEmpty few.Zero few.Zero, s) | m ∷ ms ↦ (taken m, with_waiting s ms) ])
  take_good [] e = (tt, C)
  take_good (m ∷ ms) e =
      let L : AllByRecursion Lawful (m ∷ ms) = rw e at C.lawful in
      let n : length (m ∷ ms) ≤ s.capacity = rw e at C.fits in
      let room : length ms ≤ s.capacity = omega (arith, n) in
      (L.0, assumption L.1)

  step_good : (c : Call) → Good (step s c)
  step_good (call.Tick t) = tick_good t
  step_good call.Take = take_good s.waiting refl
  step_good (call.Look leg) = by_option Good (place_of leg) _ _ (tt, C) (λ p. (tt, C))
  step_good c = settled_good s.time _ (call_keeps s C c) C.time

-- ---- lives

fresh_free : (settings : Settings) (capacity : ℕ) (p : Place) → leg_at (fresh settings capacity) p ≡ free_leg
fresh_free settings capacity p = get_or-replicate 32 p.index free_leg free_leg p.below

fresh_consistent : (settings : Settings) (capacity : ℕ) → Consistent (fresh settings capacity)
fresh_consistent settings capacity =
    record {
      size = refl;
      sound = λ p. rw (fresh_free settings capacity p) free;
      partners = λ p t e. (let none = ap tie_of (fresh_free settings capacity p) in cc);
      next = refl;
      time = omega arith;
      lawful = tt;
      fits = omega arith;
    }

life_good : (s : State) (cs : List Call) → Consistent s → AllByRecursion LawfulAnswer (runs s cs).0 × Consistent (runs s cs).1
unfolding runs
life_good s [] C = (tt, C)
life_good s (c ∷ cs) C =
    let G = step_good s C c in
    let R = life_good (step s c).1 cs G.1 in
    ((G.0, R.0), R.1)

pub always_consistent : AlwaysConsistent
always_consistent settings capacity calls = (life_good (fresh settings capacity) calls (fresh_consistent settings capacity)).1

pub always_lawful : AlwaysLawful
always_lawful settings capacity calls = (life_good (fresh settings capacity) calls (fresh_consistent settings capacity)).0

pub ends_all_named : EndsAllNamed
ends_all_named settings capacity calls c x e =
    let s = (runs (fresh settings capacity) calls).1 in
    let K : Keeps s x = rw e at (call_keeps s (always_consistent settings capacity calls) c) in
    K.whole

-- ---- refusals

module _ (s : State) (why : Refusal) where
  abbrev Unchanged : Answer × State → Type 0
  Unchanged a = a.0 ≡ Err why → a.1 ≡ s

  settled_unchanged : (t : ℕ) (d : Result Plan Refusal) → Unchanged (settled s t d)
  settled_unchanged t (Err _) e = refl
  settled_unchanged t (Ok x) e = grind arith

  take_unchanged : (w : List Message) → Unchanged (elim w [ [] ↦ (did note.QueueEmpty few.Zero few.Zero, s) | m ∷ ms ↦ (taken m, with_waiting s ms) ])
  take_unchanged [] e = refl
  take_unchanged _ e = cc

  step_unchanged : (c : Call) → Unchanged (step s c)
  step_unchanged (call.Tick t) =
      by_test Unchanged (leb s.time t && leb t (2 ^ 40)) _ _
      (λ _. by_option Unchanged (due_by t s.deadlines) _ _ (λ e. cc) (λ d. settled_unchanged t (timeout_plan s d)))
      (λ _ _. refl)
  step_unchanged call.Take = take_unchanged s.waiting
  step_unchanged (call.Look leg) = by_option Unchanged (place_of leg) _ _ (λ _. refl) (λ p _. refl)
  step_unchanged _ = settled_unchanged s.time _

pub refused_changes_nothing : RefusedChangesNothing
refused_changes_nothing s c why e = step_unchanged s why c e
