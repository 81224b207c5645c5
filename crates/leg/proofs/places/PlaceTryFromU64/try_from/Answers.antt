-- The place that is made is the place defined: they differ at most in the proof that the index is below 32.
use Rattle.std.proofs.Common.{◌≡◌, ℕ, ◌<◌, Bool, true, false, ltb, Ok, Result, refl, ap, ltb-true}
use native.Mathlib.Bridge.{le_prop}
use Rattle.std.specs.Option.{ok_or}
use Rattle.std.proofs.lemmas.Bool.{false≢true, lt-ltb}
use Rattle.leg.specs.declared.codes.Refusal.{Refusal}
use Rattle.leg.specs.declared.codes.Refusal.TheVariants.{NoSuchLeg}
use Rattle.leg.specs.declared.place.Place.{Place}
use Rattle.leg.specs.Places.{place_if}
use Rattle.leg.proofs.places.PlaceTryFromU64.try_from.Goals as goal

place_made : (n : ℕ) (b : Bool) (f : b ≡ true → n < 32) (h : n < 32) → b ≡ true → ◌≡◌ {A = Result Place Refusal} (Ok (record { index = n; below = h })) (ok_or (place_if n b f) NoSuchLeg)
place_made n true f h _ = ap {B = Result Place Refusal} (λ (k : n < 32). Ok (record { index = n; below = k })) (le_prop h (f refl))
place_made n false f h e = absurd (false≢true e)

pub returns-then-leg-lt32 : goal.returns-then-leg-lt32
returns-then-leg-lt32 c = place_made c.args.leg (ltb c.args.leg 32) (ltb-true c.args.leg 32) _ (lt-ltb c.args.leg 32 c.if-leg-lt32.true)
