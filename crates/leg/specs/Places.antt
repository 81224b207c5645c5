-- The place of a leg, if the number is one.
use Rattle.std.specs.Prelude.{◌≡◌, ℕ, ◌<◌, Bool, true, false, Some, None, Option, nat_lt, refl}
use Rattle.std.proofs.Common.{ltb-true}
use Rattle.leg.specs.declared.place.Place.{Place}

abbrev pub place_if : (n : ℕ) (b : Bool) → (b ≡ true → n < 32) → Option Place
place_if n true h = Some (record { index = n; below = h refl })
place_if n false h = None

-- the place with this index, for an index below 32
abbrev pub place_of : ℕ → Option Place
place_of n = place_if n (nat_lt n 32) (ltb-true n 32)
