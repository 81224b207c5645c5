-- Places, and reading a table of legs after a record was put into it.
use Rattle.std.proofs.Common.{arith, ◌≡◌, ℕ, ◌<◌, ◌≢◌, ◌⊎◌, List, length, get_or, ap, subst, inl, inr, length-set, get_or-set_other, get_or-set_same}
use native.Mathlib.Bridge.{le_prop}
use Rattle.std.proofs.lemmas.Bool.{cases_eq}
use Rattle.leg.specs.declared.place.Place.{Place}
use Rattle.leg.specs.declared.record.Leg.{Leg}
use Rattle.leg.specs.Views.{free_leg}
use Rattle.rules.specs.Plans.{put_leg}

same_at : (m n : ℕ) → m ≡ n → (h : m < 32) (k : n < 32) → ◌≡◌ {A = Place} (record { index = m; below = h }) (record { index = n; below = k })
same_at m n e =
    subst (λ (x : ℕ). (h : m < 32) (k : x < 32) → ◌≡◌ {A = Place} (record { index = m; below = h }) (record { index = x; below = k })) e
    (λ h k. ap {B = Place} (λ (x : m < 32). record { index = m; below = x }) (le_prop h k))

-- a place is its index
pub place_same : (p q : Place) → p.index ≡ q.index → p ≡ q
place_same p q e = same_at p.index q.index e p.below q.below

pub place_cases : (p q : Place) → (p ≡ q) ⊎ (p.index ≢ q.index)
place_cases p q = elim (cases_eq p.index q.index) [ inl e ↦ inl (place_same p q e) | inr n ↦ inr n ]

abbrev pub read : List Leg → Place → Leg
read legs p = get_or legs p.index free_leg

module _ (legs : List Leg) (p : Place) (l : Leg) where
  pub read_same : length legs ≡ 32 → read (put_leg legs p l) p ≡ l
  read_same e = get_or-set_same legs p.index l free_leg (omega (arith, p.below))

  pub read_other : (q : Place) → q.index ≢ p.index → read (put_leg legs p l) q ≡ read legs q
  read_other q ne = get_or-set_other legs p.index q.index l free_leg ne

  pub size_put : length (put_leg legs p l) ≡ length legs
  size_put = length-set legs p.index l

  -- what holds of every record, and of the new one, holds of every record after
  pub all_put : (P : Leg → Type 0) → length legs ≡ 32 → ((q : Place) → P (read legs q)) → P l → (q : Place) → P (read (put_leg legs p l) q)
  all_put P e all new q =
      elim (place_cases q p) [
        | inl f ↦ rw (f, read_same e) new
        | inr ne ↦ rw (read_other q ne) (all q)
      ]
