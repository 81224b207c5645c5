-- The first timer of a tick is first by what first means.
use Rattle.std.proofs.Common.{◌≡◌, ℕ, zero, suc, ◌<◌, ◌≤◌, ltb, Some, None, Option, refl, arith}
use Rattle.std.proofs.lemmas.Bool.{ltb-true, ltb-false}
use Rattle.timers.specs.declared.meaning.Due.{Due}
use Rattle.timers.specs.Order.{NoLater, First}
use Rattle.rules.specs.Firsts.{sooner, first_below}
use Rattle.rules.specs.Laws.{FirstIsFirst}
use Rattle.rules.proofs.Cases.{by_test}

-- what is found of the keys below n
abbrev Found : ℕ → (ℕ → Option ℕ) → Option Due → Type 0
Found n f o = elim o [
  | None ↦ ((k : ℕ) → k < n → f k ≡ None)
  | Some d ↦ (f d.key ≡ Some d.deadline) × (d.key < n) × ((k a : ℕ) → k < n → f k ≡ Some a → NoLater d.key d.deadline k a)
]

module _ (n : ℕ) (f : ℕ → Option ℕ) where
  more : (o : Option Due) (x : Option ℕ) → f n ≡ x → Found n f o → Found (suc n) f (sooner o n x)
  more None None q F = λ k h. grind arith
  more None (Some a) q F = (q, omega arith, λ k b h r. grind arith)
  more (Some d) None q F = (F.0, omega (arith, F.1), λ k b h r. grind (arith, F.2))
  more (Some d) (Some a) q F =
      by_test (Found (suc n) f) (ltb a d.deadline) (Some (record { key = n; deadline = a })) (Some d)
      (λ lt. (q, omega arith, λ k b h r. grind (arith, F.2, ltb-true)))
      (λ ge. (F.0, omega (arith, F.1), λ k b h r. grind (arith, F.2, ltb-false)))

found : (n : ℕ) (f : ℕ → Option ℕ) → Found n f (first_below n f)
unfolding first_below
found zero f = λ k h. absurd (omega arith)
found (suc n) f = more n f (first_below n f) (f n) refl (found n f)

abbrev Whole : (ℕ → Option ℕ) → Option Due → Type 0
Whole f o = elim o [ None ↦ ((k : ℕ) → f k ≡ None) | Some d ↦ First f d.key d.deadline × (d.key < 64) ]

whole : (f : ℕ → Option ℕ) → ((k : ℕ) → 64 ≤ k → f k ≡ None) → (o : Option Due) → Found 64 f o → Whole f o
whole f past None F = λ k. grind arith
whole f past (Some d) F = ((F.0, λ k a r. grind (arith, F.2)), F.1)

pub first_is_first : FirstIsFirst
first_is_first f past = whole f past (first_below 64 f) (found 64 f)
