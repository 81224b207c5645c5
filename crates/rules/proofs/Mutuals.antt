-- Partners that name each other still do after two legs have stepped.
use Rattle.std.proofs.Common.{◌≡◌, ◌≢◌, ◌⊎◌, Some, None, Option, sym, ◌∙◌, inl, inr, arith}
use Rattle.leg.specs.declared.place.Place.{Place}
use Rattle.rules.specs.Sound.{Tie, tied_to, returned}
use Rattle.rules.specs.Consistent.{Mutual}
use Rattle.rules.proofs.Tables.{place_same, place_cases}

pub tied_returned : (t : Tie) (p : Place) → tied_to (returned t p) ≡ p
tied_returned t p = grind arith

returned_back : (t : Tie) (p : Place) → returned (returned t p) (tied_to t) ≡ t
returned_back t p = grind arith

-- the ties of the legs that did not step, and of one that kept its own
pub mutual_same : (old new : Place → Option Tie) → ((p : Place) → new p ≡ old p) → Mutual old → Mutual new
mutual_same old new same M p t e =
    let B = M p t (sym (same p) ∙ e) in (same (tied_to t) ∙ B.0, B.1)

-- a leg has no partner but this one
abbrev pub Linked : (Place → Option Tie) → Place → Place → Type 0
Linked ties p q = (t : Tie) → ties p ≡ Some t → tied_to t ≡ q

-- two legs are each other's partner
pub record Paired (p q : Place) (a b : Option Tie) : Type 0 where
  pub tie : Tie
  pub first : a ≡ Some tie
  pub to : tied_to tie ≡ q
  pub second : b ≡ Some (returned tie p)

-- or neither has one
abbrev pub Joined : Place → Place → Option Tie → Option Tie → Type 0
Joined p q a b = ((a ≡ None) × (b ≡ None)) ⊎ Paired p q a b

module _ (old new : Place → Option Tie) (p q : Place) (apart : p.index ≢ q.index)
    (far : (x : Place) → x.index ≢ p.index → x.index ≢ q.index → new x ≡ old x)
    (lp : Linked old p q) (lq : Linked old q p) (M : Mutual old) where
  abbrev Kept : Place → Tie → Type 0
  Kept x t = (new (tied_to t) ≡ Some (returned t x)) × ((tied_to t).index ≢ x.index)

  at_first : Joined p q (new p) (new q) → (t : Tie) → new p ≡ Some t → Kept p t
  at_first (inl n) t e = cc
  at_first (inr P) t e = let to : tied_to t ≡ q = cc in (cc, λ i. apart cc)

  at_second : Joined p q (new p) (new q) → (t : Tie) → new q ≡ Some t → Kept q t
  at_second (inl n) t e = cc
  at_second (inr P) t e =
      let to : tied_to t ≡ p = cc (tied_returned P.tie p) in
      let back : returned t q ≡ P.tie = cc (returned_back P.tie p) in
      (cc, λ i. apart cc)

  -- a partner of a leg that did not step did not step
  not_to : (x y z : Place) → Linked old y z → x.index ≢ z.index → (t : Tie) → old (tied_to t) ≡ Some (returned t x) → (tied_to t).index ≢ y.index
  not_to x y z link ne t b i =
      let here : tied_to t ≡ y = place_same (tied_to t) y i in
      let to : tied_to (returned t x) ≡ z = link (returned t x) cc in
      ne (cc (tied_returned t x))

  elsewhere : (x : Place) → x.index ≢ p.index → x.index ≢ q.index → (t : Tie) → new x ≡ Some t → Kept x t
  elsewhere x a b t e =
      let B = M x t (sym (far x a b) ∙ e) in
      (far (tied_to t) (not_to x p q lp b t B.0) (not_to x q p lq a t B.0) ∙ B.0, B.1)

  pub mutual_two : Joined p q (new p) (new q) → Mutual new
  mutual_two J x t e =
      elim (place_cases x p) [
        | inl f ↦ rw f (at_first J t (rw f at e))
        | inr a ↦ elim (place_cases x q) [
          | inl f ↦ rw f (at_second J t (rw f at e))
          | inr b ↦ elsewhere x a b t e
        ]
      ]
