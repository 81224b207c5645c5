-- What holds of each case of a choice holds of the choice.
use Rattle.std.proofs.Common.{Option, Some, None, ◌≡◌, Bool, true, false, cond, ◌&&◌, refl}
use Rattle.std.proofs.lemmas.Bool.{and_parts}
use Rattle.leg.specs.declared.record.Owed.{Owed}
use Rattle.leg.specs.declared.record.Phase.{Phase}
use Rattle.leg.specs.declared.record.Phase.TheVariants as phase
use Rattle.leg.specs.declared.record.Transfer.{Transfer}
use Rattle.leg.specs.declared.record.Transfer.TheVariants as transfer
use Rattle.leg.specs.Views.{when_ringing, when_asked}

module _ {A : Type 0} (P : A → Type 0) where
  pub by_test : (b : Bool) (x y : A) → (b ≡ true → P x) → (b ≡ false → P y) → P (cond b x y)
  by_test true x y f g = f refl
  by_test false x y f g = g refl

  pub by_option : {B : Type 0} (o : Option B) (x : A) (f : B → A) → P x → ((b : B) → P (f b)) → P (elim o [ None ↦ x | Some b ↦ f b ])
  by_option None x f g h = g
  by_option (Some b) x f g h = h b

  pub by_ringing : (p : Phase) (f : Owed → A) (x : A) → ((o : Owed) → p ≡ phase.Ringing o → P (f o)) → P x → P (when_ringing p f x)
  by_ringing (phase.Ringing o) f x g h = g o refl
  by_ringing _ f x g h = h

  pub by_asked : (t : Transfer) (f : Owed → A) (x : A) → ((o : Owed) → t ≡ transfer.Asked o → P (f o)) → P x → P (when_asked t f x)
  by_asked (transfer.Asked o) f x g h = g o refl
  by_asked _ f x g h = h

pub both : (a b : Bool) → (a && b) ≡ true → (a ≡ true) × (b ≡ true)
both = and_parts
