-- At most two of a kind.
use Rattle.std.specs.Prelude.{Some, None, Option}
use Rattle.leg.specs.declared.reaction.UpToTwo.{UpToTwo}
use Rattle.leg.specs.declared.reaction.UpToTwo.TheVariants as few

-- those of the two that are there, in their order
module _ {A : Type 0} where
  abbrev pub up_to_two : Option A → Option A → UpToTwo A
  up_to_two x y = elim x [
    | None ↦ elim y [ None ↦ few.Zero | Some b ↦ few.One b ]
    | Some a ↦ elim y [ None ↦ few.One a | Some b ↦ few.Two a b ]
  ]
