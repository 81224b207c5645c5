-- What every queue does.
use Rattle.std.specs.Prelude.{⊤, ◌≡◌, ℕ, ◌<◌, List, [], ◌∷◌, ◌++◌, length, Option, Result, MatchOption, MatchResult}
use Rattle.message.specs.declared.record.Message.{Message}

module _ {S : Type 0} (waiting : S → List Message) where
  -- the message went to the end, or was refused, without change, exactly when as many waited as the capacity
  abbrev pub Puts : {E : Type 0} → (S → ℕ) → Message → S → S → Result ⊤ E → Type 0
  Puts capacity message old new result =
      MatchResult result
      (λ _. (length (waiting old) < capacity old) × (waiting new ≡ waiting old ++ message ∷ []))
      (λ _. (length (waiting old) ≡ capacity old) × (new ≡ old))

  -- the first was removed and given, or none, without change, exactly when none waited
  abbrev pub Takes : S → S → Option Message → Type 0
  Takes old new result =
      MatchOption result
      ((waiting old ≡ []) × (new ≡ old))
      (λ first. waiting old ≡ first ∷ waiting new)
