-- What the methods of a set of timers do to its deadlines.
use Rattle.std.specs.Prelude.{◌≡◌, ℕ, ◌<◌, ◌≤◌, None, Option, Result, nat_eq, MatchOption, MatchResult}
use Rattle.std.specs.Map.{update}
use Rattle.timers.specs.declared.meaning.Due.{Due}
use Rattle.timers.specs.declared.meaning.NoSuchKey.{NoSuchKey}
use Rattle.timers.specs.Order.{First}

-- a key below 64 has this deadline, or none, and the others have theirs; any other key is refused, and changes nothing
abbrev pub Gives : {S : Type 0} → (S → ℕ → Option ℕ) → ℕ → Option ℕ → S → S → Result (Unit {0}) NoSuchKey → Type 0
Gives deadlines key at old new r =
    MatchResult r (λ _. (key < 64) × (deadlines new ≡ update nat_eq (deadlines old) key at)) (λ _. (64 ≤ key) × (new ≡ old))

-- the first of the running keys, or none exactly when none runs
abbrev pub IsFirstDue : (ℕ → Option ℕ) → Option Due → Type 0
IsFirstDue deadlines r = MatchOption r ((k : ℕ) → deadlines k ≡ None) (λ d. First deadlines d.key d.deadline)
