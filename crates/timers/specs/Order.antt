-- Which of the running keys is first.
use Rattle.std.specs.Prelude.{◌≡◌, ℕ, ◌≤◌, Some, Option}

-- key j with deadline b comes no later than key k with deadline a
abbrev pub NoLater : ℕ → ℕ → ℕ → ℕ → Type 0
NoLater j b k a = (b ≤ a) × (a ≡ b → j ≤ k)

-- the key runs to this deadline, and no running key has a smaller deadline, nor an equal one at a smaller key
abbrev pub First : (ℕ → Option ℕ) → ℕ → ℕ → Type 0
First deadlines key deadline =
    (deadlines key ≡ Some deadline) × ((k a : ℕ) → deadlines k ≡ Some a → NoLater key deadline k a)
