-- The first of the running timers.
use Rattle.std.specs.Prelude.{ℕ, zero, suc, cond, Some, None, Option, nat_le, nat_lt}
use Rattle.timers.specs.declared.meaning.Due.{Due}

-- What was found so far, or the key at hand, which is larger than any before: it comes first only by a smaller deadline.
abbrev pub sooner : Option Due → ℕ → Option ℕ → Option Due
sooner found k None = found
sooner None k (Some a) = Some (record { key = k; deadline = a })
sooner (Some d) k (Some a) = cond (nat_lt a d.deadline) (Some (record { key = k; deadline = a })) (Some d)

unfoldable pub first_below : ℕ → (ℕ → Option ℕ) → Option Due
first_below zero f = None
first_below (suc n) f = sooner (first_below n f) n (f n)

-- the running key with the smallest deadline, the smaller key among equals, of the 64
abbrev pub first_of : (ℕ → Option ℕ) → Option Due
first_of f = first_below 64 f

-- the first, if its deadline is at this time or before
abbrev pub due_by : ℕ → (ℕ → Option ℕ) → Option Due
due_by t f = elim (first_of f) [ None ↦ None | Some d ↦ cond (nat_le d.deadline t) (Some d) None ]
