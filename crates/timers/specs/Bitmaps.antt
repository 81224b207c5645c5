-- A word of running keys, and a deadline for each.
use Rattle.std.specs.Prelude.{◌≡◌, ℕ, ◌+◌, ◌<◌, ◌≢◌, cond, ◌&&◌, List, Some, None, Option, ◌==◌, nat_lt, slice_index, MatchOption, count_ones}
use Rattle.std.specs.Int.{bit_at}
use Rattle.timers.specs.declared.key.Key.{Key}

-- what they mean: a key runs whose digit is 1
abbrev pub bitmap_meant : ℕ → List ℕ → ℕ → Option ℕ
bitmap_meant w dl k = cond (nat_lt k 64 && bit_at w k == 1) (Some (slice_index dl k)) None

-- the digit k of w is 1, and none below it is
pub record IsLowest (w k : ℕ) : Type 0 where
  pub on : bit_at w k ≡ 1
  pub least : (i : ℕ) → i < k → bit_at w i ≡ 0

-- v is w without its digit k, which is 1
pub record Without (w k v : ℕ) : Type 0 where
  pub off : bit_at v k ≡ 0
  pub others : (i : ℕ) → i ≢ k → bit_at v i ≡ bit_at w i
  pub ones_less : count_ones v + 1 ≡ count_ones w

-- what is taken of a word w, of which v is left: none where no digit is 1
abbrev pub TakesLowest : ℕ → Option Key → ℕ → Type 0
TakesLowest w r v = MatchOption r ((w ≡ 0) × (v ≡ 0)) (λ key. IsLowest w key.index × Without w key.index v)
