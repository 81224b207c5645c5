-- A binary heap of keys by deadline, then key, with the place of each key.
use Rattle.std.specs.Prelude.{◌≡◌, ℕ, ◌+◌, ◌-◌, ◌*◌, ◌/◌, ◌<◌, ◌≤◌, cond, ◌&&◌, List, length, Some, None, Option, ◌==◌, ◌≢◌, nat_lt, slice_index}

-- a key's rank: by deadline, then key, as one number
abbrev pub rank : List ℕ → ℕ → ℕ
rank ats k = slice_index ats k * 64 + k

-- the rank of the key that stands in a place
abbrev pub ranked : List ℕ → List ℕ → ℕ → ℕ
ranked keys ats x = rank ats (slice_index keys x)

-- no place below n comes before its parent
abbrev pub Ordered : (ℕ → ℕ) → ℕ → Type 0
Ordered R n = (j : ℕ) → 0 < j → j < n → R ((j - 1) / 2) ≤ R j

-- what a heap means
abbrev pub heap_meant : List ℕ → List ℕ → ℕ → ℕ → Option ℕ
heap_meant places ats n k = cond (nat_lt k 64 && nat_lt (slice_index places k) n) (Some (slice_index ats k)) None

-- each of 64 keys stands in one of 64 places, and knows it
pub record Linked (keys places : List ℕ) : Type 0 where
  pub key_places : length keys ≡ 64
  pub place_places : length places ≡ 64
  pub low : (i : ℕ) → i < 64 → slice_index keys i < 64
  pub inside : (k : ℕ) → k < 64 → slice_index places k < 64
  pub there : (i : ℕ) → i < 64 → slice_index places (slice_index keys i) ≡ i
  pub back : (k : ℕ) → k < 64 → slice_index keys (slice_index places k) ≡ k

-- where a place's key is once i and j are exchanged
unfoldable pub exch : ℕ → ℕ → ℕ → ℕ
exch i j x = cond (x == i) j (cond (x == j) i x)

-- in order but for the place i, whose children come no earlier than its parent
pub record Rising (R : ℕ → ℕ) (n i : ℕ) : Type 0 where
  pub but : (j : ℕ) → 0 < j → j < n → (j ≢ i) → R ((j - 1) / 2) ≤ R j
  pub over : (j : ℕ) → 0 < j → j < n → (j - 1) / 2 ≡ i → 0 < i → R ((i - 1) / 2) ≤ R j

-- in order but for the children of the place i, which come no earlier than its parent
pub record Sinking (R : ℕ → ℕ) (n i : ℕ) : Type 0 where
  pub but : (j : ℕ) → 0 < j → j < n → ((j - 1) / 2 ≢ i) → R ((j - 1) / 2) ≤ R j
  pub over : (j : ℕ) → 0 < j → j < n → (j - 1) / 2 ≡ i → 0 < i → R ((i - 1) / 2) ≤ R j

-- in order but for the place i and its children, which come no earlier than its parent
pub record Loose (R : ℕ → ℕ) (n i : ℕ) : Type 0 where
  pub but : (j : ℕ) → 0 < j → j < n → (j ≢ i) → ((j - 1) / 2 ≢ i) → R ((j - 1) / 2) ≤ R j
  pub over : (j : ℕ) → 0 < j → j < n → (j - 1) / 2 ≡ i → 0 < i → R ((i - 1) / 2) ≤ R j
