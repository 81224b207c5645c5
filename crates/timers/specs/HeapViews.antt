-- What the code's heap shows: where its keys stand, how they rank and which deadlines they have.
use Rattle.std.specs.Prelude.{◌≡◌, ℕ, ◌<◌, Option, nat_lt, slice_index}
use Rattle.timers.specs.Heaps.{ranked, Ordered, heap_meant}
use Rattle.timers.specs.declared.heap.ranking.Heap.{Heap}

-- the place of a key
abbrev pub place_in : Heap → ℕ → ℕ
place_in h k = slice_index h.links.places k

-- the rank of the key in a place
abbrev pub rank_in : Heap → ℕ → ℕ
rank_in h x = ranked h.links.keys h.deadlines x

-- what the heap means
abbrev pub deadlines_in : Heap → ℕ → Option ℕ
deadlines_in h = heap_meant h.links.places h.deadlines h.count

-- the same keys run, with the same deadlines
pub record Reordered (old new : Heap) : Type 0 where
  pub count : new.count ≡ old.count
  pub deadlines : new.deadlines ≡ old.deadlines
  pub running : (k : ℕ) → k < 64 → nat_lt (place_in new k) old.count ≡ nat_lt (place_in old k) old.count

-- the same, in order
pub record Settled (old new : Heap) : Type 0 where
  pub same : Reordered old new
  pub order : Ordered (rank_in new) new.count
