-- Two places exchanged.
use Rattle.std.proofs.Common.{◌≡◌, ℕ, ◌<◌, List, length, get_or, set, rules}
use Rattle.std.proofs.lemmas.Bool.Decides.{nat_tests}
use Rattle.timers.specs.Heaps.{Linked, exch}

-- key is the one in the place i
module _ (keys places : List ℕ) (i j key : ℕ) (li : i < 64) (lj : j < 64) (is : key ≡ get_or keys i 0) (h : Linked keys places) where
  pub keys_after : (x : ℕ) → get_or (set (set keys i (get_or keys j 0)) j key) x 0 ≡ get_or keys (exch i j x) 0
  unfolding exch
  keys_after x = search (rules, nat_tests)

  -- each key's new place
  pub places_after : (k : ℕ) → k < 64 → get_or (set (set places key j) (get_or keys j 0) i) k 0 ≡ exch i j (get_or places k 0)
  unfolding exch
  places_after k l = search (rules, nat_tests)

  -- linked keys stay linked
  pub linked_after : (K P : List ℕ) → length K ≡ 64 → length P ≡ 64 → ((x : ℕ) → get_or K x 0 ≡ get_or keys (exch i j x) 0) → ((k : ℕ) → k < 64 → get_or P k 0 ≡ exch i j (get_or places k 0)) → Linked K P
  unfolding exch
  linked_after K P lk lp moved placed = search (rules, nat_tests)

-- each key in the place of its own number
pub linked_numbers : (xs : List ℕ) → length xs ≡ 64 → ((k : ℕ) → k < 64 → get_or xs k 0 ≡ k) → Linked xs xs
linked_numbers xs l h = search (rules, nat_tests)
