-- A key's way up or down, by one exchange of two places.
use Rattle.std.proofs.Common.{◌≡◌, ℕ, ◌-◌, ◌/◌, ◌<◌, ◌≤◌, ◌∙◌, arith, rules}
use Rattle.std.proofs.lemmas.Bool.Decides.{nat_tests}
use Rattle.timers.specs.declared.heap.ranking.Heap.{Heap}
use Rattle.timers.specs.Heaps.{Rising, Sinking, exch}
use Rattle.timers.specs.HeapViews.{place_in, Reordered}

pub exch_second : (i j : ℕ) → exch i j j ≡ i
unfolding exch
exch_second i j = grind (arith, nat_tests)

-- over the ranks R and S by place, before and after; p is the parent
pub rising_more : (R S : ℕ → ℕ) (n i p : ℕ) → p ≡ (i - 1) / 2 → 0 < i → i < n → ((x : ℕ) → S x ≡ R (exch i p x)) → R i < R p → Rising R n i → Rising S n p
unfolding exch
rising_more R S n i p e a l s less h = search (rules, nat_tests)

-- ch is the child that comes first
pub sinking_more : (R S : ℕ → ℕ) (n i ch : ℕ) → i ≡ (ch - 1) / 2 → 0 < ch → ch < n → ((x : ℕ) → S x ≡ R (exch i ch x)) → R ch < R i → ((j : ℕ) → 0 < j → j < n → (j - 1) / 2 ≡ i → R ch ≤ R j) → Sinking R n i → Sinking S n ch
unfolding exch
sinking_more R S n i ch e a l s less least h = search (rules, nat_tests)

-- s is the heap h after the keys of the places i and j are exchanged, both below the count
pub reordered_swap : (old h s : Heap) (i j : ℕ) → s.count ≡ h.count → s.deadlines ≡ h.deadlines → ((k : ℕ) → k < 64 → place_in s k ≡ exch i j (place_in h k)) → i < h.count → j < h.count → Reordered old h → Reordered old s
unfolding exch
reordered_swap old h s i j n ats placed a b r = record {
  count = n ∙ r.count;
  deadlines = ats ∙ r.deadlines;
  running = λ k l. grind (arith, nat_tests, placed k l, r.running k l, r.count);
}
