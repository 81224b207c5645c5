-- The first of a heap, and the heap after an entry is set or stopped.
use Rattle.std.proofs.Common.{◌≡◌, ℕ, zero, suc, ◌+◌, ◌-◌, ◌/◌, ◌<◌, ◌≤◌, ◌≢◌, eqb, List, get_or, set, Some, None, sym, ap, ◌∙◌, arith, rules}
use Rattle.std.specs.Map.{update}
use Rattle.std.proofs.lemmas.Bool.Decides.{nat_tests}
use Rattle.std.proofs.lemmas.List.{get_or-set_same, get_or-set_other}
use Rattle.timers.specs.declared.heap.ranking.Heap.{Heap}
use Rattle.timers.specs.Order.{First}
use Rattle.timers.specs.Heaps.{Loose, Ordered, ranked, heap_meant, exch}
use Rattle.timers.specs.HeapViews.{place_in, rank_in, deadlines_in, Reordered}

-- ---- the first

-- the root ranks no later than any other: by the way up from i
root_least : (R : ℕ → ℕ) (n : ℕ) → Ordered R n → (m i : ℕ) → i ≤ m → i < n → R 0 ≤ R i
root_least R n h zero i u l = grind arith
root_least R n h (suc m) i u l = grind (arith, root_least R n h m ((i - 1) / 2))

pub heap_first : (h : Heap) (key at : ℕ) → Ordered (rank_in h) h.count → 0 < h.count → key ≡ get_or h.links.keys 0 0 → at ≡ get_or h.deadlines key 0 → First (deadlines_in h) key at
heap_first h key at order p e d =
    let there : place_in h key ≡ 0 = ap (place_in h) e ∙ h.links.linked.there 0 (omega arith) in
    let least = root_least (rank_in h) h.count order in
    (grind (arith, nat_tests, h.links.linked.low 0), λ k a s. grind (arith, nat_tests, least (place_in h k) (place_in h k), h.links.linked.back k))

-- ---- what is meant

pub reordered_meant : (h s : Heap) → Reordered h s → deadlines_in s ≡ deadlines_in h
reordered_meant h s r i k = go k i
  where
    go : (k : ℕ) → deadlines_in s k ≡ deadlines_in h k
    go k = rw (r.count, r.deadlines) (grind (arith, nat_tests, r.running))

-- after the key's place p is exchanged with the place j: Q are the places, ats the deadlines and n the count then
module _ (h : Heap) (Q ats : List ℕ) (n key p j : ℕ) (l : key < 64) (at_p : p ≡ place_in h key) (placed : (k : ℕ) → k < 64 → get_or Q k 0 ≡ exch p j (place_in h k)) where
  apart : (k : ℕ) → k < 64 → k ≢ key → place_in h k ≡ place_in h key → ⊥
  apart k m other e = other (sym (h.links.linked.back k m) ∙ ap (λ x. get_or h.links.keys x 0) e ∙ h.links.linked.back key l)

  -- it comes in, from a place past the others
  pub comes_in : (at : ℕ) → j ≡ h.count → h.count ≤ place_in h key → ats ≡ set h.deadlines key at → n ≡ h.count + 1 → heap_meant Q ats n ≡ update eqb (deadlines_in h) key (Some at)
  unfolding exch
  comes_in at last stopped e more i k = go k i
    where
      go : (k : ℕ) → heap_meant Q ats n k ≡ update eqb (deadlines_in h) key (Some at) k
      go k = rw (e, more) (grind (arith, nat_tests, placed k, apart k, get_or-set_same, get_or-set_other, h.sized))

  -- it goes out, and the last one takes its place
  pub goes_out : j ≡ n → place_in h key < h.count → ats ≡ h.deadlines → n ≡ h.count - 1 → heap_meant Q ats n ≡ update eqb (deadlines_in h) key None
  unfolding exch
  goes_out last runs e less i k = go k i
    where
      go : (k : ℕ) → heap_meant Q ats n k ≡ update eqb (deadlines_in h) key None k
      go k = rw (e, less) (grind (arith, nat_tests, placed k, apart k))

-- ---- all is in order but for one place: K and ats are the keys and the deadlines after it

module _ (h : Heap) (K ats : List ℕ) (p n : ℕ) (order : Ordered (rank_in h) h.count) where
  pub loose_in : (key at : ℕ) → p ≡ place_in h key → h.count ≤ place_in h key → n ≡ h.count + 1 → ats ≡ set h.deadlines key at → ((x : ℕ) → get_or K x 0 ≡ get_or h.links.keys (exch p h.count x) 0) → Loose (ranked K ats) n h.count
  unfolding exch
  loose_in key at e l more w moved = rw (more, w) (search (rules, nat_tests, get_or-set_other))

  pub loose_out : n ≡ h.count - 1 → ats ≡ h.deadlines → ((x : ℕ) → get_or K x 0 ≡ get_or h.links.keys (exch p n x) 0) → Loose (ranked K ats) n p
  unfolding exch
  loose_out less same moved = rw same (search (rules, nat_tests))

  pub order_out : n ≡ h.count - 1 → ats ≡ h.deadlines → ((x : ℕ) → get_or K x 0 ≡ get_or h.links.keys (exch p n x) 0) → p ≡ n → Ordered (ranked K ats) n
  unfolding exch
  order_out less same moved e = rw same (search (rules, nat_tests))
