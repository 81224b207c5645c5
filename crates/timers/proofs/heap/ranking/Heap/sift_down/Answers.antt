use Rattle.std.proofs.Common.{slice_index, sym, refl, ap, ◌∙◌, arith, ltb-true}
use Rattle.timers.specs.Heaps.{rank}
use Rattle.timers.specs.HeapViews.{rank_in}
use Rattle.timers.proofs.Sifting.{exch_second, sinking_more, reordered_swap}
use Rattle.timers.proofs.heap.ranking.Heap.sift_down.Goals as goal

pub loop-at-preserved : goal.loop-at-preserved
loop-at-preserved c =
    let i = c.loop-at.invariant in
    let h = c.loop-at.self in
    let at = c.loop-at.at in
    let ch = c.least_child-child.result in
    let e = c.least_child-child.ensures in
    let s = c.exchange.ensures in
    let less = ltb-true _ _ (sym c.precedes.ensures ∙ c.if-not-precedes.false) in
    record {
      within = omega arith;
      sinking = sinking_more _ _ _ at ch e.child.0 e.child.1 e.child.2 (λ x. ap (rank h.deadlines) (s.moved x)) (omega (arith, less, i.due)) e.least i.sinking;
      kept = reordered_swap _ h _ at ch refl refl s.placed i.within (omega arith) i.kept;
      due = i.due ∙ sym (ap (rank h.deadlines) (s.moved ch) ∙ ap (rank_in h) (exch_second at ch));
      key = i.key ∙ sym (s.moved ch ∙ ap (slice_index h.links.keys) (exch_second at ch));
    }
