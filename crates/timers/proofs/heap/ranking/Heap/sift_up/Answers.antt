use Rattle.std.proofs.Common.{slice_index, ◌-◌, ◌/◌, sym, refl, ap, ◌∙◌, arith, ltb-true}
use Rattle.timers.specs.Heaps.{rank}
use Rattle.timers.specs.HeapViews.{rank_in}
use Rattle.timers.proofs.Sifting.{exch_second, rising_more, reordered_swap}
use Rattle.timers.proofs.heap.ranking.Heap.sift_up.Goals as goal

pub loop-at-preserved : goal.loop-at-preserved
loop-at-preserved c =
    let i = c.loop-at.invariant in
    let h = c.loop-at.self in
    let at = c.loop-at.at in
    let up = (at - 1) / 2 in
    let s = c.exchange.ensures in
    let less = ltb-true _ _ (sym c.precedes.ensures ∙ c.if-not-precedes.false) in
    record {
      within = omega arith;
      rising = rising_more _ _ _ at up refl (omega arith) i.within (λ x. ap (rank h.deadlines) (s.moved x)) (omega (arith, less, i.due)) i.rising;
      kept = reordered_swap _ h _ at up refl refl s.placed i.within (omega arith) i.kept;
      due = i.due ∙ sym (ap (rank h.deadlines) (s.moved up) ∙ ap (rank_in h) (exch_second at up));
      key = i.key ∙ sym (s.moved up ∙ ap (slice_index h.links.keys) (exch_second at up));
    }
