use Rattle.std.proofs.Common.{refl, ◌∙◌, arith}
use Rattle.timers.proofs.Heaping.{loose_out, order_out, goes_out, reordered_meant}
use Rattle.timers.proofs.heap.HeapTimers.remove.Goals as goal

pub settle-requires-clause-loose : goal.settle-requires-clause-loose
settle-requires-clause-loose c =
    let s = c.args.self.now in
    loose_out s.heap _ _ _ _ s.order refl refl c.swap.ensures.moved

pub invariant_of-self-else-place-last : goal.invariant_of-self-else-place-last
invariant_of-self-else-place-last c =
    let s = c.args.self.now in
    record { order = order_out s.heap _ _ _ _ s.order refl refl c.swap.ensures.moved (omega arith) }

pub returns-then-place-last : goal.returns-then-place-last
returns-then-place-last c =
    let h = c.args.self.now.heap in
    record { meant = reordered_meant _ _ c.settle.ensures.same ∙ goes_out h _ _ _ c.args.key.index _ _ c.args.key.below c.place_of-place.ensures.place c.swap.ensures.placed refl c.requires.running refl refl }

pub returns-else-place-last : goal.returns-else-place-last
returns-else-place-last c =
    let h = c.args.self.now.heap in
    record { meant = goes_out h _ _ _ c.args.key.index _ _ c.args.key.below c.place_of-place.ensures.place c.swap.ensures.placed refl c.requires.running refl refl }
