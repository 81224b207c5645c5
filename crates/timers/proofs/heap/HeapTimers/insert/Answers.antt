use Rattle.std.proofs.Common.{◌+◌, refl, ap, ◌∙◌, get_or}
use Rattle.timers.proofs.Heaping.{loose_in, comes_in, reordered_meant}
use Rattle.timers.proofs.heap.HeapTimers.insert.Goals as goal

pub settle-requires-clause-loose : goal.settle-requires-clause-loose
settle-requires-clause-loose c =
    let s = c.args.self.now in
    let w = c.write.ensures in
    loose_in s.heap _ _ _ _ s.order c.args.key.index c.args.deadline c.place_of-from.ensures.place c.requires.stopped (ap (λ n. n + 1) w.count) w.deadlines (λ x. ap (λ ls. get_or ls.keys x 0) w.links ∙ c.swap.ensures.moved x)

pub returns : goal.returns
returns c =
    let h = c.args.self.now.heap in
    let w = c.write.ensures in
    record { meant = reordered_meant _ _ c.settle.ensures.same ∙ comes_in h _ _ _ c.args.key.index _ _ c.args.key.below c.place_of-from.ensures.place (λ k l. ap (λ ls. get_or ls.places k 0) w.links ∙ c.swap.ensures.placed k l) c.args.deadline refl c.requires.stopped w.deadlines (ap (λ n. n + 1) w.count) }
