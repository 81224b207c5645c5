use Rattle.std.proofs.Common.{rules}
use Rattle.timers.proofs.Swapping.{linked_numbers}
use Rattle.timers.proofs.heap.links.Links.new.Goals as goal

pub invariant_of-result : goal.invariant_of-result
invariant_of-result c =
    let made = c.from_fn-numbers.ensures.items in
    record { linked = linked_numbers _ made.long (λ k l. let at = made.at k 0 l in search rules) }
