use Rattle.std.proofs.Common.{arith}
use Rattle.timers.proofs.Heaping.{heap_first}
use Rattle.timers.proofs.heap.HeapTimersTimers.first.Goals as goal

pub returns : goal.returns
returns c =
    let s = c.args.self.now in
    let e = c.due_in.ensures in
    heap_first s.heap _ _ s.order (omega arith) e.key e.deadline
