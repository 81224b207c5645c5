use Rattle.std.proofs.Common.{arith}
use Rattle.queue.proofs.Turning.{length_ringed, put_at}
use Rattle.queue.proofs.ring.RingQueueQueue.put.Goals as goal

pub returns-clause-cases : goal.returns-clause-cases
returns-clause-cases c =
    let q = c.args.self.now in
    let long = length_ringed q.count q.head q.records.now in
    let stored = c.store.ensures in
    (omega arith, rw (stored.all, stored.head, stored.count) (put_at q.records.now _ _ _ _ (omega arith) (omega arith) c.place-place.ensures))
