use Rattle.std.proofs.Common.{◌≡◌, ◌+◌, ◌-◌, ◌∷◌, sym, ap, arith, ◌∙◌}
use Rattle.queue.specs.Rings.{ringed}
use Rattle.queue.proofs.Turning.{take_at}
use Rattle.queue.proofs.ring.RingQueueQueue.take.Goals as goal

pub returns-clause-cases : goal.returns-clause-cases
returns-clause-cases c =
    let q = c.args.self.now in
    let some : q.count ≡ q.count - 1 + 1 = omega arith in
    let first = c.record-message.result in
    ap (ringed q.records.now q.head) some
    ∙ take_at q.records.now _ _ _ first (omega arith) (omega arith) c.place-self.ensures
    ∙ ap (λ m. m ∷ ringed q.records.now c.place-self.result (q.count - 1)) (sym c.record-message.ensures)
