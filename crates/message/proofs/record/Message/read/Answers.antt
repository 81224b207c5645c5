use Rattle.std.proofs.Common.{arith}
use Rattle.message.proofs.Accepted.{accepted_made}
use Rattle.message.proofs.record.Message.read.Goals as goal

pub returns-clause-accepted : goal.returns-clause-accepted
returns-clause-accepted c =
    accepted_made c.args.bytes.now c.judge.result (λ i. omega (arith, c.type_inv.bytes i)) c.judge.ensures
