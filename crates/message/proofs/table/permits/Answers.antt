use Rattle.std.proofs.Common.{arith}
use Rattle.message.proofs.Masks.{bit_right}
use Rattle.message.proofs.table.permits.Goals as goal

pub returns-then-operation-le8 : goal.returns-then-operation-le8
returns-then-operation-le8 c =
    bit_right c.mask.result c.args.carrier c.args.kind c.args.operation c.mask.ensures (omega arith)
