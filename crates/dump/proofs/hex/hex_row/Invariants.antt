use Rattle.std.proofs.Common.{◌≡◌, length, vec_items}
use Rattle.dump.specs.Hex.{hex_row}
use Rattle.dump.proofs.Rows.{after}
use Rattle.dump.proofs.hex.hex_row.Given as goal

abbrev pub invariant-loop-rest : goal.invariant-loop-rest
invariant-loop-rest l = hex_row l.line ≡ after (vec_items l.bytes) (hex_row l.rest)

abbrev pub decreases-loop-rest : goal.decreases-loop-rest
decreases-loop-rest l = length l.rest
