use Rattle.std.proofs.Common.{rules}
use Rattle.dump.proofs.Rows.{row_more}
use Rattle.dump.proofs.hex.hex_row.Goals as goal

pub loop-rest-preserved : goal.loop-rest-preserved
loop-rest-preserved c = search (rules, row_more)
