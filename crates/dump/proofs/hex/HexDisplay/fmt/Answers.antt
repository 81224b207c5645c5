use Rattle.std.proofs.Common.{rules, arith}
use Rattle.std.proofs.Output.{has_written_append, has_written_of_eq}
use Rattle.dump.specs.Hex.{hex_text}
use Rattle.dump.proofs.Rows.{hex_more}
use Rattle.dump.proofs.hex.HexDisplay.fmt.Goals as goal

pub loop-byte-init : goal.loop-byte-init
unfolding hex_text
loop-byte-init g c = search rules

pub loop-byte-preserved : goal.loop-byte-preserved
loop-byte-preserved g c = λ plain.
    let so_far = c.loop-byte.invariant plain in
    has_written_of_eq _ _ _ _ _ (hex_more c.args.self.now.0.now c.loop-byte.byte-index (omega arith))
    (has_written_append _ _ _ _ _ _ so_far (c.write_byte.ensures so_far.plain (search rules)))
