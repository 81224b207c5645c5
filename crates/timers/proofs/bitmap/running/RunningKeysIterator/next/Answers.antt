use Rattle.std.proofs.Common.{arith, rules}
use Rattle.timers.proofs.LowestOne.{is_lowest, clears}
use Rattle.timers.proofs.bitmap.running.RunningKeysIterator.next.Goals as goal

pub returns-clause-steps : goal.returns-clause-steps
returns-clause-steps c = let w = c.args.self.now.rest in (is_lowest w (omega arith) (omega arith), clears 64 w (omega arith) (omega arith))

pub returns-clause-goes : goal.returns-clause-goes
returns-clause-goes c = let less = (clears 64 c.args.self.now.rest (omega arith) (omega arith)).ones_less in search rules
