use Rattle.std.proofs.Common.{◌≡◌, ◌+◌, Some, count_ones}
use Rattle.timers.proofs.Firsts.{SoFar}
use Rattle.timers.proofs.bitmap.BitmapTimers.first_counted.Given as goal

abbrev pub invariant-loop-next : goal.invariant-loop-next
invariant-loop-next l = record {
  best : SoFar l.self.running l.next-iterator.rest (Some (record { key = l.key.index; deadline = l.deadline })) l.self.deadlines;
  turns : l.turns + count_ones l.next-iterator.rest ≡ count_ones l.self.running;
}
