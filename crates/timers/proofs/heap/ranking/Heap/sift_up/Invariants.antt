use Rattle.std.proofs.Common.{slice_index, ◌≡◌, ◌+◌, ◌*◌, ◌<◌}
use Rattle.timers.specs.Heaps.{Rising}
use Rattle.timers.specs.HeapViews.{rank_in, Reordered}
use Rattle.timers.proofs.heap.ranking.Heap.sift_up.Given as goal

abbrev pub invariant-loop-at : goal.invariant-loop-at
invariant-loop-at l = record { within : l.at < l.self.count; rising : Rising (rank_in l.self) l.self.count l.at; kept : Reordered l.initial.self l.self; due : l.rising.deadline * 64 + l.rising.key ≡ rank_in l.self l.at; key : l.rising.key ≡ slice_index l.self.links.keys l.at }

abbrev pub decreases-loop-at : goal.decreases-loop-at
decreases-loop-at l = l.at
