-- An overflow queue, by the meaning of the queue below.
use Rattle.std.specs.Prelude.{ℕ, ◌+◌, List, ◌++◌}
use Rattle.message.specs.declared.record.Message.{Message}
use Rattle.queue.specs.declared.meaning.Queue as queue
use Rattle.queue.specs.declared.overflow.OverflowQueue.{OverflowQueue}
use Rattle.queue.specs.Spills.{Settled}

module _ {Q : Type 0} where
  -- the list below, then its own
  abbrev pub all_waiting : queue.Ghosts Q → OverflowQueue Q → List Message
  all_waiting g o = g.waiting o.below ++ o.own.items

  abbrev pub all_capacity : queue.Ghosts Q → OverflowQueue Q → ℕ
  all_capacity g o = g.capacity o.below + 8

  -- its own places are used only while the queue below is full
  abbrev pub SettledIn : queue.Ghosts Q → OverflowQueue Q → Type 0
  SettledIn g o = Settled (g.waiting o.below) (g.capacity o.below) o.own.items
