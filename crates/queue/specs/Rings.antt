-- Records that are read in a ring.
use Rattle.std.specs.Prelude.{◌≡◌, ℕ, ◌+◌, ◌-◌, ◌<◌, ◌≤◌, List, ◌++◌, length, take, drop, slice_set}
use Rattle.message.specs.declared.record.Message.{Message}
use Rattle.queue.specs.declared.ring.RingQueue.{RingQueue}

-- how many records a ring can stand on
abbrev pub FitsRing : ℕ → Type 0
FitsRing n = (2 ≤ n) × (n ≤ 4096)

-- the records from place h on, and then from the start
abbrev pub turned : {X : Type 0} → ℕ → List X → List X
turned h xs = drop h xs ++ take h xs

-- what waits: `count` records from the head on
abbrev pub ringed : {X : Type 0} → List X → ℕ → ℕ → List X
ringed records head count = take count (turned head records)

-- the place that lies `count` after the head, round the end
abbrev pub Next : ℕ → ℕ → ℕ → ℕ → Type 0
Next head count size r = (r < size) × (head + count < size → r ≡ head + count) × (size ≤ head + count → r ≡ count - (size - head))

-- one place was written, and no other
abbrev pub OneWritten : {X : Type 0} → List X → X → List X → Type 0
OneWritten before x after = (i : ℕ) × (i < length before) × (after ≡ slice_set before i x)

-- the host's records that a ring stands on
abbrev pub records_of : RingQueue → List Message
records_of q = q.records.now

abbrev pub ring_waiting : RingQueue → List Message
ring_waiting q = ringed (records_of q) q.head q.count

abbrev pub ring_capacity : RingQueue → ℕ
ring_capacity q = length (records_of q)
