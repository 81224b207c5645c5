-- What holds of every queue.
use Rattle.std.specs.Prelude.{ℕ, ◌≤◌, List, length}
use Rattle.message.specs.declared.record.Message.{Message}

abbrev pub Bounds : List Message → ℕ → Type 0
Bounds waiting capacity = (2 ≤ capacity) × (length waiting ≤ capacity)
