-- The own places of an overflow queue, by the list of the queue below.
use Rattle.std.specs.Prelude.{◌≡◌, ℕ, ◌<◌, List, [], ◌∷◌, ◌++◌, length}
use Rattle.message.specs.declared.record.Message.{Message}

-- the own places are used only while the queue below is full
abbrev pub Settled : List Message → ℕ → List Message → Type 0
Settled below capacity own = 0 < length own → length below ≡ capacity

-- the first of the own went to the end of the list below, which had a place for it
abbrev pub Moved : ℕ → List Message → List Message → List Message → List Message → Type 0
Moved capacity below own below' own' =
    (length below < capacity) × ((m : Message) × (below' ≡ below ++ m ∷ []) × (own ≡ m ∷ own'))
