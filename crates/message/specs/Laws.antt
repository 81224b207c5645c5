-- What holds of the format as a whole.
use Rattle.std.specs.Prelude.{◌≡◌, ℕ, ◌+◌, ◌<◌, cond, ◌||◌, List, Ok, ◌==◌}
use Rattle.std.specs.List.{AllByRecursion}
use Rattle.message.specs.declared.record.Message.{Message}
use Rattle.message.specs.Format.{row_of, byte, fault, verdict, Lawful}

abbrev pub Bytes : List ℕ → Type 0
Bytes = AllByRecursion (λ b. b < 256)

-- what is written reads back: the row of a lawful message is taken for that message
abbrev pub ReadsBack : Type 0
ReadsBack = (m : Message) → Lawful m → verdict (row_of m) ≡ Ok m

-- whatever is accepted is lawful
abbrev pub AcceptedIsLawful : Type 0
AcceptedIsLawful = (bytes : List ℕ) (m : Message) → verdict bytes ≡ Ok m → Lawful m

-- each message has one accepted row, and that is the row which is written
abbrev pub AcceptedIsRow : Type 0
AcceptedIsRow = (bytes : List ℕ) (m : Message) → Bytes bytes → verdict bytes ≡ Ok m → bytes ≡ row_of m

abbrev pub OneRow : Type 0
OneRow = (a b : List ℕ) (m : Message) → Bytes a → Bytes b → verdict a ≡ Ok m → verdict b ≡ Ok m → a ≡ b

-- the first n bytes are those of the row of m
abbrev pub Begins : ℕ → List ℕ → Message → Type 0
Begins n bytes m = (j : ℕ) → j < n → byte bytes j ≡ byte (row_of m) j

-- where the field that begins at byte i ends: three fields have two bytes
abbrev pub field_end : ℕ → ℕ
field_end i = cond (i == 4 || (i == 6 || i == 8)) (i + 2) (i + 1)

-- sixteen bytes are wrong where the fault says: no lawful row begins as they do, the field at the fault included
abbrev pub FaultIsWrong : Type 0
FaultIsWrong = (bytes : List ℕ) (i : ℕ) (m : Message) → verdict bytes ≡ fault i → i < 16 → Lawful m → Begins (field_end i) bytes m → ⊥

-- and not before: some lawful row has all bytes before the fault. (Past byte 2 only: some carriers and kinds never stand together, and byte 2 is wrong there.)
abbrev pub FaultIsFirst : Type 0
FaultIsFirst = (bytes : List ℕ) (i : ℕ) → Bytes bytes → verdict bytes ≡ fault i → 2 < i → i < 16 → (m : Message) × Lawful m × Begins i bytes m
