-- What holds of the printed lines as a whole.
use Rattle.std.specs.Prelude.{◌≡◌, ℕ, List, Some}
use Rattle.message.specs.declared.record.Message.{Message}
use Rattle.message.specs.Format.{row_of, Lawful}
use Rattle.message.specs.Laws.{Bytes}
use Rattle.dump.specs.Hex.{hex_row, hex_text}
use Rattle.dump.specs.Lines.{message_text, text_of}

-- the digits of any bytes mean those bytes
abbrev pub DigitsBack : Type 0
DigitsBack = (bytes : List ℕ) → Bytes bytes → hex_row (hex_text bytes) ≡ Some bytes

-- the digits that are printed for a lawful message, put in again, are printed as the same line
abbrev pub PrintsAgain : Type 0
PrintsAgain = (m : Message) → Lawful m → text_of (hex_row (hex_text (row_of m))) ≡ message_text m
