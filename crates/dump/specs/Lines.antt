-- What is printed for a line of input, and what is counted.
use Rattle.std.specs.Prelude.{ℕ, ◌+◌, ◌-◌, ◌^◌, min, Bool, cond, ◌&&◌, List, ◌++◌, length, take, Some, None, Ok, Err, codes, decimal, Option, Result, ◌==◌, nat_le, slice_index}
use Rattle.message.specs.declared.record.Message.{Message}
use Rattle.message.specs.declared.record.MessageFault.{MessageFault}
use Rattle.message.specs.Format.{row_of, verdict}
use Rattle.dump.specs.declared.lines.Form.{Form}
use Rattle.dump.specs.declared.lines.Form.TheVariants as form
use Rattle.dump.specs.declared.tally.Tally.{Tally}
use Rattle.dump.specs.Hex.{hex_row, hex_text}
use Rattle.message.specs.Words.{words, fault_words}

-- the k-th character from the end is c
abbrev pub from_end : ℕ → ℕ → List ℕ → Bool
from_end k c line = nat_le k (length line) && slice_index line (length line - k) == c

-- a line without its end, which is LF or CR LF
abbrev pub content : List ℕ → List ℕ
content line =
    cond (from_end 1 10 line)
    (cond (from_end 2 13 line) (take (length line - 2) line) (take (length line - 1) line))
    line

abbrev pub form_of : Option (List ℕ) → Form
form_of None = form.Unreadable
form_of (Some bytes) = elim (verdict bytes) [ Ok m ↦ form.Message | Err f ↦ form.Fault ]

-- the row of a message in digits, and the message in words
abbrev pub message_text : Message → List ℕ
message_text m = hex_text (row_of m) ++ (codes " " ++ words m)

-- a row that is a message, or the number of its fault
abbrev pub told : Result Message MessageFault → List ℕ
told (Ok m) = message_text m
told (Err f) = fault_words f

-- and a question mark for what is no row
abbrev pub text_of : Option (List ℕ) → List ℕ
text_of None = codes "?"
text_of (Some bytes) = told (verdict bytes)

abbrev pub form_of_line : List ℕ → Form
form_of_line line = form_of (hex_row (content line))

abbrev pub text_of_line : List ℕ → List ℕ
text_of_line line = text_of (hex_row (content line))

-- one more, up to the largest number of 64 bits
abbrev pub more : ℕ → ℕ
more n = min (n + 1) (2 ^ 64 - 1)

abbrev pub counted : Form → Tally → Tally
counted form.Message t = record { messages = more t.messages; faults = t.faults; unreadable = t.unreadable }
counted form.Fault t = record { messages = t.messages; faults = more t.faults; unreadable = t.unreadable }
counted form.Unreadable t = record { messages = t.messages; faults = t.faults; unreadable = more t.unreadable }

abbrev pub summary_of : Tally → List ℕ
summary_of t =
    decimal t.messages ++
    (codes " messages, " ++
    (decimal t.faults ++ (codes " faults, " ++ (decimal t.unreadable ++ codes " unreadable lines"))))
