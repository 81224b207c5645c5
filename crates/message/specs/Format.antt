-- A message as a row of sixteen bytes: where each field stands, which byte is wrong first, and what is lawful.
use Rattle.std.specs.Prelude.{◌≡◌, ℕ, suc, ◌+◌, ◌*◌, ◌/◌, ◌%◌, Bool, true, false, cond, not, List, [], ◌∷◌, length, Some, None, Ok, Err, Option, Result, ◌==◌, slice_index}
use Rattle.message.specs.declared.codes.Carrier.{Carrier}
use Rattle.message.specs.declared.codes.Kind.{Kind}
use Rattle.message.specs.declared.codes.ErrorCode.{ErrorCode}
use Rattle.message.specs.declared.record.Message.{Message}
use Rattle.message.specs.declared.record.MessageFault.{MessageFault}
use Rattle.message.specs.Codes.{carrier_number, carrier_of, kind_number, kind_of, operation_of, error_number, error_of}
use Rattle.message.specs.Table.{operation_byte, permitted}
use Rattle.message.specs.Ranges.{inside, leg_range, number_range, identity_range, address_range, error_range}

-- the byte that stands for an error code, 0 where there is none
abbrev pub error_byte : Option ErrorCode → ℕ
error_byte None = 0
error_byte (Some e) = error_number e

-- The row of a message. Of a two-byte field the more significant byte stands first.
abbrev pub row_of : Message → List ℕ
row_of m =
    carrier_number m.carrier ∷  -- 0
    kind_number m.kind ∷  -- 1
    operation_byte m.operation ∷  -- 2
    m.leg ∷  -- 3
    m.number / 256 ∷ m.number % 256 ∷  -- 4, 5
    m.identity / 256 ∷ m.identity % 256 ∷  -- 6, 7
    m.address / 256 ∷ m.address % 256 ∷  -- 8, 9
    error_byte m.error ∷  -- 10
    0 ∷ 0 ∷ 0 ∷ 0 ∷ 0 ∷ []  -- 11 to 15

abbrev pub byte : List ℕ → ℕ → ℕ
byte bytes i = slice_index bytes i

abbrev pub word : List ℕ → ℕ → ℕ
word bytes i = byte bytes i * 256 + byte bytes (suc i)

-- what the fields of a row of this carrier and kind say
abbrev pub meant : Carrier → Kind → List ℕ → Message
meant c k bytes =
    record {
      carrier = c;
      kind = k;
      operation = operation_of (byte bytes 2);
      leg = byte bytes 3;
      number = word bytes 4;
      identity = word bytes 6;
      address = word bytes 8;
      error = error_of (byte bytes 10);
    }

-- the bytes at the end of a row are not used
abbrev pub wrong_zeros : List ℕ → List Bool
wrong_zeros bytes =
    not (byte bytes 11 == 0) ∷
    not (byte bytes 12 == 0) ∷
    not (byte bytes 13 == 0) ∷
    not (byte bytes 14 == 0) ∷
    not (byte bytes 15 == 0) ∷ []

-- Whether each byte of a row from byte 2 on is wrong, m being what its fields say. A two-byte field is wrong at its first byte.
abbrev pub wrongs : Message → List ℕ → List Bool
wrongs m bytes =
    not (permitted m.carrier m.kind (byte bytes 2)) ∷  -- 2
    not (inside leg_range m.leg) ∷  -- 3
    not (inside (number_range m.operation) m.number) ∷ false ∷  -- 4, 5
    not (inside (identity_range m.kind m.operation) m.identity) ∷ false ∷  -- 6, 7
    not (inside (address_range m.kind m.operation) m.address) ∷ false ∷  -- 8, 9
    not (inside (error_range m.kind) (byte bytes 10)) ∷  -- 10
    wrong_zeros bytes  -- 11 to 15

-- the place of the first that is true, counted from i
abbrev pub first : ℕ → List Bool → Option ℕ
first i [] = None
first i (w ∷ ws) = cond w (Some i) (first (suc i) ws)

abbrev pub fault : ℕ → Result Message MessageFault
fault i = Err (record { byte = i })

-- the message, unless a byte is wrong
abbrev pub unless : Option ℕ → Message → Result Message MessageFault
unless None m = Ok m
unless (Some i) m = fault i

-- sixteen bytes, by the carrier and the kind that the first two name
abbrev pub judged : Option Carrier → Option Kind → List ℕ → Result Message MessageFault
judged None k bytes = fault 0
judged (Some c) None bytes = fault 1
judged (Some c) (Some k) bytes = unless (first 2 (wrongs (meant c k bytes) bytes)) (meant c k bytes)

-- What any bytes are taken for: a message, or the fault of their first wrong byte. Another length than 16 is found before all else.
abbrev pub verdict : List ℕ → Result Message MessageFault
verdict bytes = cond (length bytes == 16) (judged (carrier_of (byte bytes 0)) (kind_of (byte bytes 1)) bytes) (fault 16)

-- A lawful message: its operation may stand under its carrier and kind, and every field is in range.
pub record Lawful (m : Message) : Type 0 where
  pub standing : permitted m.carrier m.kind (operation_byte m.operation) ≡ true
  pub leg : inside leg_range m.leg ≡ true
  pub number : inside (number_range m.operation) m.number ≡ true
  pub identity : inside (identity_range m.kind m.operation) m.identity ≡ true
  pub address : inside (address_range m.kind m.operation) m.address ≡ true
  pub error : inside (error_range m.kind) (error_byte m.error) ≡ true
