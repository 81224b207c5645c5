-- The fields of a message as numbers, in the order of the row.
use Rattle.std.specs.Prelude.{ℕ, List, [], ◌∷◌}
use Rattle.message.specs.declared.record.Message.{Message}
use Rattle.message.specs.Codes.{carrier_number, kind_number}
use Rattle.message.specs.Table.{operation_byte}
use Rattle.message.specs.Format.{error_byte}

abbrev pub fields_of : Message → List ℕ
fields_of m =
    carrier_number m.carrier ∷ kind_number m.kind ∷ operation_byte m.operation ∷
    m.leg ∷ m.number ∷ m.identity ∷ m.address ∷ error_byte m.error ∷ []
