-- Two rows worked by hand, with the messages that they mean.
use Rattle.std.specs.Prelude.{◌≡◌, ℕ, List, [], ◌∷◌, Some, None, Ok}
use Rattle.message.specs.declared.codes.Carrier.TheVariants.{Facility}
use Rattle.message.specs.declared.codes.Kind.TheVariants.{Invoke, Result}
use Rattle.message.specs.declared.codes.Operation.TheVariants.{CallTransferIdentify, CallTransferInitiate}
use Rattle.message.specs.declared.record.Message.{Message}
use Rattle.message.specs.Format.{row_of, verdict, Lawful}

-- the message is lawful, this is its row, and the row is read as the message
abbrev pub Worked : Message → List ℕ → Type 0
Worked m bytes = Lawful m × (row_of m ≡ bytes) × (verdict bytes ≡ Ok m)

-- a transfer of leg 3 to address 400 is asked for, with request number 1 and no secondary call
abbrev pub transfer_invoke : Message
transfer_invoke =
    record {
      carrier = Facility;
      kind = Invoke;
      operation = Some CallTransferInitiate;
      leg = 3;
      number = 1;
      identity = 0;
      address = 400;
      error = None;
    }

abbrev pub TransferInvokeRow : Type 0
TransferInvokeRow =
    Worked transfer_invoke
    (0x04 ∷ 0x01 ∷ 0x03 ∷ 0x03 ∷ 0x00 ∷ 0x01 ∷ 0x00 ∷ 0x00 ∷ 0x01 ∷ 0x90 ∷ 0x00 ∷ 0x00 ∷ 0x00 ∷ 0x00 ∷ 0x00 ∷ 0x00 ∷ [])

-- request 9 on leg 5 asked which call it is: identity 6 at address 200
abbrev pub identify_result : Message
identify_result =
    record {
      carrier = Facility;
      kind = Result;
      operation = Some CallTransferIdentify;
      leg = 5;
      number = 9;
      identity = 6;
      address = 200;
      error = None;
    }

abbrev pub IdentifyResultRow : Type 0
IdentifyResultRow =
    Worked identify_result
    (0x04 ∷ 0x02 ∷ 0x01 ∷ 0x05 ∷ 0x00 ∷ 0x09 ∷ 0x00 ∷ 0x06 ∷ 0x00 ∷ 0xC8 ∷ 0x00 ∷ 0x00 ∷ 0x00 ∷ 0x00 ∷ 0x00 ∷ 0x00 ∷ [])
