-- Which operations may stand under each carrier and kind.
use Rattle.std.specs.Prelude.{ℕ, ◌+◌, ◌^◌, Bool, true, false, cond, List, [], ◌∷◌, Some, None, Option, ◌==◌}
use Rattle.message.specs.declared.codes.Carrier.{Carrier}
use Rattle.message.specs.declared.codes.Carrier.TheVariants.{Setup, Alerting, Connect, Facility, ReleaseComplete}
use Rattle.message.specs.declared.codes.Kind.{Kind}
use Rattle.message.specs.declared.codes.Kind.TheVariants.{Nothing, Invoke, Result, Error, Reject}
use Rattle.message.specs.declared.codes.Operation.{Operation}
use Rattle.message.specs.declared.codes.Operation.TheVariants.{CallTransferIdentify, CallTransferAbandon, CallTransferInitiate, CallTransferSetup, HoldNotific, RetrieveNotific, RemoteHold, RemoteRetrieve}
use Rattle.message.specs.Codes.{operation_number}

-- the byte that stands for an operation, 0 where there is none
abbrev pub operation_byte : Option Operation → ℕ
operation_byte None = 0
operation_byte (Some o) = operation_number o

-- a carrier with nothing attached names no operation
abbrev pub bare : List (Option Operation)
bare = None ∷ []

abbrev pub only : Operation → List (Option Operation)
only o = Some o ∷ []

-- FACILITY invokes every operation but callTransferSetup
abbrev pub invoked : List (Option Operation)
invoked =
    Some CallTransferIdentify ∷ Some CallTransferAbandon ∷ Some CallTransferInitiate ∷
    Some HoldNotific ∷ Some RetrieveNotific ∷ Some RemoteHold ∷ Some RemoteRetrieve ∷ []

-- and brings the replies to the confirmed ones
abbrev pub replied : List (Option Operation)
replied = Some CallTransferIdentify ∷ Some CallTransferInitiate ∷ Some RemoteHold ∷ Some RemoteRetrieve ∷ []

abbrev pub standing : Carrier → Kind → List (Option Operation)
standing Setup k = elim k [ Nothing ↦ [] | Invoke ↦ only CallTransferSetup | Result ↦ [] | Error ↦ [] | Reject ↦ [] ]
standing Alerting k = elim k [ Nothing ↦ bare | Invoke ↦ [] | Result ↦ only CallTransferSetup | Error ↦ [] | Reject ↦ [] ]
standing Connect k = elim k [ Nothing ↦ bare | Invoke ↦ [] | Result ↦ only CallTransferSetup | Error ↦ [] | Reject ↦ [] ]
standing Facility k = elim k [ Nothing ↦ [] | Invoke ↦ invoked | Result ↦ replied | Error ↦ replied | Reject ↦ replied ]
standing ReleaseComplete k =
    elim k [ Nothing ↦ bare | Invoke ↦ [] | Result ↦ only CallTransferInitiate | Error ↦ only CallTransferSetup | Reject ↦ only CallTransferSetup ]

-- these operations as a mask, bit n for operation n
abbrev pub mask_of : List (Option Operation) → ℕ
mask_of [] = 0
mask_of (o ∷ os) = 2 ^ operation_byte o + mask_of os

-- byte n stands for one of these
abbrev pub among : ℕ → List (Option Operation) → Bool
among n [] = false
among n (o ∷ os) = cond (operation_byte o == n) true (among n os)

-- byte n may stand as the operation under this carrier and kind
abbrev pub permitted : Carrier → Kind → ℕ → Bool
permitted c k n = among n (standing c k)
