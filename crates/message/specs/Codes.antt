-- The number that stands for each case of a message's four enumerations, each said once.
use Rattle.std.specs.Prelude.{ℕ, cond, List, [], ◌∷◌, Some, None, Option, Result, ◌==◌}
use Rattle.std.specs.Option.{ok_or}
use Rattle.message.specs.declared.codes.Carrier.{Carrier}
use Rattle.message.specs.declared.codes.Carrier.TheVariants as carrier
use Rattle.message.specs.declared.codes.Kind.{Kind}
use Rattle.message.specs.declared.codes.Kind.TheVariants as kind
use Rattle.message.specs.declared.codes.Operation.{Operation}
use Rattle.message.specs.declared.codes.Operation.TheVariants as operation
use Rattle.message.specs.declared.codes.ErrorCode.{ErrorCode}
use Rattle.message.specs.declared.codes.ErrorCode.TheVariants as error
use Rattle.message.specs.declared.codes.UnknownNumber.{UnknownNumber}

-- the first case in the list that has this number
abbrev pub numbered : {A : Type 0} → (A → ℕ) → ℕ → List A → Option A
numbered number n [] = None
numbered number n (x ∷ xs) = cond (number x == n) (Some x) (numbered number n xs)

-- the case that was found for n, or the error that names n
abbrev pub or_unknown : {A : Type 0} → Option A → ℕ → Result A UnknownNumber
or_unknown found n = ok_or found (record { number = n })

abbrev pub carrier_number : Carrier → ℕ
carrier_number carrier.Setup = 1
carrier_number carrier.Alerting = 2
carrier_number carrier.Connect = 3
carrier_number carrier.Facility = 4
carrier_number carrier.ReleaseComplete = 5

abbrev pub carriers : List Carrier
carriers = carrier.Setup ∷ carrier.Alerting ∷ carrier.Connect ∷ carrier.Facility ∷ carrier.ReleaseComplete ∷ []

abbrev pub carrier_of : ℕ → Option Carrier
carrier_of n = numbered carrier_number n carriers

abbrev pub kind_number : Kind → ℕ
kind_number kind.Nothing = 0
kind_number kind.Invoke = 1
kind_number kind.Result = 2
kind_number kind.Error = 3
kind_number kind.Reject = 4

abbrev pub kinds : List Kind
kinds = kind.Nothing ∷ kind.Invoke ∷ kind.Result ∷ kind.Error ∷ kind.Reject ∷ []

abbrev pub kind_of : ℕ → Option Kind
kind_of n = numbered kind_number n kinds

abbrev pub operation_number : Operation → ℕ
operation_number operation.CallTransferIdentify = 1
operation_number operation.CallTransferAbandon = 2
operation_number operation.CallTransferInitiate = 3
operation_number operation.CallTransferSetup = 4
operation_number operation.HoldNotific = 5
operation_number operation.RetrieveNotific = 6
operation_number operation.RemoteHold = 7
operation_number operation.RemoteRetrieve = 8

abbrev pub operations : List Operation
operations =
    operation.CallTransferIdentify ∷ operation.CallTransferAbandon ∷ operation.CallTransferInitiate ∷ operation.CallTransferSetup ∷
    operation.HoldNotific ∷ operation.RetrieveNotific ∷ operation.RemoteHold ∷ operation.RemoteRetrieve ∷ []

abbrev pub operation_of : ℕ → Option Operation
operation_of n = numbered operation_number n operations

abbrev pub error_number : ErrorCode → ℕ
error_number error.UnrecognizedCallIdentity = 1
error_number error.EstablishmentFailure = 2
error_number error.Unspecified = 3
error_number error.InvalidCallState = 4
error_number error.SupplementaryServiceInteractionNotAllowed = 5

abbrev pub errors : List ErrorCode
errors =
    error.UnrecognizedCallIdentity ∷ error.EstablishmentFailure ∷ error.Unspecified ∷ error.InvalidCallState ∷
    error.SupplementaryServiceInteractionNotAllowed ∷ []

abbrev pub error_of : ℕ → Option ErrorCode
error_of n = numbered error_number n errors
