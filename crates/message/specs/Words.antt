-- A message in words, and what is wrong with what is none.
use Rattle.std.specs.Prelude.{ℕ, cond, List, [], ◌++◌, Some, None, codes, decimal, Option}
use Rattle.message.specs.declared.codes.Carrier.{Carrier}
use Rattle.message.specs.declared.codes.Carrier.TheVariants.{Setup, Alerting, Connect, Facility, ReleaseComplete}
use Rattle.message.specs.declared.codes.Kind.{Kind}
use Rattle.message.specs.declared.codes.Kind.TheVariants.{Nothing, Invoke, Result, Error, Reject}
use Rattle.message.specs.declared.codes.Operation.{Operation}
use Rattle.message.specs.declared.codes.Operation.TheVariants.{CallTransferIdentify, CallTransferAbandon, CallTransferInitiate, CallTransferSetup, HoldNotific, RetrieveNotific, RemoteHold, RemoteRetrieve}
use Rattle.message.specs.declared.codes.ErrorCode.{ErrorCode}
use Rattle.message.specs.declared.codes.ErrorCode.TheVariants.{UnrecognizedCallIdentity, EstablishmentFailure, Unspecified, InvalidCallState, SupplementaryServiceInteractionNotAllowed}
use Rattle.message.specs.declared.codes.UnknownNumber.{UnknownNumber}
use Rattle.message.specs.declared.record.Message.{Message}
use Rattle.message.specs.declared.record.MessageFault.{MessageFault}
use Rattle.message.specs.Ranges.{has_number, names_call}

abbrev pub carrier_word : Carrier → List ℕ
carrier_word Setup = codes "SETUP"
carrier_word Alerting = codes "ALERTING"
carrier_word Connect = codes "CONNECT"
carrier_word Facility = codes "FACILITY"
carrier_word ReleaseComplete = codes "RELEASE-COMPLETE"

abbrev pub kind_word : Kind → List ℕ
kind_word Nothing = codes "nothing"
kind_word Invoke = codes "invoke"
kind_word Result = codes "result"
kind_word Error = codes "error"
kind_word Reject = codes "reject"

abbrev pub operation_word : Operation → List ℕ
operation_word CallTransferIdentify = codes "callTransferIdentify"
operation_word CallTransferAbandon = codes "callTransferAbandon"
operation_word CallTransferInitiate = codes "callTransferInitiate"
operation_word CallTransferSetup = codes "callTransferSetup"
operation_word HoldNotific = codes "holdNotific"
operation_word RetrieveNotific = codes "retrieveNotific"
operation_word RemoteHold = codes "remoteHold"
operation_word RemoteRetrieve = codes "remoteRetrieve"

abbrev pub error_word : ErrorCode → List ℕ
error_word UnrecognizedCallIdentity = codes "unrecognizedCallIdentity"
error_word EstablishmentFailure = codes "establishmentFailure"
error_word Unspecified = codes "unspecified"
error_word InvalidCallState = codes "invalidCallState"
error_word SupplementaryServiceInteractionNotAllowed = codes "supplementaryServiceInteractionNotAllowed"

-- what is attached to the carrier: nothing, or a kind and an operation
abbrev pub attached_words : Kind → Option Operation → List ℕ
attached_words k None = []
attached_words k (Some o) = codes " " ++ (kind_word k ++ (codes " " ++ operation_word o))

abbrev pub number_words : Message → List ℕ
number_words m = cond (has_number m.operation) (codes " number=" ++ decimal m.number) []

abbrev pub call_words : Message → List ℕ
call_words m =
    cond (names_call m.kind m.operation) (codes " identity=" ++ (decimal m.identity ++ (codes " address=" ++ decimal m.address))) []

abbrev pub error_words : Option ErrorCode → List ℕ
error_words None = []
error_words (Some e) = codes " error=" ++ error_word e

-- the fields that apply, in the order of the row
unfoldable pub words : Message → List ℕ
words m =
    carrier_word m.carrier ++
    (attached_words m.kind m.operation ++
    (codes " leg=" ++ (decimal m.leg ++ (number_words m ++ (call_words m ++ error_words m.error)))))

-- the first wrong byte of a row that is no message
abbrev pub fault_words : MessageFault → List ℕ
fault_words f = codes "fault " ++ decimal f.byte

-- a number that an enumeration has no case for
abbrev pub unknown_words : UnknownNumber → List ℕ
unknown_words u = codes "unknown number " ++ decimal u.number
