-- From the least to the most that each field of a message may hold.
use Rattle.std.specs.Prelude.{ℕ, Bool, true, false, cond, ◌&&◌, ◌||◌, Some, None, Option, ◌==◌, nat_le}
use Rattle.message.specs.declared.codes.Kind.{Kind}
use Rattle.message.specs.declared.codes.Kind.TheVariants.{Invoke, Result, Error}
use Rattle.message.specs.declared.codes.Operation.{Operation}
use Rattle.message.specs.declared.codes.Operation.TheVariants.{CallTransferIdentify, CallTransferAbandon, CallTransferInitiate, CallTransferSetup, HoldNotific, RetrieveNotific, RemoteHold, RemoteRetrieve}
use Rattle.message.specs.declared.ranges.Span.{Span}
use Rattle.message.specs.Codes.{kind_number, operation_number}
use Rattle.message.specs.Table.{operation_byte}

abbrev pub inside : Span → ℕ → Bool
inside s n = nat_le s.least n && nat_le n s.most

abbrev pub span : ℕ → ℕ → Span
span least most = record { least = least; most = most }

-- a field that does not apply is 0
abbrev pub absent : Span
absent = span 0 0

abbrev pub of_kind : Kind → Kind → Bool
of_kind j k = kind_number j == kind_number k

abbrev pub names : Option Operation → Operation → Bool
names o p = operation_byte o == operation_number p

-- a confirmed operation is answered, so its invoke and each reply have a request number
abbrev pub confirmed : Operation → Bool
confirmed CallTransferIdentify = true
confirmed CallTransferAbandon = false
confirmed CallTransferInitiate = true
confirmed CallTransferSetup = true
confirmed HoldNotific = false
confirmed RetrieveNotific = false
confirmed RemoteHold = true
confirmed RemoteRetrieve = true

abbrev pub has_number : Option Operation → Bool
has_number None = false
has_number (Some o) = confirmed o

-- the result of an identify says by which identity and at which address the call is met
abbrev pub identified : Kind → Option Operation → Bool
identified k o = of_kind k Result && names o CallTransferIdentify

-- the invokes that set a transfer going say to whom, and to which call of his
abbrev pub transferred : Kind → Option Operation → Bool
transferred k o = of_kind k Invoke && (names o CallTransferInitiate || names o CallTransferSetup)

abbrev pub names_call : Kind → Option Operation → Bool
names_call k o = identified k o || transferred k o

abbrev pub leg_range : Span
leg_range = span 0 31

abbrev pub number_range : Option Operation → Span
number_range o = cond (has_number o) (span 1 65535) absent

-- identity 0 means that there is no secondary call
abbrev pub identity_range : Kind → Option Operation → Span
identity_range k o = cond (identified k o) (span 1 9999) (cond (transferred k o) (span 0 9999) absent)

abbrev pub address_range : Kind → Option Operation → Span
address_range k o = cond (names_call k o) (span 1 65535) absent

abbrev pub error_range : Kind → Span
error_range k = cond (of_kind k Error) (span 1 5) absent
