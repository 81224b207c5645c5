-- The messages that a leg sends.
use Rattle.std.specs.Prelude.{ℕ, ◌+◌, Some, None}
use Rattle.message.specs.declared.codes.Carrier.{Carrier}
use Rattle.message.specs.declared.codes.Carrier.TheVariants as carrier
use Rattle.message.specs.declared.codes.Kind.TheVariants as kind
use Rattle.message.specs.declared.codes.Operation.{Operation}
use Rattle.message.specs.declared.codes.Operation.TheVariants as operation
use Rattle.message.specs.declared.codes.ErrorCode.{ErrorCode}
use Rattle.message.specs.declared.record.Message.{Message}
use Rattle.leg.specs.declared.place.Place.{Place}

-- RELEASE COMPLETE with nothing attached
abbrev pub release_on : Place → Message
release_on at =
    record { carrier = carrier.ReleaseComplete; kind = kind.Nothing; operation = None; leg = at.index; number = 0; identity = 0; address = 0; error = None }

-- an invoke that is not confirmed, so without a number
abbrev pub notice_on : Place → Operation → Message
notice_on at o =
    record { carrier = carrier.Facility; kind = kind.Invoke; operation = Some o; leg = at.index; number = 0; identity = 0; address = 0; error = None }

-- a request: a confirmed invoke
abbrev pub request_on : Place → Carrier → Operation → ℕ → ℕ → ℕ → Message
request_on at c o n i a =
    record { carrier = c; kind = kind.Invoke; operation = Some o; leg = at.index; number = n; identity = i; address = a; error = None }

-- a result that says no more than that it is done
abbrev pub result_on : Place → Carrier → Operation → ℕ → Message
result_on at c o n =
    record { carrier = c; kind = kind.Result; operation = Some o; leg = at.index; number = n; identity = 0; address = 0; error = None }

-- the result of an identify: the leg's identity is its place plus 1, to be met at this station's own number
abbrev pub identity_on : Place → ℕ → ℕ → Message
identity_on at n own =
    record { carrier = carrier.Facility; kind = kind.Result; operation = Some operation.CallTransferIdentify; leg = at.index; number = n; identity = at.index + 1; address = own; error = None }

-- an error: why an invoke is not obeyed
abbrev pub error_on : Place → Carrier → Operation → ℕ → ErrorCode → Message
error_on at c o n e =
    record { carrier = c; kind = kind.Error; operation = Some o; leg = at.index; number = n; identity = 0; address = 0; error = Some e }
