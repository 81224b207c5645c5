-- The messages that a leg sends are lawful.
use Rattle.std.proofs.Common.{◌≡◌, ℕ, ◌+◌, ◌<◌, true, Some, refl, arith}
use Rattle.std.proofs.lemmas.Bool.Decides.{nat_tests}
use Rattle.message.specs.declared.codes.Carrier.{Carrier}
use Rattle.message.specs.declared.codes.Kind.TheVariants as kind
use Rattle.message.specs.declared.codes.Operation.{Operation}
use Rattle.message.specs.declared.codes.ErrorCode.{ErrorCode}
use Rattle.message.specs.Codes.{error_number}
use Rattle.message.specs.Format.{Lawful}
use Rattle.message.specs.Ranges.{inside, span, leg_range, number_range, identity_range, address_range}
use Rattle.message.specs.Table.{permitted, operation_byte}
use Rattle.leg.specs.declared.place.Place.{Place}
use Rattle.machine.specs.Messages.{release_on, request_on, result_on, identity_on, error_on}
use Rattle.rules.specs.Sound.{InWord}

leg_below : (n : ℕ) → n < 32 → inside leg_range n ≡ true
leg_below n h = grind (arith, nat_tests)

identity_of : (n : ℕ) → n < 32 → inside (span 1 9999) (n + 1) ≡ true
identity_of n h = grind (arith, nat_tests)

any_error : (e : ErrorCode) → inside (span 1 5) (error_number e) ≡ true
any_error e = grind arith

module _ (at : Place) where
  pub release_lawful : Lawful (release_on at)
  release_lawful = record { standing = refl; leg = leg_below at.index at.below; number = refl; identity = refl; address = refl; error = refl }

  -- an invoke, also one that is not confirmed
  pub request_lawful : {c : Carrier} {o : Operation} {n i a : ℕ} → permitted c kind.Invoke (operation_byte (Some o)) ≡ true → inside (number_range (Some o)) n ≡ true → inside (identity_range kind.Invoke (Some o)) i ≡ true → inside (address_range kind.Invoke (Some o)) a ≡ true → Lawful (request_on at c o n i a)
  request_lawful s x y z = record { standing = s; leg = leg_below at.index at.below; number = x; identity = y; address = z; error = refl }

  pub result_lawful : {c : Carrier} {o : Operation} {n : ℕ} → permitted c kind.Result (operation_byte (Some o)) ≡ true → inside (number_range (Some o)) n ≡ true → inside (identity_range kind.Result (Some o)) 0 ≡ true → inside (address_range kind.Result (Some o)) 0 ≡ true → Lawful (result_on at c o n)
  result_lawful s x y z = record { standing = s; leg = leg_below at.index at.below; number = x; identity = y; address = z; error = refl }

  pub identity_lawful : {n own : ℕ} → InWord n → InWord own → Lawful (identity_on at n own)
  identity_lawful x y = record { standing = refl; leg = leg_below at.index at.below; number = x; identity = identity_of at.index at.below; address = y; error = refl }

  pub error_lawful : {c : Carrier} {o : Operation} {n : ℕ} {e : ErrorCode} → permitted c kind.Error (operation_byte (Some o)) ≡ true → inside (number_range (Some o)) n ≡ true → inside (identity_range kind.Error (Some o)) 0 ≡ true → inside (address_range kind.Error (Some o)) 0 ≡ true → Lawful (error_on at c o n e)
  error_lawful {e = e} s x y z = record { standing = s; leg = leg_below at.index at.below; number = x; identity = y; address = z; error = any_error e }
