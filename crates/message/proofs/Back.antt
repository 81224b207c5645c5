-- The row of a lawful message reads back as that message.
use Rattle.std.proofs.Common.{◌≡◌, ℕ, ◌/◌, ◌<◌, ◌≤◌, true, Some, None, Option, ap, ◌∙◌, arith}
use Rattle.message.specs.declared.codes.Carrier.{Carrier}
use Rattle.message.specs.declared.codes.Kind.{Kind}
use Rattle.message.specs.declared.codes.Operation.{Operation}
use Rattle.message.specs.declared.codes.ErrorCode.{ErrorCode}
use Rattle.message.specs.declared.record.Message.{Message}
use Rattle.message.specs.Codes.{carrier_number, carrier_of, kind_number, kind_of, operation_of, error_of}
use Rattle.message.specs.Table.{operation_byte}
use Rattle.message.specs.Format.{error_byte, row_of, meant, first, wrongs, unless, Lawful}
use Rattle.message.specs.Laws.{Bytes, ReadsBack}
use Rattle.message.specs.declared.ranges.Span.{Span}
use Rattle.message.specs.Ranges.{inside, number_range, identity_range, address_range}
use Rattle.std.proofs.lemmas.Bool.Decides.{nat_tests}
use Rattle.std.proofs.lemmas.Nat.{div-add-mod'}

pub carrier_back : (c : Carrier) → carrier_of (carrier_number c) ≡ Some c
carrier_back c = grind arith

pub kind_back : (k : Kind) → kind_of (kind_number k) ≡ Some k
kind_back k = grind arith

pub operation_back : (o : Option Operation) → operation_of (operation_byte o) ≡ o
operation_back o = grind arith

pub error_back : (e : Option ErrorCode) → error_of (error_byte e) ≡ e
error_back e = grind arith

meant_row : (m : Message) → meant m.carrier m.kind (row_of m) ≡ m
meant_row m =
    simp (operation_back, error_back, div-add-mod')

none_wrong : (m : Message) → Lawful m → first 2 (wrongs m (row_of m)) ≡ None
none_wrong m h = simp (h.standing, h.leg, h.number, h.identity, h.address, h.error)

pub reads_back : ReadsBack
reads_back m h =
    rw (carrier_back m.carrier, kind_back m.kind)
    (ap (λ x. unless (first 2 (wrongs x (row_of m))) x) (meant_row m) ∙ ap (λ o. unless o m) (none_wrong m h))

carrier_small : (c : Carrier) → carrier_number c < 256
carrier_small c = grind arith

kind_small : (k : Kind) → kind_number k < 256
kind_small k = grind arith

operation_small : (o : Option Operation) → operation_byte o < 256
operation_small o = grind arith

error_small : (e : Option ErrorCode) → error_byte e < 256
error_small e = grind arith

-- the more significant byte of a field in its range
high_small : (s : Span) (n : ℕ) → s.most ≤ 65535 → inside s n ≡ true → n / 256 < 256
high_small s n small h = let at_most : n ≤ s.most = grind (arith, nat_tests) in omega arith

pub row_bytes : (m : Message) → Lawful m → Bytes (row_of m)
row_bytes m h =
    let c = carrier_small m.carrier in
    let k = kind_small m.kind in
    let o = operation_small m.operation in
    let l : m.leg < 256 = let t = h.leg in grind (arith, nat_tests) in
    let n = high_small (number_range m.operation) m.number (grind arith) h.number in
    let i = high_small (identity_range m.kind m.operation) m.identity (grind arith) h.identity in
    let a = high_small (address_range m.kind m.operation) m.address (grind arith) h.address in
    let e = error_small m.error in
    omega arith
