-- How any bytes come to their verdict.
use Rattle.std.proofs.Common.{◌≡◌, ℕ, Bool, true, false, cond, eqb, List, length, Some, None, Ok, Err, Option, Result, sym, refl, ap}
use Rattle.std.proofs.lemmas.Bool.{eqb-true}
use Rattle.message.specs.declared.codes.Carrier.{Carrier}
use Rattle.message.specs.declared.codes.Kind.{Kind}
use Rattle.message.specs.declared.record.Message.{Message}
use Rattle.message.specs.declared.record.MessageFault.{MessageFault}
use Rattle.message.specs.Codes.{carrier_of, kind_of}
use Rattle.message.specs.Format.{byte, meant, first, wrongs, fault, unless, judged, verdict}

pub data Outcome (bytes : List ℕ) (r : Result Message MessageFault) : Type 0 where
  length_wrong : r ≡ fault 16 → Outcome bytes r
  no_carrier : carrier_of (byte bytes 0) ≡ None → r ≡ fault 0 → Outcome bytes r
  no_kind : kind_of (byte bytes 1) ≡ None → r ≡ fault 1 → Outcome bytes r
  fields : (c : Carrier) (k : Kind) → length bytes ≡ 16 → carrier_of (byte bytes 0) ≡ Some c → kind_of (byte bytes 1) ≡ Some k
      → r ≡ unless (first 2 (wrongs (meant c k bytes) bytes)) (meant c k bytes) → Outcome bytes r

of_sixteen : (bytes : List ℕ) (r : Result Message MessageFault) (oc : Option Carrier) (ok : Option Kind) → length bytes ≡ 16
    → carrier_of (byte bytes 0) ≡ oc → kind_of (byte bytes 1) ≡ ok → r ≡ judged oc ok bytes → Outcome bytes r
of_sixteen bytes r None ok l ec ek e = no_carrier ec e
of_sixteen bytes r (Some c) None l ec ek e = no_kind ek e
of_sixteen bytes r (Some c) (Some k) l ec ek e = fields c k l ec ek e

of_length : (bytes : List ℕ) (r : Result Message MessageFault) (b : Bool) → eqb (length bytes) 16 ≡ b
    → r ≡ cond b (judged (carrier_of (byte bytes 0)) (kind_of (byte bytes 1)) bytes) (fault 16) → Outcome bytes r
of_length bytes r true l e = of_sixteen bytes r (carrier_of (byte bytes 0)) (kind_of (byte bytes 1)) (eqb-true (length bytes) 16 l) refl refl e
of_length bytes r false l e = length_wrong e

pub outcome : (bytes : List ℕ) (r : Result Message MessageFault) → verdict bytes ≡ r → Outcome bytes r
outcome bytes r e = of_length bytes r (eqb (length bytes) 16) refl (sym e)

-- the byte that a fault names
abbrev named : Result Message MessageFault → ℕ
named (Ok m) = 16
named (Err f) = f.byte

pub same_fault : (i j : ℕ) → fault i ≡ fault j → i ≡ j
same_fault i j e = ap named e
