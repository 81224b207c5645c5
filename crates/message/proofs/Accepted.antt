-- Whatever is accepted is lawful, and is the row of what it is accepted as.
use Rattle.std.proofs.Common.{◌≡◌, ℕ, zero, suc, ◌+◌, ◌*◌, ◌/◌, ◌%◌, ◌<◌, Bool, true, false, not, eqb, List, [], ◌∷◌, length, get_or, drop, IfOk, Some, None, Ok, Err, Option, Result, sym, refl, ap, ◌∙◌, subst, arith, drop-cons}
use Rattle.std.specs.List.{AllByRecursion}
use Rattle.std.proofs.lemmas.Bool.Decides.{nat_tests}
use Rattle.std.proofs.lemmas.Bool.{eqb-true, not-false}
use Rattle.std.proofs.ByRecursion.{All-get_or, All-from_get_or}
use Rattle.std.proofs.lemmas.List.{drop_all}
use Rattle.message.specs.declared.codes.Kind.{Kind}
use Rattle.message.specs.declared.codes.Operation.{Operation}
use Rattle.message.specs.declared.record.Message.{Message}
use Rattle.message.specs.declared.record.MessageFault.{MessageFault}
use Rattle.message.specs.Codes.{numbered, carriers, kinds, carrier_number, kind_number, operation_of, error_of}
use Rattle.message.specs.Table.{operation_byte, standing, among, permitted}
use Rattle.message.specs.Ranges.{inside, error_range}
use Rattle.message.specs.Format.{error_byte, byte, row_of, meant, first, wrongs, fault, unless, verdict, Lawful}
use Rattle.message.proofs.Every.{below}
use Rattle.message.proofs.Outcomes.{Outcome, length_wrong, no_carrier, no_kind, fields, outcome}
use Rattle.message.proofs.Back.{operation_back}
use Rattle.message.specs.Laws.{AcceptedIsLawful, AcceptedIsRow, OneRow}

-- the case that a number was read as has that number
pub numbered_has : {A : Type 0} (number : A → ℕ) (n : ℕ) (xs : List A) (x : A) → numbered number n xs ≡ Some x → number x ≡ n
numbered_has number n [] x e = cc
numbered_has number n (y ∷ ys) x e = let ih = numbered_has number n ys x in grind (arith, nat_tests, ih)

none_true : (i : ℕ) (ws : List Bool) → first i ws ≡ None → AllByRecursion (λ w. w ≡ false) ws
none_true i [] e = tt
none_true i (true ∷ ws) e = cc
none_true i (false ∷ ws) e = (refl, none_true (suc i) ws e)

-- an operation that may stand somewhere is named by its byte
pub among_named : (n : ℕ) (os : List (Option Operation)) → among n os ≡ true → operation_byte (operation_of n) ≡ n
among_named n [] e = cc
among_named n (o ∷ os) e = let ih = among_named n os in let b = operation_back o in grind (arith, nat_tests, ih, b)

pub error_small : (k : Kind) (n : ℕ) → inside (error_range k) n ≡ true → n < 6
error_small k n e = grind (arith, nat_tests)

pub error_named : (n : ℕ) → n < 6 → error_byte (error_of n) ≡ n
error_named n h = eqb-true (error_byte (error_of n)) n (below (λ i. eqb (error_byte (error_of i)) i) 6 refl n h)

-- what a row that is accepted as m has to do with m
record Accepted (bytes : List ℕ) (m : Message) : Type 0 where
  pub carrier : carrier_number m.carrier ≡ byte bytes 0
  pub kind : kind_number m.kind ≡ byte bytes 1
  pub said : m ≡ meant m.carrier m.kind bytes
  pub right : AllByRecursion (λ w. w ≡ false) (wrongs m bytes)

no_fault : {X : Type 0} (i : ℕ) (m : Message) → Ok m ≡ fault i → X
no_fault i m e = cc

unless_ok : (o : Option ℕ) (x m : Message) → Ok m ≡ unless o x → (o ≡ None) × (x ≡ m)
unless_ok None x m e = (refl, cc)
unless_ok (Some i) x m e = no_fault i m e

by_outcome : (bytes : List ℕ) (m : Message) → Outcome bytes (Ok m) → (length bytes ≡ 16) × Accepted bytes m
by_outcome bytes m (length_wrong e) = no_fault 16 m e
by_outcome bytes m (no_carrier none e) = no_fault 0 m e
by_outcome bytes m (no_kind none e) = no_fault 1 m e
by_outcome bytes m (fields c k l ec ek e) =
    let u = unless_ok (first 2 (wrongs (meant c k bytes) bytes)) (meant c k bytes) m e in (
      l,
      subst (Accepted bytes) u.1
          (record {
            carrier = numbered_has carrier_number (byte bytes 0) carriers c ec;
            kind = numbered_has kind_number (byte bytes 1) kinds k ek;
            said = refl;
            right = none_true 2 (wrongs (meant c k bytes) bytes) u.0;
          }),
    )

by_verdict : (bytes : List ℕ) (m : Message) → verdict bytes ≡ Ok m → (length bytes ≡ 16) × Accepted bytes m
by_verdict bytes m e = by_outcome bytes m (outcome bytes (Ok m) e)

operation_stands : (bytes : List ℕ) (m : Message) → Accepted bytes m → operation_byte m.operation ≡ byte bytes 2
operation_stands bytes m a =
    ap (λ x. operation_byte x.operation) a.said
    ∙ among_named (byte bytes 2) (standing m.carrier m.kind) (not-false (permitted m.carrier m.kind (byte bytes 2)) a.right.0)

error_stands : (bytes : List ℕ) (m : Message) → Accepted bytes m → error_byte m.error ≡ byte bytes 10
error_stands bytes m a =
    ap (λ x. error_byte x.error) a.said
    ∙ error_named (byte bytes 10)
    (error_small m.kind (byte bytes 10) (not-false (inside (error_range m.kind) (byte bytes 10)) a.right.1.1.1.1.1.1.1.1.0))

pub accepted_is_lawful : AcceptedIsLawful
accepted_is_lawful bytes m e =
    let a = (by_verdict bytes m e).1 in
    record {
      standing = rw (operation_stands bytes m a) (not-false _ a.right.0);
      leg = not-false _ a.right.1.0;
      number = not-false _ a.right.1.1.0;
      identity = not-false _ a.right.1.1.1.1.0;
      address = not-false _ a.right.1.1.1.1.1.1.0;
      error = rw (error_stands bytes m a) (not-false _ a.right.1.1.1.1.1.1.1.1.0);
    }

-- n elements from place i on
abbrev spread : ℕ → ℕ → List ℕ → List ℕ
spread zero i xs = []
spread (suc n) i xs = get_or xs i 0 ∷ spread n (suc i) xs

spread_drop : (n i : ℕ) (xs : List ℕ) → length xs ≡ i + n → spread n i xs ≡ drop i xs
spread_drop zero i xs h = sym (drop_all i xs (omega arith))
spread_drop (suc n) i xs h =
    let lt : i < length xs = omega arith in
    ap (λ ys. get_or xs i 0 ∷ ys) (spread_drop n (suc i) xs (omega arith)) ∙ sym (drop-cons xs i 0 lt)

-- the two bytes of a field are those that are written of it
pub word_is : (n h l : ℕ) → n ≡ h * 256 + l → l < 256 → (h ≡ n / 256) × (l ≡ n % 256)
word_is n h l e lt = omega arith

pub zero_is : (n : ℕ) → not (eqb n 0) ≡ false → n ≡ 0
zero_is n e = eqb-true n 0 (not-false (eqb n 0) e)

pub accepted_is_row : AcceptedIsRow
accepted_is_row bytes m small e =
    let v = by_verdict bytes m e in
    let a = v.1 in
    let f = a.said in
    let low : (i : ℕ) → i < 16 → byte bytes i < 256 = λ i h. All-get_or (λ x. x < 256) bytes i 0 (omega arith) small in
    let number = word_is m.number (byte bytes 4) (byte bytes 5) (ap (λ x. x.number) f) (low 5 (omega arith)) in
    let identity = word_is m.identity (byte bytes 6) (byte bytes 7) (ap (λ x. x.identity) f) (low 7 (omega arith)) in
    let address = word_is m.address (byte bytes 8) (byte bytes 9) (ap (λ x. x.address) f) (low 9 (omega arith)) in
    let unused = a.right.1.1.1.1.1.1.1.1.1 in
    sym (spread_drop 16 0 bytes v.0)
    ∙ cc (
      a.carrier,
      a.kind,
      operation_stands bytes m a,
      ap (λ x. x.leg) f,
      number.0,
      number.1,
      identity.0,
      identity.1,
      address.0,
      address.1,
      error_stands bytes m a,
      zero_is (byte bytes 11) unused.0,
      zero_is (byte bytes 12) unused.1.0,
      zero_is (byte bytes 13) unused.1.1.0,
      zero_is (byte bytes 14) unused.1.1.1.0,
      zero_is (byte bytes 15) unused.1.1.1.1.0,
    )

pub one_row : OneRow
one_row a b m ha hb ea eb = accepted_is_row a m ha ea ∙ sym (accepted_is_row b m hb eb)

-- the same of what a reader answers
pub accepted_made : (bytes : List ℕ) (r : Result Message MessageFault) → ((i : ℕ) → byte bytes i < 256) → r ≡ verdict bytes
    → IfOk r (λ m. Lawful m × (bytes ≡ row_of m))
accepted_made bytes (Ok m) small e =
    (accepted_is_lawful bytes m (sym e), accepted_is_row bytes m (All-from_get_or (λ b. b < 256) bytes 0 (λ i _. small i)) (sym e))
accepted_made bytes (Err f) small e = tt
