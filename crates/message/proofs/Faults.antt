-- A fault names the first wrong byte: no lawful row begins so, and some lawful row has all that stands before it.
use Rattle.std.proofs.Common.{◌≡◌, ℕ, zero, suc, ◌+◌, ◌*◌, ◌/◌, ◌%◌, ◌<◌, ◌≤◌, Bool, true, false, cond, not, ltb, List, [], ◌∷◌, Some, None, Option, sym, refl, ap, ◌∙◌, subst, inl, inr, arith}
use Rattle.std.proofs.lemmas.Bool.Decides.{nat_tests}
use Rattle.std.proofs.lemmas.Nat.{div-add-mod'}
use Rattle.std.proofs.lemmas.Bool.{not-false, cases_lt, cases_eq, lt-ltb, le-ltb}
use Rattle.message.specs.declared.codes.Carrier.{Carrier}
use Rattle.message.specs.declared.codes.Kind.{Kind}
use Rattle.message.specs.declared.codes.Kind.TheVariants.{Error}
use Rattle.message.specs.declared.codes.ErrorCode.{ErrorCode}
use Rattle.message.specs.declared.codes.ErrorCode.TheVariants.{Unspecified}
use Rattle.message.specs.declared.ranges.Span.{Span}
use Rattle.message.specs.declared.record.Message.{Message}
use Rattle.message.specs.Codes.{carriers, kinds, carrier_number, carrier_of, kind_number, kind_of, operation_of, error_of}
use Rattle.message.specs.Table.{standing, permitted}
use Rattle.message.specs.Ranges.{inside, of_kind, leg_range, number_range, identity_range, address_range, error_range}
use Rattle.message.specs.Format.{error_byte, byte, word, row_of, meant, first, wrongs, fault, unless, Lawful}
use Rattle.message.specs.Laws.{Bytes, Begins, field_end, FaultIsWrong, FaultIsFirst}
use Rattle.message.proofs.Back.{carrier_back, kind_back, operation_back}
use Rattle.message.proofs.Outcomes.{Outcome, length_wrong, no_carrier, no_kind, fields, outcome, same_fault}
use Rattle.message.proofs.Accepted.{numbered_has, among_named, error_small, error_named, word_is, zero_is}

unless_fault : (o : Option ℕ) (m : Message) (i : ℕ) → fault i ≡ unless o m → o ≡ Some i
unless_fault None m i e = cc
unless_fault (Some j) m i e = ap Some (same_fault j i (sym e))

-- pairs within pairs, written as a list
infixr 40 ◌&◌
◌&◌ : {A B : Type 0} → A → B → A × B
a & b = (a, b)

-- a fact of each place of a list, counted from n
abbrev Each : (ℕ → Bool → Type 0) → ℕ → List Bool → Type 0
Each P n [] = Unit {0}
Each P n (w ∷ ws) = P n w × Each P (suc n) ws

-- where all is right up to i, the first wrong one is not i
right_up_to : (ws : List Bool) (n i : ℕ) → Each (λ j w. j ≤ i → w ≡ false) n ws → first n ws ≡ Some i → ⊥
right_up_to [] n i right e = cc
right_up_to (true ∷ ws) n i right e =
    let s : n ≡ i = cc in let f = right.0 (omega arith) in cc
right_up_to (false ∷ ws) n i right e = right_up_to ws (suc n) i right.1 e

end_after : (i : ℕ) → i < field_end i
end_after i = grind (arith, nat_tests)

word_ends : (i j : ℕ) → field_end j ≡ j + 2 → j ≤ i → j + 1 < field_end i
word_ends i j e h = grind (arith, nat_tests)

-- under the carrier and the kind of m, the fields are right as far as they are those of its row
fields_right : (bytes : List ℕ) (i : ℕ) (m : Message) → Lawful m → Begins (field_end i) bytes m
    → Each (λ j w. j ≤ i → w ≡ false) 2 (wrongs (meant m.carrier m.kind bytes) bytes)
fields_right bytes i m h same =
    let at : (j : ℕ) → j ≤ i → byte bytes j ≡ byte (row_of m) j = λ j le. let t = end_after i in same j (omega arith) in
    let next : (j : ℕ) → field_end j ≡ j + 2 → j ≤ i → byte bytes (j + 1) ≡ byte (row_of m) (j + 1) = λ j two le. same (j + 1) (word_ends i j two le) in
    let named : 2 ≤ i → operation_of (byte bytes 2) ≡ m.operation = λ le. ap operation_of (at 2 le) ∙ operation_back m.operation in
    (λ le. simp (at 2 le, h.standing))
    & (λ le. simp (at 3 le, h.leg))
    & (λ le. simp (named (omega arith), at 4 le, next 4 refl le, div-add-mod', h.number))
    & (λ le. refl)
    & (λ le. simp (named (omega arith), at 6 le, next 6 refl le, div-add-mod', h.identity))
    & (λ le. refl)
    & (λ le. simp (named (omega arith), at 8 le, next 8 refl le, div-add-mod', h.address))
    & (λ le. refl)
    & (λ le. simp (at 10 le, h.error))
    & (λ le. simp (at 11 le))
    & (λ le. simp (at 12 le))
    & (λ le. simp (at 13 le))
    & (λ le. simp (at 14 le))
    & (λ le. simp (at 15 le))
    & tt

second_or_later : (ws : List Bool) (n i : ℕ) → first n ws ≡ Some i → n ≤ i
second_or_later [] n i e = cc
second_or_later (true ∷ ws) n i e = let s : n ≡ i = cc in omega arith
second_or_later (false ∷ ws) n i e = omega (arith, second_or_later ws (suc n) i e)

wrong : (bytes : List ℕ) (i : ℕ) (m : Message) → Outcome bytes (fault i) → i < 16 → Lawful m → Begins (field_end i) bytes m → ⊥
wrong bytes i m o lt h same =
    let after = end_after i in
    let carrier : carrier_of (byte bytes 0) ≡ Some m.carrier = ap carrier_of (same 0 (omega arith)) ∙ carrier_back m.carrier in
    let kind : 1 ≤ i → kind_of (byte bytes 1) ≡ Some m.kind = λ le. ap kind_of (same 1 (omega arith)) ∙ kind_back m.kind in
    elim o [
      | length_wrong e ↦ omega (arith, same_fault i 16 e)
      | no_carrier none e ↦ cc
      | no_kind none e ↦ let k = kind (omega (arith, same_fault i 1 e)) in cc
      | fields c k l some-c some-k e ↦
          let f = unless_fault (first 2 (wrongs (meant c k bytes) bytes)) (meant c k bytes) i e in
          let later = second_or_later (wrongs (meant c k bytes) bytes) 2 i f in
          let kind' = kind (omega arith) in
          let same-c : m.carrier ≡ c = cc in
          let same-k : m.kind ≡ k = cc in
          right_up_to (wrongs (meant m.carrier m.kind bytes) bytes) 2 i (fields_right bytes i m h same)
          (ap (λ x. first 2 (wrongs (meant x m.kind bytes) bytes)) same-c ∙ ap (λ x. first 2 (wrongs (meant c x bytes) bytes)) same-k ∙ f)
    ]

pub fault_is_wrong : FaultIsWrong
fault_is_wrong bytes i m e lt h same = wrong bytes i m (outcome bytes (fault i) e) lt h same

none_before : (ws : List Bool) (n i : ℕ) → i ≤ n → Each (λ j w. j < i → w ≡ false) n ws
none_before [] n i h = tt
none_before (w ∷ ws) n i h = (λ lt. absurd (omega arith), none_before ws (suc n) i (omega arith))

-- before the first wrong one all are right
right_before : (ws : List Bool) (n i : ℕ) → first n ws ≡ Some i → Each (λ j w. j < i → w ≡ false) n ws
right_before [] n i e = tt
right_before (true ∷ ws) n i e = let s : n ≡ i = cc in (λ lt. absurd (omega arith), none_before ws (suc n) i (omega arith))
right_before (false ∷ ws) n i e = (λ lt. refl, right_before ws (suc n) i e)

-- what stands before byte i, and the least that is in range from there on
abbrev kept : ℕ → ℕ → ℕ → Span → ℕ
kept i j n s = cond (ltb j i) n s.least

kept_inside : (i j n : ℕ) (s : Span) → s.least ≤ s.most → (j < i → not (inside s n) ≡ false) → inside s (kept i j n s) ≡ true
kept_inside i j n s h right =
    elim (cases_lt j i) [
      | inl lt ↦ rw (lt-ltb j i lt) (not-false (inside s n) (right lt))
      | inr ge ↦ rw (le-ltb j i ge) (grind (arith, nat_tests))
    ]

abbrev some_error : Kind → Option ErrorCode
some_error k = cond (of_kind k Error) (Some Unspecified) None

abbrev completed : Carrier → Kind → List ℕ → ℕ → Message
completed c k bytes i =
    let o = operation_of (byte bytes 2) in
    record {
      carrier = c;
      kind = k;
      operation = o;
      leg = kept i 3 (byte bytes 3) leg_range;
      number = kept i 4 (word bytes 4) (number_range o);
      identity = kept i 6 (word bytes 6) (identity_range k o);
      address = kept i 8 (word bytes 8) (address_range k o);
      error = cond (ltb 10 i) (error_of (byte bytes 10)) (some_error k);
    }

error_inside : (i n : ℕ) (k : Kind) → (10 < i → not (inside (error_range k) n) ≡ false) → inside (error_range k) (error_byte (cond (ltb 10 i) (error_of n) (some_error k))) ≡ true
error_inside i n k right =
    elim (cases_lt 10 i) [
      | inl lt ↦
          let fine = not-false (inside (error_range k) n) (right lt) in
          rw (lt-ltb 10 i lt, error_named n (error_small k n fine)) fine
      | inr ge ↦ rw (le-ltb 10 i ge) (grind (arith, nat_tests))
    ]

completed_lawful : (c : Carrier) (k : Kind) (bytes : List ℕ) (i : ℕ) → 2 < i → first 2 (wrongs (meant c k bytes) bytes) ≡ Some i → Lawful (completed c k bytes i)
completed_lawful c k bytes i h e =
    let o = operation_of (byte bytes 2) in
    let r = right_before (wrongs (meant c k bytes) bytes) 2 i e in
    let stands = not-false (permitted c k (byte bytes 2)) (r.0 h) in
    record {
      standing = ap (permitted c k) (among_named (byte bytes 2) (standing c k) stands) ∙ stands;
      leg = kept_inside i 3 (byte bytes 3) leg_range (omega arith) r.1.0;
      number = kept_inside i 4 (word bytes 4) (number_range o) (grind arith) r.1.1.0;
      identity = kept_inside i 6 (word bytes 6) (identity_range k o) (grind arith) r.1.1.1.1.0;
      address = kept_inside i 8 (word bytes 8) (address_range k o) (grind arith) r.1.1.1.1.1.1.0;
      error = error_inside i (byte bytes 10) k r.1.1.1.1.1.1.1.1.0;
    }

-- a fact of each of n numbers from j on
abbrev Places : (ℕ → Type 0) → ℕ → ℕ → Type 0
Places P j zero = Unit {0}
Places P j (suc n) = P j × Places P (suc j) n

place : (P : ℕ → Type 0) (n j k : ℕ) → Places P j n → j ≤ k → k < j + n → P k
place P zero j k all h lt = absurd (omega arith)
place P (suc n) j k all h lt =
    elim (cases_eq j k) [ inl e ↦ subst P e all.0 | inr ne ↦ place P n (suc j) k all.1 (omega arith) (omega arith) ]

kept_is : (i j n : ℕ) (s : Span) → j < i → kept i j n s ≡ n
kept_is i j n s lt = rw (lt-ltb j i lt)

-- the two bytes of a field that is kept
kept_word : (i j h l : ℕ) (s : Span) → j < i → l < 256 → (h ≡ kept i j (h * 256 + l) s / 256) × (l ≡ kept i j (h * 256 + l) s % 256)
kept_word i j h l s lt small = rw (lt-ltb j i lt) (word_is (h * 256 + l) h l refl small)

error_kept : (i n : ℕ) (k : Kind) → 10 < i → inside (error_range k) n ≡ true → n ≡ error_byte (cond (ltb 10 i) (error_of n) (some_error k))
error_kept i n k lt fine = rw (lt-ltb 10 i lt) (sym (error_named n (error_small k n fine)))

completed_begins : (c : Carrier) (k : Kind) (bytes : List ℕ) (i : ℕ) → ((j : ℕ) → byte bytes j < 256) → 2 < i → i < 16
    → carrier_of (byte bytes 0) ≡ Some c → kind_of (byte bytes 1) ≡ Some k → first 2 (wrongs (meant c k bytes) bytes) ≡ Some i
    → Begins i bytes (completed c k bytes i)
completed_begins c k bytes i small h h16 ec ek e j lt =
    let o = operation_of (byte bytes 2) in
    let r = right_before (wrongs (meant c k bytes) bytes) 2 i e in
    let stands = not-false (permitted c k (byte bytes 2)) (r.0 h) in
    let ends = r.1.1.1.1.1.1.1.1 in
    place (λ p. p < i → byte bytes p ≡ byte (row_of (completed c k bytes i)) p) 16 0 j
    (
    (λ _. sym (numbered_has carrier_number (byte bytes 0) carriers c ec))
    & (λ _. sym (numbered_has kind_number (byte bytes 1) kinds k ek))
    & (λ _. sym (among_named (byte bytes 2) (standing c k) stands))
    & (λ p. sym (kept_is i 3 (byte bytes 3) leg_range p))
    & (λ p. (kept_word i 4 (byte bytes 4) (byte bytes 5) (number_range o) p (small 5)).0)
    & (λ p. (kept_word i 4 (byte bytes 4) (byte bytes 5) (number_range o) (omega arith) (small 5)).1)
    & (λ p. (kept_word i 6 (byte bytes 6) (byte bytes 7) (identity_range k o) p (small 7)).0)
    & (λ p. (kept_word i 6 (byte bytes 6) (byte bytes 7) (identity_range k o) (omega arith) (small 7)).1)
    & (λ p. (kept_word i 8 (byte bytes 8) (byte bytes 9) (address_range k o) p (small 9)).0)
    & (λ p. (kept_word i 8 (byte bytes 8) (byte bytes 9) (address_range k o) (omega arith) (small 9)).1)
    & (λ p. error_kept i (byte bytes 10) k p (not-false (inside (error_range k) (byte bytes 10)) (ends.0 p)))
    & (λ p. zero_is (byte bytes 11) (ends.1.0 p))
    & (λ p. zero_is (byte bytes 12) (ends.1.1.0 p))
    & (λ p. zero_is (byte bytes 13) (ends.1.1.1.0 p))
    & (λ p. zero_is (byte bytes 14) (ends.1.1.1.1.0 p))
    & (λ p. zero_is (byte bytes 15) (ends.1.1.1.1.1.0 p))
    & tt
    ) (omega arith) (omega arith) lt

-- a fault past byte 2 is found in a field
first_wrong : (bytes : List ℕ) (i : ℕ) → ((j : ℕ) → byte bytes j < 256) → 2 < i → i < 16 → Outcome bytes (fault i) → (m : Message) × Lawful m × Begins i bytes m
first_wrong bytes i small h h16 (length_wrong e) = absurd (omega (arith, same_fault i 16 e))
first_wrong bytes i small h h16 (no_carrier none e) = absurd (omega (arith, same_fault i 0 e))
first_wrong bytes i small h h16 (no_kind none e) = absurd (omega (arith, same_fault i 1 e))
first_wrong bytes i small h h16 (fields c k l ec ek e) =
    let f = unless_fault (first 2 (wrongs (meant c k bytes) bytes)) (meant c k bytes) i e in
    (completed c k bytes i, completed_lawful c k bytes i h f, completed_begins c k bytes i small h h16 ec ek f)

byte_small : (bytes : List ℕ) → Bytes bytes → (j : ℕ) → byte bytes j < 256
byte_small [] all j = omega arith
byte_small (b ∷ bs) all zero = all.0
byte_small (b ∷ bs) all (suc j) = byte_small bs all.1 j

pub fault_is_first : FaultIsFirst
fault_is_first bytes i all e h h16 = first_wrong bytes i (byte_small bytes all) h h16 (outcome bytes (fault i) e)
