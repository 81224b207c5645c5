-- The loops over digits, one turn at a time.
use Rattle.std.proofs.Common.{◌≡◌, ℕ, ◌+◌, ◌-◌, ◌/◌, ◌%◌, ◌<◌, ◌≤◌, List, [], ◌∷◌, ◌++◌, length, get_or, take, drop, Some, None, Option, sym, refl, ap, ◌∙◌, append_assoc, arith}
use Rattle.std.proofs.lemmas.List.{take_all, take_more}
use Rattle.dump.specs.Hex.{glyph, digit_of, paired, before, hex_row, hex_text}

-- bytes that were read already, before those that are still to come
abbrev pub after : List ℕ → Option (List ℕ) → Option (List ℕ)
after xs None = None
after xs (Some ys) = Some (xs ++ ys)

after_more : (xs : List ℕ) (b : ℕ) (o : Option (List ℕ)) → after xs (before (Some b) o) ≡ after (xs ++ b ∷ []) o
after_more xs b None = refl
after_more xs b (Some ys) = ap Some (sym (append_assoc xs (b ∷ []) ys))

-- two digits off the front
two_off : (rest : List ℕ) → 2 ≤ length rest
    → hex_row rest ≡ before (paired (digit_of (get_or rest 0 0)) (digit_of (get_or rest 1 0))) (hex_row (take (length rest - 2) (drop 2 rest)))
two_off [] h = absurd (omega arith)
two_off (x ∷ []) h = absurd (omega arith)
two_off (x ∷ y ∷ rest) h =
    let n : length rest ≤ length (x ∷ y ∷ rest) - 2 = omega arith in
    ap (λ zs. before (paired (digit_of x) (digit_of y)) (hex_row zs)) (sym (take_all (length (x ∷ y ∷ rest) - 2) rest n))

pub row_more : (line rest xs ys : List ℕ) (b : ℕ)
    → hex_row line ≡ after xs (hex_row rest) → 2 ≤ length rest
    → Some b ≡ paired (digit_of (get_or rest 0 0)) (digit_of (get_or rest 1 0)) → ys ≡ xs ++ b ∷ []
    → hex_row line ≡ after ys (hex_row (take (length rest - 2) (drop 2 rest)))
row_more line rest xs ys b inv h eb ey =
    inv
    ∙ ap (after xs) (two_off rest h ∙ ap (λ o. before o (hex_row (take (length rest - 2) (drop 2 rest)))) (sym eb))
    ∙ after_more xs b (hex_row (take (length rest - 2) (drop 2 rest)))
    ∙ ap (λ zs. after zs (hex_row (take (length rest - 2) (drop 2 rest)))) (sym ey)

hex_append : (xs ys : List ℕ) → hex_text (xs ++ ys) ≡ hex_text xs ++ hex_text ys
unfolding hex_text
hex_append [] ys = refl
hex_append (x ∷ xs) ys = ap (λ zs. glyph (x / 16) ∷ glyph (x % 16) ∷ zs) (hex_append xs ys)

-- the digits of one byte more
pub hex_more : (xs : List ℕ) (i : ℕ) → i < length xs
    → hex_text (take i xs) ++ (glyph (get_or xs i 0 / 16) ∷ glyph (get_or xs i 0 % 16) ∷ []) ≡ hex_text (take (i + 1) xs)
unfolding hex_text
hex_more xs i here = rw (take_more xs i 0 here, hex_append)
