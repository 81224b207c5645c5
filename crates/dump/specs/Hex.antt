-- Bytes as hexadecimal digits, two for each byte.
use Rattle.std.specs.Prelude.{ℕ, ◌+◌, ◌-◌, ◌*◌, ◌/◌, ◌%◌, Bool, cond, ◌&&◌, List, [], ◌∷◌, Some, None, Option, nat_le, nat_lt}

abbrev pub between : ℕ → ℕ → ℕ → Bool
between least most c = nat_le least c && nat_le c most

-- the value of a digit of either case, by its character's code: 0 to 9, a to f, A to F
abbrev pub digit_of : ℕ → Option ℕ
digit_of c = cond (between 48 57 c) (Some (c - 48)) (cond (between 97 102 c) (Some (c - 97 + 10)) (cond (between 65 70 c) (Some (c - 65 + 10)) None))

-- the digit that stands for a value below 16, in lower case
abbrev pub glyph : ℕ → ℕ
glyph n = cond (nat_lt n 10) (48 + n) (87 + n)

-- a row of digits: two for each byte, the more significant first
unfoldable pub hex_text : List ℕ → List ℕ
hex_text [] = []
hex_text (b ∷ bs) = glyph (b / 16) ∷ glyph (b % 16) ∷ hex_text bs

abbrev pub paired : Option ℕ → Option ℕ → Option ℕ
paired None o = None
paired (Some h) None = None
paired (Some h) (Some l) = Some (h * 16 + l)

abbrev pub before : Option ℕ → Option (List ℕ) → Option (List ℕ)
before None o = None
before (Some b) None = None
before (Some b) (Some bs) = Some (b ∷ bs)

-- the bytes that a line of digits means: none unless it has digits alone, an even number of them
abbrev pub hex_row : List ℕ → Option (List ℕ)
hex_row [] = Some []
hex_row (h ∷ []) = None
hex_row (h ∷ l ∷ rest) = before (paired (digit_of h) (digit_of l)) (hex_row rest)
