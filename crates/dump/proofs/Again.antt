-- What is printed of a message can be put in again.
use Rattle.std.proofs.Common.{◌≡◌, ℕ, ◌+◌, ◌*◌, ◌/◌, ◌%◌, ◌<◌, [], ◌∷◌, Some, refl, ap, ◌∙◌, arith}
use Rattle.std.proofs.lemmas.Bool.Decides.{nat_tests}
use Rattle.message.specs.Format.{row_of}
use Rattle.message.proofs.Back.{reads_back, row_bytes}
use Rattle.dump.specs.Hex.{digit_of, glyph, paired, hex_text}
use Rattle.dump.specs.Lines.{told, text_of}
use Rattle.dump.specs.Laws.{DigitsBack, PrintsAgain}

digit_back : (n : ℕ) → n < 16 → digit_of (glyph n) ≡ Some n
digit_back n h = grind (arith, nat_tests)

byte_back : (b : ℕ) → b < 256 → paired (digit_of (glyph (b / 16))) (digit_of (glyph (b % 16))) ≡ Some b
byte_back b h =
    let high : b / 16 < 16 = omega arith in
    let low : b % 16 < 16 = omega arith in
    let whole : b / 16 * 16 + b % 16 ≡ b = omega arith in
    rw (digit_back (b / 16) high, digit_back (b % 16) low) (ap Some whole)

pub digits_back : DigitsBack
unfolding hex_text
digits_back [] small = refl
digits_back (b ∷ bs) small = rw (byte_back b small.0, digits_back bs small.1)

pub prints_again : PrintsAgain
prints_again m h = ap text_of (digits_back (row_of m) (row_bytes m h)) ∙ ap told (reads_back m h)
