-- w & (w - 1) is w without its lowest 1.
use Rattle.std.proofs.Common.{◌≡◌, ℕ, zero, suc, ◌-◌, ◌/◌, ◌%◌, ◌^◌, ◌<◌, ◌≢◌, refl, ap, pow-suc, arith}
use Rattle.std.specs.Int.{bit_at, w64}
use Rattle.std.proofs.lemmas.Nat.Bits.{bit_at_lowest, bit_at-suc, bit_at-trailing_zeros}
use lib.Bits.{bit_and, and_step, and_self}
use lib.Count.{count_trailing_zeros, under, ones, ones_step}
use Rattle.timers.specs.Bitmaps.{IsLowest, Without}

abbrev cleared : ℕ → ℕ
cleared w = bit_and w (w - 1)

-- by the digit d that comes before those of the half
clears_by : (w t d : ℕ) → w % 2 ≡ d → 0 < w → (0 < w / 2 → Without (w / 2) t (cleared (w / 2))) → Without w (under d t) (cleared w)
clears_by w t (suc d) odd some half = record { off = omega (arith, bit_at_lowest (cleared w), and_step w (w - 1)); others = others; ones_less = omega (arith, ones_step w, ones_step (cleared w), ap ones rest, and_step w (w - 1)) }
  where
    rest : cleared w / 2 ≡ w / 2
    rest = let h : (w - 1) / 2 ≡ w / 2 = omega arith in omega (arith, and_step w (w - 1), ap (bit_and (w / 2)) h, and_self (w / 2))

    others : (k : ℕ) → k ≢ 0 → bit_at (cleared w) k ≡ bit_at w k
    others zero n = absurd (n refl)
    others (suc k) n = grind (arith, rest, bit_at-suc (cleared w) k, bit_at-suc w k)
clears_by w t zero even some half =
    record { off = grind (arith, rest, bit_at-suc (cleared w) t, h.off); others = others; ones_less = omega (arith, ones_step w, ones_step (cleared w), ap ones rest, h.ones_less, and_step w (w - 1)) }
  where
    h : Without (w / 2) t (cleared (w / 2))
    h = half (omega arith)

    rest : cleared w / 2 ≡ cleared (w / 2)
    rest = let h : (w - 1) / 2 ≡ w / 2 - 1 = omega arith in omega (arith, and_step w (w - 1), ap (bit_and (w / 2)) h)

    others : (k : ℕ) → k ≢ suc t → bit_at (cleared w) k ≡ bit_at w k
    others zero n = omega (arith, bit_at_lowest w, bit_at_lowest (cleared w), and_step w (w - 1))
    others (suc k) n = grind (arith, rest, bit_at-suc (cleared w) k, bit_at-suc w k, h.others k)

pub clears : (d w : ℕ) → 0 < w → w < 2 ^ d → Without w (count_trailing_zeros d w) (bit_and w (w - 1))
unfolding count_trailing_zeros
clears zero w some fits = absurd (omega arith)
clears (suc d) w some fits = clears_by w (count_trailing_zeros d (w / 2)) (w % 2) refl some (λ rest. clears d (w / 2) rest (omega (arith, pow-suc 2 d)))

pub is_lowest : (w : ℕ) → 0 < w → w < 2 ^ 64 → IsLowest w (count_trailing_zeros 64 w)
is_lowest w some fits = let low = bit_at-trailing_zeros w64 w some fits in record { on = low.1; least = low.2 }
