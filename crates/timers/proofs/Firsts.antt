-- What a word and the deadlines mean after set and stop, and the step of a search for the first.
use Rattle.std.proofs.Common.{◌≡◌, ℕ, ◌*◌, ◌%◌, ◌^◌, ◌<◌, ◌≢◌, eqb, ◌⊎◌, List, length, get_or, set, Some, None, Option, refl, arith}
use Rattle.std.specs.Prelude.{IfSome, IsSomeAnd}
use Rattle.timers.specs.declared.meaning.Due.{Due}
use Rattle.timers.specs.Order.{NoLater}
use Rattle.std.specs.Map.{update}
use Rattle.std.specs.Int.{bit_at, bit_not, w64}
use lib.Bits.{bit_and, bit_or}
use Rattle.std.proofs.lemmas.Bool.Decides.{nat_tests}
use Rattle.std.proofs.lemmas.List.{get_or-set_same, get_or-set_other}
use Rattle.std.proofs.lemmas.Nat.Bits.{bit_at_set_same, bit_at_set_other, bit_at_clear_same, bit_at_clear_other}
use Rattle.timers.specs.Bitmaps.{bitmap_meant}

-- one digit and one deadline changed
update_one : (w v : ℕ) (dl el : List ℕ) (key : ℕ) (o : Option ℕ) → bitmap_meant v el key ≡ o → ((k : ℕ) → k < 64 → k ≢ key → bit_at v k ≡ bit_at w k) → ((k : ℕ) → k ≢ key → get_or el k 0 ≡ get_or dl k 0) → bitmap_meant v el ≡ update eqb (bitmap_meant w dl) key o
update_one w v dl el key o here bits ats i k = go k i
  where
    go : (k : ℕ) → bitmap_meant v el k ≡ update eqb (bitmap_meant w dl) key o k
    go k = grind (arith, nat_tests, bits k, ats k)

pub meant_set : (w : ℕ) (dl : List ℕ) (key at : ℕ) → key < 64 → length dl ≡ 64 → bitmap_meant (bit_or w (1 * 2 ^ key % 2 ^ 64)) (set dl key at) ≡ update eqb (bitmap_meant w dl) key (Some at)
meant_set w dl key at l n = update_one w _ dl _ key _ (grind (arith, nat_tests, bit_at_set_same w64 w key l, get_or-set_same)) (λ k m ne. bit_at_set_other w64 w key l k ne) (λ k ne. get_or-set_other dl key k at 0 ne)

pub meant_stop : (w : ℕ) (dl : List ℕ) (key : ℕ) → key < 64 → bitmap_meant (bit_and w (bit_not w64 (1 * 2 ^ key % 2 ^ 64))) dl ≡ update eqb (bitmap_meant w dl) key None
meant_stop w dl key l = update_one w _ dl _ key _ (grind (arith, nat_tests, bit_at_clear_same w64 w key l)) (λ k m ne. bit_at_clear_other w64 w key l k m ne) (λ k ne. refl)

-- ---- the search

-- the first of the keys of w that are not in rest, all of which come later
pub record SoFar (w rest : ℕ) (best : Option Due) (dl : List ℕ) : Type 0 where
  pub later : (k : ℕ) → bit_at rest k ≡ 1 → (bit_at w k ≡ 1) × IfSome best (λ d. d.key < k)
  pub runs : IfSome best (λ d. bitmap_meant w dl d.key ≡ Some d.deadline)
  pub won : (k a : ℕ) → bitmap_meant w dl k ≡ Some a → (bit_at rest k ≡ 1) ⊎ IsSomeAnd best (λ d. NoLater d.key d.deadline k a)
