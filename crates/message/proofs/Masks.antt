-- The bits of a mask are the operations that it was made of: one test, computed over every carrier, kind and operation.
use Rattle.std.proofs.Common.{◌≡◌, ℕ, ◌*◌, ◌%◌, ◌^◌, ◌<◌, Bool, true, false, not, eqb, sym, refl, arith}
use lib.Bits.{bit_and}
use Rattle.message.specs.declared.codes.Carrier.{Carrier}
use Rattle.message.specs.declared.codes.Kind.{Kind}
use Rattle.message.specs.Table.{standing, mask_of, permitted}
use Rattle.message.proofs.Every.{every_below, below}

abbrev bit : ℕ → ℕ → Bool
bit mask n = not (eqb (bit_and mask ((1 * 2 ^ n) % 65536)) 0)

abbrev agrees : Bool → Bool → Bool
agrees true b = b
agrees false b = not b

equal : (a b : Bool) → agrees a b ≡ true → a ≡ b
equal true true e = refl
equal true false e = sym e
equal false true e = e
equal false false e = refl

every_bit : (c : Carrier) (k : Kind) → every_below (λ n. agrees (bit (mask_of (standing c k)) n) (permitted c k n)) 9 ≡ true
every_bit c k = grind arith

pub bit_right : (mask : ℕ) (c : Carrier) (k : Kind) (n : ℕ) → mask ≡ mask_of (standing c k) → n < 9 → bit mask n ≡ permitted c k n
bit_right mask c k n e h = rw e (equal _ _ (below (λ n. agrees (bit (mask_of (standing c k)) n) (permitted c k n)) 9 (every_bit c k) n h))
