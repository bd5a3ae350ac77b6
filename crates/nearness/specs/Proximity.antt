-- Definitions 5 and 6 of document 004 for numbers of d = 256 bits, in exact arithmetic.
use Rattle.std.specs.Prelude.{◌≡◌, List, ℕ, suc, ◌-◌, ◌*◌, ◌^◌, ◌≤◌, ◌<◌}
use Rattle.std.specs.Int.Bits.{bit_xor}
use Rattle.octets.specs.Number.{big}

-- definition 5: the distance is the number that the xor of the two is
abbrev pub distance : List ℕ → List ℕ → ℕ
distance x y = bit_xor (big x) (big y)

-- the largest distance, by which distances are normalised
abbrev pub furthest : ℕ
furthest = 2 ^ 256 - 1

-- p is the whole part of the binary logarithm of top / bottom: 2 ^ p ≤ top / bottom < 2 ^ (p + 1)
pub record WholeLog (top bottom p : ℕ) : Type 0 where
  pub reached : 2 ^ p * bottom ≤ top
  pub next_not : top < 2 ^ suc p * bottom

-- definition 6: the proximity order of x and y is 256 if they are equal,
-- and otherwise the whole part of the logarithm of the inverse of their normalised distance, 1 / (distance / furthest)
pub record ProximityOrder (x y : List ℕ) (p : ℕ) : Type 0 where
  pub equal : x ≡ y → p ≡ 256
  pub otherwise : (x ≡ y → ⊥) → WholeLog furthest (distance x y) p
