-- The state: 25 lanes of 64 bits, lane (x, y) at x + 5y, coordinates modulo 5.
use Rattle.std.specs.Prelude.{List, ℕ, zero, suc, ◌+◌, ◌-◌, ◌*◌, ◌/◌, ◌%◌, ◌^◌, get_or}
use Rattle.std.specs.Int.Bits.{bit_or}
use Rattle.tables.specs.Rules.{tab}

-- A[x, y]
abbrev pub lane : List ℕ → ℕ → ℕ → ℕ
lane a x y = get_or a (x % 5 + 5 * (y % 5)) 0

-- the state whose lane (x, y) is f x y
abbrev pub state : (ℕ → ℕ → ℕ) → List ℕ
state f = tab (λ i. f (i % 5) (i / 5)) 0 25

-- the 64 bits of w, turned by n to the higher end
abbrev pub rot : ℕ → ℕ → ℕ
rot w zero = w
rot w (suc n) = bit_or (w * 2 ^ suc n % 2 ^ 64) (w / 2 ^ (64 - suc n))

-- the 64 bits of w, each the other way
abbrev pub complement : ℕ → ℕ
complement w = (2 ^ 64 - 1) - w
