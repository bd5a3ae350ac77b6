-- Tables that a rule makes, and the rules of the two of Keccak-f[1600].
use Rattle.std.specs.Prelude.{cond, List, [], ◌∷◌, ℕ, zero, suc, ◌+◌, ◌-◌, ◌*◌, ◌/◌, ◌%◌, ◌^◌, eqb, ltb}
use Rattle.std.specs.Int.Bits.{bit_xor}

-- the n numbers f i, f (i + 1), ..
abbrev pub tab : (ℕ → ℕ) → ℕ → ℕ → List ℕ
tab f i zero = []
tab f i (suc n) = f i ∷ tab f (suc i) n

-- the walk starts at (1, 0) and goes from (u, v) to (v, 2u + 3v); the offset at its step t is (t + 1)(t + 2) / 2 modulo 64
abbrev pub walked : ℕ → ℕ → ℕ → ℕ → ℕ → ℕ
walked zero u v t i = 0
walked (suc n) u v t i = cond (eqb (u + 5 * v) i) ((t + 1) * (t + 2) / 2 % 64) (walked n v ((2 * u + 3 * v) % 5) (t + 1) i)

-- how far lane i turns; the walk does not come to lane 0, which stays
abbrev pub offset : ℕ → ℕ
offset i = walked 24 1 0 0 i

abbrev pub offsets : List ℕ
offsets = tab offset 0 25

-- the shift register after t steps, bit i of the number being R[i]: shifted, and what passes bit 7 is xored into R[0], R[4], R[5] and R[6]
abbrev pub register : ℕ → ℕ
register zero = 1
register (suc t) = let r = register t in cond (ltb r 128) (2 * r) (bit_xor (2 * r - 256) 0x71)

-- bit 2^j - 1 of round i's constant is the register's R[0] after j + 7i steps, for j below n; the other bits are 0
abbrev pub constant_bits : ℕ → ℕ → ℕ
constant_bits i zero = 0
constant_bits i (suc j) = constant_bits i j + register (j + 7 * i) % 2 * 2 ^ (2 ^ j - 1)

abbrev pub RC : ℕ → ℕ
RC i = constant_bits i 7
