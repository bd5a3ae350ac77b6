-- The five steps of a round.
use Rattle.std.specs.Prelude.{List, ℕ, ◌+◌, ◌*◌, ◌%◌, get_or, set}
use Rattle.std.specs.Int.Bits.{bit_xor, bit_and}
use Rattle.tables.specs.Rules.{tab, offset}
use Rattle.permutation.specs.Lanes.{lane, state, rot, complement}

-- C[x] = A[x, 0] xor A[x, 1] xor A[x, 2] xor A[x, 3] xor A[x, 4]
abbrev pub C : List ℕ → List ℕ
C a = tab (λ x. bit_xor (bit_xor (bit_xor (bit_xor (lane a x 0) (lane a x 1)) (lane a x 2)) (lane a x 3)) (lane a x 4)) 0 5

-- D[x] = C[x - 1] xor rot(C[x + 1], 1)
abbrev pub D : List ℕ → List ℕ
D a = let c = C a in tab (λ x. bit_xor (get_or c ((x + 4) % 5) 0) (rot (get_or c ((x + 1) % 5) 0) 1)) 0 5

-- A[x, y] xor D[x]
abbrev pub theta : List ℕ → List ℕ
theta a = let d = D a in state (λ x y. bit_xor (lane a x y) (get_or d x 0))

abbrev pub rho : List ℕ → List ℕ
rho a = state (λ x y. rot (lane a x y) (offset (x + 5 * y)))

abbrev pub pi : List ℕ → List ℕ
pi a = state (λ x y. lane a (x + 3 * y) x)

-- B[x, y] xor ((not B[x + 1, y]) and B[x + 2, y])
abbrev pub chi : List ℕ → List ℕ
chi b = state (λ x y. bit_xor (lane b x y) (bit_and (complement (lane b (x + 1) y)) (lane b (x + 2) y)))

-- A[0, 0] xor the round's constant
abbrev pub iota : ℕ → List ℕ → List ℕ
iota rc a = set a 0 (bit_xor (lane a 0 0) rc)
