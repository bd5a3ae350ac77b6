-- The definitions of rho and pi against the Keccak team's form of both in one.
use mathlib.Core.Path.{◌≡◌, refl}
use mathlib.Core.List.{List}
use Prim.Native.Nat.{ℕ, ◌+◌, ◌*◌, ◌%◌, ◌/◌}
use Rattle.tables.specs.Rules.{tab, offset}
use Rattle.permutation.specs.Lanes.{lane, rot}
use Rattle.permutation.specs.Steps.{rho, pi}

-- B[y, 2x + 3y] = rot(A[x, y], r[x, y]), at each (x, y)
pub rho_and_pi : (a : List ℕ)
    → tab (λ i. lane (pi (rho a)) (i / 5) (2 * (i % 5) + 3 * (i / 5))) 0 25 ≡ tab (λ i. rot (lane a (i % 5) (i / 5)) (offset i)) 0 25
rho_and_pi a = refl
