-- Keccak-f[1600]: 24 rounds.
use Rattle.std.specs.Prelude.{List, ℕ, zero, suc}
use Rattle.tables.specs.Rules.{RC}
use Rattle.permutation.specs.Steps.{theta, rho, pi, chi, iota}

-- the round whose constant is rc
unfoldable pub once : ℕ → List ℕ → List ℕ
once rc a = iota rc (chi (pi (rho (theta a))))

-- rounds 0 to n - 1
unfoldable pub rounds : ℕ → List ℕ → List ℕ
rounds zero a = a
rounds (suc n) a = once (RC n) (rounds n a)

unfoldable pub permute : List ℕ → List ℕ
permute a = rounds 24 a
