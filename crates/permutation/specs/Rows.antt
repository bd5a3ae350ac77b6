-- A state by its rows, as the code makes it.
use Rattle.std.specs.Prelude.{List, ℕ, get_or}
use Rattle.std.specs.Int.Bits.{bit_xor}
use Rattle.tables.specs.Rules.{tab}
use Rattle.permutation.specs.Lanes.{lane, state}

-- lanes (0, y) to (4, y)
abbrev pub row : ℕ → List ℕ → List ℕ
row y a = tab (λ x. lane a x y) 0 5

-- theta, the words that it xors in being d
abbrev pub mixed : List ℕ → List ℕ → List ℕ
mixed a d = state (λ x y. bit_xor (lane a x y) (get_or d x 0))
