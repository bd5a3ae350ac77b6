-- Pieces of one width, one behind the other: the records of a list or of a book, the pairs of a sample.
use Rattle.std.specs.Prelude.{List, [], ◌∷◌, ℕ, zero, suc, take, drop}

-- the first n pieces of a string of bytes
unfoldable pub pieces : ℕ → ℕ → List ℕ → List (List ℕ)
pieces width zero s = []
pieces width (suc n) s = take width s ∷ pieces width n (drop width s)
