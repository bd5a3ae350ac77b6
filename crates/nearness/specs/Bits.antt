-- The leading equal bits of two byte strings.
use Rattle.std.specs.Prelude.{ℕ, zero, suc, ◌/◌, ◌%◌, cond, List, [], ◌∷◌, ◌++◌, eqb}

-- the last k binary digits of x, highest first
unfoldable pub bits : ℕ → ℕ → List ℕ
bits zero x = []
bits (suc k) x = bits k (x / 2) ++ (x % 2 ∷ [])

-- the bits of a byte string
unfoldable pub bits_of : List ℕ → List ℕ
bits_of [] = []
bits_of (x ∷ xs) = bits 8 x ++ bits_of xs

-- how many, from the first on, are equal
unfoldable pub leading_equal : List ℕ → List ℕ → ℕ
leading_equal [] ys = 0
leading_equal (x ∷ xs) [] = 0
leading_equal (x ∷ xs) (y ∷ ys) = cond (eqb x y) (suc (leading_equal xs ys)) 0

unfoldable pub shared_bits : List ℕ → List ℕ → ℕ
shared_bits first second = leading_equal (bits_of first) (bits_of second)
