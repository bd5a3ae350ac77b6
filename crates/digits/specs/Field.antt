-- "Numbers are decimal, bytes lower-case hex".
use Rattle.std.specs.Prelude.{cond, List, [], ◌∷◌, ◌++◌, ℕ, zero, suc, ◌+◌, ◌/◌, ◌%◌, ltb}

-- the ASCII code of a digit: `0` to `9`, then `a` to `f`
unfoldable pub digit : ℕ → ℕ
digit d = cond (ltb d 10) (48 + d) (87 + d)

-- the digits of n, of which there are at most so many: the last one, and before it those of n / 10 where that is not 0
unfoldable pub digits : ℕ → ℕ → List ℕ
digits zero n = []
digits (suc most) n = cond (ltb n 10) [] (digits most (n / 10)) ++ (digit (n % 10) ∷ [])

-- every number of eight bytes has at most twenty digits
unfoldable pub decimal : ℕ → List ℕ
decimal n = digits 20 n

-- two digits a byte
unfoldable pub hex : List ℕ → List ℕ
hex [] = []
hex (b ∷ bs) = digit (b / 16) ∷ digit (b % 16) ∷ hex bs
