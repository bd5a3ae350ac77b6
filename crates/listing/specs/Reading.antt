-- What the decimal digits of a number say.
use Rattle.std.specs.Prelude.{◌≡◌, List, [], ◌∷◌, ℕ, ◌+◌, ◌-◌, ◌*◌, ◌^◌, ◌<◌, length, get_or}
use Rattle.digits.specs.Field.{decimal}

-- the number that decimal digits are
unfoldable pub value_of : List ℕ → ℕ
value_of [] = 0
value_of (x ∷ xs) = (x - 0x30) * 10 ^ length xs + value_of xs

-- a number that is written and read again is the number
abbrev pub ReadAgain : Type 0
ReadAgain = (n : ℕ) → n < 2 ^ 64 → value_of (decimal n) ≡ n

-- no other number than 0 begins with the digit `0`
abbrev pub NoZeroInFront : Type 0
NoZeroInFront = (n : ℕ) → n < 2 ^ 64 → get_or (decimal n) 0 0 ≡ 0x30 → n ≡ 0
