-- Numbers in bytes: big-endian, and little-endian where the name says so.
use Rattle.std.specs.Prelude.{Option, Some, None, ℕ, zero, suc, ◌+◌, ◌*◌, ◌/◌, ◌%◌, ◌^◌, cond, List, [], ◌∷◌, ◌++◌, leb, length, take, drop}

-- the number that a string of bytes is
unfoldable pub big : List ℕ → ℕ
big [] = 0
big (x ∷ xs) = x * 256 ^ length xs + big xs

-- the number that it is with the least byte first
unfoldable pub little : List ℕ → ℕ
little [] = 0
little (b ∷ bs) = b + 256 * little bs

-- the `width` bytes of s from `at`, where they are there
unfoldable pub part_of : ℕ → List ℕ → ℕ → Option (List ℕ)
part_of width s at = cond (leb (at + width) (length s)) (Some (take width (drop at s))) None

-- the number in the `width` bytes of s from `at`, 0 where they are not there
unfoldable pub big_at : ℕ → List ℕ → ℕ → ℕ
big_at width s at = cond (leb (at + width) (length s)) (big (take width (drop at s))) 0

-- the same with the least byte first
unfoldable pub little_at : ℕ → List ℕ → ℕ → ℕ
little_at width s at = cond (leb (at + width) (length s)) (little (take width (drop at s))) 0

-- the last `width` bytes of n
unfoldable pub bytes_of : ℕ → ℕ → List ℕ
bytes_of zero n = []
bytes_of (suc width) n = bytes_of width (n / 256) ++ (n % 256 ∷ [])
