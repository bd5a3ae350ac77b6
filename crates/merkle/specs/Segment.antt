-- Segments of 32 bytes, of data of any length.
use Rattle.std.specs.Prelude.{List, [], ◌≡◌, ℕ, ◌+◌, ◌*◌, ◌/◌, ◌≤◌, min, length, take, drop}
use Rattle.std.proofs.Common.{◌∙◌, ap, arith, drop_of_length-le}
use Rattle.std.proofs.Math.Seq.{take-nil}

abbrev pub segment_count : ℕ → ℕ
segment_count n = (n + 31) / 32

-- where in n bytes a segment begins: at their end from the count on
abbrev pub segment_start : ℕ → ℕ → ℕ
segment_start n index = min n (32 * index)

-- that stretch of the data, shorter at the end
abbrev pub segment_of : List ℕ → ℕ → List ℕ
segment_of chunk index = take 32 (drop (32 * index) chunk)

-- the place n bytes on; a place is a block of memory and an offset into it
abbrev pub onward : ℕ → ℕ × ℕ → ℕ × ℕ
onward n place = (place.0, n + place.1)

-- ---- the count is the least number of segments that covers the data

pub count_covers : (n : ℕ) → n ≤ 32 * segment_count n
count_covers n = omega arith

pub count_least : (n k : ℕ) → n ≤ 32 * k → segment_count n ≤ k
count_least n k h = omega arith

pub empty_from_count : (chunk : List ℕ) (index : ℕ) → segment_count (length chunk) ≤ index → segment_of chunk index ≡ []
empty_from_count chunk index h = ap (take 32) (drop_of_length-le chunk {i = 32 * index} (omega arith)) ∙ take-nil 32
