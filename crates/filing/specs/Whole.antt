-- Bytes that hold what their header counts.
use Rattle.std.specs.Prelude.{Bool, ◌&&◌, List, ℕ, ◌+◌, ◌*◌, leb, length}
use Rattle.book.specs.Layout.{count_in}

-- 65,536 records at most, and each of them is there
unfoldable pub whole : List ℕ → Bool
whole s = leb (count_in s) 65536 && leb (48 + 145 * count_in s) (length s)
