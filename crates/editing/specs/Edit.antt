-- A book's bytes after an edit.
use Rattle.std.specs.Prelude.{cond, ◌&&◌, List, ℕ, ◌+◌, ◌-◌, ◌*◌, eqb, leb, length, set, replicate}
use Rattle.octets.specs.Number.{bytes_of}
use Rattle.moving.specs.Moving.{placed, inserted}

-- The record g put in at place i among the n records of s, those from there on behind it, and one more in the header's count; s where i is
-- no place among them, there is no room for one more, or g is no record.
unfoldable pub added : List ℕ → ℕ → ℕ → List ℕ → List ℕ
added s n i g =
    cond (leb n 65535 && (leb i n && (eqb (length g) 145 && leb (193 + 145 * n) (length s))))
    (placed (inserted s (48 + 145 * i) (48 + 145 * n) g) 44 (bytes_of 4 (n + 1)))
    s

-- "An overfull book has depth 16 and count 0", and zeros for records; s where it has no header
unfoldable pub burst_bytes : List ℕ → List ℕ
burst_bytes s =
    cond (leb 48 (length s))
    (placed (placed (set (set s 5 1) 7 16) 44 (bytes_of 4 0)) 48 (replicate (length s - 48) 0))
    s
