-- A book without the records outside a depth: "the others go".
use Rattle.std.specs.Prelude.{cond, ◌≡◌, List, ◌++◌, ℕ, ◌+◌, ◌-◌, ◌*◌, length, take, drop, set, replicate}
use Rattle.octets.specs.Number.{bytes_of}
use Rattle.moving.specs.Moving.{placed}
use Rattle.octets.specs.Pieces.{pieces}
use Rattle.settling.specs.Book.{inside}
use Rattle.book.specs.Shape.{shape_in}
use Rattle.book.specs.Layout.{count_in, records_in, laid}
use Rattle.filing.specs.Whole.{whole}

-- the bytes of s, with the records l in the place of its own and zeros behind them, as far as those went
abbrev pub refilled : List ℕ → List (List ℕ) → List ℕ
refilled s l = placed s 48 (laid l ++ replicate (145 * (count_in s - length l)) 0)

-- the depth d and the number n of records, in the header
abbrev pub reheaded : List ℕ → ℕ → ℕ → List ℕ
reheaded s d n = placed (set s 7 d) 44 (bytes_of 4 n)

-- the book at depth d, with the records inside it
unfoldable pub refiled : List ℕ → ℕ → List ℕ
refiled s d = let l = inside (shape_in s) d (records_in s) in reheaded (refilled s l) d (length l)

-- where s holds what its header counts
unfoldable pub kept_bytes : List ℕ → ℕ → List ℕ
kept_bytes s d = cond (whole s) (refiled s d) s

-- how many of the records before place i stay
unfoldable pub staying : List ℕ → ℕ → ℕ → ℕ
staying s i d = cond (whole s) (length (inside (shape_in s) d (take i (records_in s)))) 0

-- of the first i of `count` records of a book those inside the depth
abbrev pub inside_in : List ℕ → ℕ → ℕ → ℕ → List (List ℕ)
inside_in s count depth i = inside (shape_in s) depth (take i (pieces 145 count (drop 48 s)))

-- A pass over the records of the book `was`, which stands at place i: the j that stay so far are at the front, the others yet to come
-- where they were.
pub record Packed (was : List ℕ) (count depth : ℕ) (s : List ℕ) (i j : ℕ) : Type 0 where
  pub front : take (48 + 145 * j) s ≡ take 48 was ++ laid (inside_in was count depth i)
  pub yet : drop (48 + 145 * i) s ≡ drop (48 + 145 * i) was
  pub kept : j ≡ length (inside_in was count depth i)
  pub size : length s ≡ length was
