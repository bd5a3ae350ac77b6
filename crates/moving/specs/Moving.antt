-- A buffer after an edit. Where an edit does not fit, the buffer is as it was.
use Rattle.std.specs.Prelude.{ℕ, ◌+◌, ◌-◌, cond, ◌&&◌, List, ◌++◌, leb, length, take, drop}

-- s, with v in the place of as many bytes from `at`
unfoldable pub over : List ℕ → ℕ → List ℕ → List ℕ
over s at v = take at s ++ v ++ drop (at + length v) s

-- v over s from `at`
unfoldable pub placed : List ℕ → ℕ → List ℕ → List ℕ
placed s at v = cond (leb (at + length v) (length s)) (over s at v) s

-- the n bytes from `from`, over those from `to`, which is not above it
unfoldable pub lowered : List ℕ → ℕ → ℕ → ℕ → List ℕ
lowered s from to n = cond (leb to from && leb (from + n) (length s)) (over s to (take n (drop from s))) s

-- the bytes from `at` up to `end`, over those n further up
unfoldable pub raised : List ℕ → ℕ → ℕ → ℕ → List ℕ
raised s at end n = cond (leb at end && leb (end + n) (length s)) (over s (at + n) (take (end - at) (drop at s))) s

-- v put in at `at`; what stood from there up to `end` follows it, and what stands behind that is as it was
unfoldable pub inserted : List ℕ → ℕ → ℕ → List ℕ → List ℕ
inserted s at end v =
    cond (leb at end && leb (end + length v) (length s))
    (take at s ++ v ++ take (end - at) (drop at s) ++ drop (end + length v) s)
    s
