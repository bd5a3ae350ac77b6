-- Laws of strings of bytes.
use mathlib.Core.List.{List, [], ◌∷◌, ◌++◌}
use Prim.Native.Nat.{ℕ, zero, suc, ◌<◌}
use native.Mathlib.Omega.{arith}
use lib.ListN.{get_or, take, drop, replicate}
use Rattle.octets.specs.Bytes.{Bytes}

pub bytes_append : (xs ys : List ℕ) → Bytes xs → Bytes ys → Bytes (xs ++ ys)
bytes_append [] ys hx hy = hy
bytes_append (x ∷ xs) ys hx hy = (hx.0, bytes_append xs ys hx.1 hy)

pub bytes_parts : (xs ys : List ℕ) → Bytes (xs ++ ys) → Bytes xs × Bytes ys
bytes_parts [] ys h = (tt, h)
bytes_parts (x ∷ xs) ys h = let rest = bytes_parts xs ys h.1 in ((h.0, rest.0), rest.1)

pub bytes_take : (n : ℕ) (xs : List ℕ) → Bytes xs → Bytes (take n xs)
bytes_take zero xs h = tt
bytes_take (suc n) [] h = tt
bytes_take (suc n) (x ∷ xs) h = (h.0, bytes_take n xs h.1)

pub bytes_drop : (n : ℕ) (xs : List ℕ) → Bytes xs → Bytes (drop n xs)
bytes_drop zero xs h = h
bytes_drop (suc n) [] h = tt
bytes_drop (suc n) (x ∷ xs) h = bytes_drop n xs h.1

pub bytes_zeros : (n : ℕ) → Bytes (replicate n 0)
bytes_zeros zero = tt
bytes_zeros (suc n) = (omega arith, bytes_zeros n)

pub bytes_at : (xs : List ℕ) (i : ℕ) → Bytes xs → get_or xs i 0 < 256
bytes_at [] i h = omega arith
bytes_at (x ∷ xs) zero h = h.0
bytes_at (x ∷ xs) (suc i) h = bytes_at xs i h.1

-- what is known of a slice, index by index
pub bytes_known : (xs : List ℕ) → ((i : ℕ) → get_or xs i 0 < 256) → Bytes xs
bytes_known [] h = tt
bytes_known (x ∷ xs) h = (h 0, bytes_known xs (λ i. h (suc i)))
