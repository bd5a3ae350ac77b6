-- Laws of a part of a list: so many from a place on.
use mathlib.Core.Path.{◌≡◌}
use mathlib.Core.List.{List, [], ◌∷◌}
use Prim.Native.Nat.{ℕ, zero, suc, ◌+◌, ◌≤◌}
use native.Mathlib.Nat.{zero-add, suc-add}
use native.Mathlib.Omega.{arith}
use lib.ListN.{length, take, drop, length-take, length-drop}
use lib.Seq.{take-nil}

pub part_length : (s : List ℕ) (at n : ℕ) → at + n ≤ length s → length (take n (drop at s)) ≡ n
part_length s at n h = simp (length-take, length-drop) (omega arith)

pub part_of_take : (k n : ℕ) (s : List ℕ) → drop k (take (k + n) s) ≡ take n (drop k s)
part_of_take zero n s = rw zero-add
part_of_take (suc k) n [] = rw (take-nil {A = ℕ} (suc k + n), take-nil {A = ℕ} n)
part_of_take (suc k) n (x ∷ s) = rw suc-add (part_of_take k n s)
