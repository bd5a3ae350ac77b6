-- The table of the roots of parts that are all zeros: filled level by level, and read by the halves of a part.
use mathlib.Core.Path.{◌≡◌, refl, sym, ◌∙◌}
use mathlib.Core.List.{List, [], ◌++◌}
use Prim.Native.Nat.{ℕ, zero, suc, ◌+◌, ◌-◌, ◌≤◌, ◌<◌, min}
use native.Mathlib.Nat.{le_trans}
use native.Mathlib.Numerals.{add-one}
use native.Mathlib.Omega.{arith}
use borrow.Author.Count.{below_more}
use lib.ListN.{length, drop, get_or, set, replicate, length-drop}
use lib.Pow.{pow_pos, pow_mono}
use Rattle.std.proofs.Common.{get_or-set_other, get_or-set_same}
use Rattle.std.proofs.lemmas.List.{nil_from_length}
use Rattle.merkle.specs.Tree.{pad_to, width, hash, root}
use Rattle.merkle.specs.Zeros.{ZeroRoots}
use Rattle.merkle.proofs.Halves.{width_suc, root_nothing}
use Rattle.merkle.proofs.Stretch.{width_below}

-- no level of the tree has more bytes than a chunk
pub width_most : (l : ℕ) → l ≤ 7 → width l ≤ 4096
width_most l h = omega (arith, pow_mono h)

-- ---- filling it

-- its first n rows
abbrev pub Rows : List ℕ → ℕ → List (List ℕ) → Type 0
Rows prefix n table = (l : ℕ) → l < n → get_or table l [] ≡ root prefix l (pad_to (width l) [])

pub rows_one : (prefix : List ℕ) → Rows prefix 1 (replicate 8 (replicate 32 0))
unfolding root pad_to
rows_one prefix zero h = refl
rows_one prefix (suc l) h = absurd (omega arith)

-- one row more: both halves of a part of zeros have the root of the row below
pub rows_more : (prefix : List ℕ) (l : ℕ) (table : List (List ℕ)) (row : List ℕ) → l + 1 < length table → Rows prefix (l + 1) table
    → row ≡ hash prefix (get_or table l [] ++ get_or table l []) → Rows prefix (l + 1 + 1) (set table (l + 1) row)
rows_more prefix l table row h rows e =
    below_more _ (l + 1)
    (λ k less. let other : k ≡ l + 1 → ⊥ = omega arith in rw get_or-set_other (rows k less))
    (rw get_or-set_same (e ∙ rw (rows l (omega arith), add-one) (sym (root_nothing prefix l))))

-- a part that is smaller than that of level k is of a level below k
pub width_tells : (l k : ℕ) → width l < width k → l < k
width_tells l zero h = absurd (omega (arith, pow_pos l))
width_tells zero (suc k) h = omega arith
width_tells (suc l) (suc k) h =
    let less : width l < width k = omega (arith, width_suc l, width_suc k) in
    omega (arith, width_tells l k less)

-- once the next row would be of a part that there is no room for
pub rows_all : (prefix : List ℕ) (l n : ℕ) (table : List (List ℕ)) → n < width l → Rows prefix l table → ZeroRoots prefix n table
rows_all prefix l n table h rows k fits = rows k (width_tells k l (omega arith))

-- ---- reading it

-- what serves for more room serves for less
pub zeros_fewer : (prefix : List ℕ) (n m : ℕ) (table : List (List ℕ)) → n ≤ m → ZeroRoots prefix m table → ZeroRoots prefix n table
zeros_fewer prefix n m table h z l k = z l (le_trans k h)

-- the second half of a part lacks no more than the part
pub second_lacks : (level : ℕ) (s : List ℕ) (cut : ℕ) → (level ≡ 0 → ⊥) → length s ≤ width level → cut ≡ min (length s) (width (level - 1))
    → (length (drop cut s) ≤ width (level - 1)) × (width (level - 1) - length (drop cut s) ≤ width level - length s)
second_lacks level s cut above fits e = simp length-drop (omega (arith, width_below level above), omega (arith, width_below level above))

-- the row of a level is the root of a part of that level that has no byte
pub row_read : (prefix : List ℕ) (level : ℕ) (s : List ℕ) (table : List (List ℕ)) → length s ≡ 0
    → ZeroRoots prefix (width level - length s) table → get_or table level [] ≡ root prefix level (pad_to (width level) s)
row_read prefix level s table e zeros = rw (nil_from_length s e) (zeros level (omega arith))
