-- The roots of parts that are all zeros, in a table of a root a level, from the leaf upward.
use Rattle.std.specs.Prelude.{◌≡◌, List, [], ℕ, ◌≤◌, slice_index_or}
use Rattle.merkle.specs.Tree.{pad_to, width, root}

-- as far up as n bytes have room for
abbrev pub ZeroRoots : List ℕ → ℕ → List (List ℕ) → Type 0
ZeroRoots prefix n table = (l : ℕ) → width l ≤ n → slice_index_or table l [] ≡ root prefix l (pad_to (width l) [])
