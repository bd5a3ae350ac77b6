-- What the calls of the tree give, on every input.
use Rattle.std.specs.Prelude.{cond, List, ◌++◌, ℕ, ltb, replicate}
use Rattle.merkle.specs.Tree.{pad_to, width, hash, root}

-- the hash of a message that is handed over in two parts
abbrev pub hash_of : List ℕ → List ℕ → List ℕ → List ℕ
hash_of prefix first second = hash prefix (first ++ second)

-- the root of a part of level l, cut to its width or with zeros behind it; no level is above 7, and there it is zeros
unfoldable pub root_of : List ℕ → ℕ → List ℕ → List ℕ
root_of prefix l part = cond (ltb 7 l) (replicate 32 0) (root prefix l (pad_to (width l) part))
