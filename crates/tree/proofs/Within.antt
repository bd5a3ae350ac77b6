-- Up to level 7 the call gives the root of the definition.
use mathlib.Core.List.{List}
use mathlib.Core.Path.{◌≡◌}
use Prim.Native.Nat.{ℕ, ◌≤◌}
use borrow.Author.Tests.{le-ltb}
use Rattle.merkle.specs.Tree.{pad_to, width, root}
use Rattle.tree.specs.Root.{root_of}

pub root_within : (prefix : List ℕ) (l : ℕ) (part : List ℕ) → l ≤ 7 → root_of prefix l part ≡ root prefix l (pad_to (width l) part)
unfolding root_of
root_within prefix l part h = rw (le-ltb _ _ h)
