-- How many bytes a read gave.
use Rattle.std.specs.Prelude.{ℕ, List, ◌≤◌, ◌≡◌, length, take}

-- so many bytes stand at the start of xs
abbrev pub IsPrefixLen : ℕ → List ℕ → Type 0
IsPrefixLen n xs = (n ≤ length xs) × (n ≡ length (take n xs))
