-- A list of numbers that is a string of bytes.
use Rattle.std.specs.Prelude.{List, [], ◌∷◌, ℕ, ◌<◌}

-- each is below 256
abbrev pub Bytes : List ℕ → Type 0
Bytes [] = Unit {0}
Bytes (b ∷ bs) = (b < 256) × Bytes bs
