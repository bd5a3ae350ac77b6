-- When machines are at one about a draw.
use Rattle.std.specs.Prelude.{Bool, false, ◌&&◌, List, [], ◌∷◌, ℕ, Result, Ok, Err, ◌≡◌}
use Rattle.verdict.specs.Equal.{same}

-- neither draw was refused, and both drew one hash
unfoldable pub one_hash : {E : Type 0} → Result (List ℕ) E → Result (List ℕ) E → Bool
one_hash (Ok first) (Ok second) = same first second
one_hash (Ok first) (Err error) = false
one_hash (Err error) b = false

-- four machines agree where each of the others drew the first one's hash
unfoldable pub agreed : {E : Type 0} → Result (List ℕ) E → Result (List ℕ) E → Result (List ℕ) E → Result (List ℕ) E → Bool
agreed a b c d = one_hash a b && (one_hash a c && one_hash a d)

-- the same of a row of four
abbrev pub all_agreed : {E : Type 0} → List (Result (List ℕ) E) → Bool
all_agreed (a ∷ b ∷ c ∷ d ∷ []) = agreed a b c d
all_agreed _ = false

-- the same, said of the draws and not as a test
abbrev pub OneHash : {E : Type 0} → Result (List ℕ) E → Result (List ℕ) E → Type 0
OneHash a b = (hash : List ℕ) × (a ≡ Ok hash) × (b ≡ Ok hash)

abbrev pub Agree : {E : Type 0} → Result (List ℕ) E → Result (List ℕ) E → Result (List ℕ) E → Result (List ℕ) E → Type 0
Agree a b c d = OneHash a b × (OneHash a c × OneHash a d)
