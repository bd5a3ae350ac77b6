-- When two things are called equal.
use Rattle.std.specs.Prelude.{ℕ, Bool, true, false, ◌&&◌, List, [], ◌∷◌, ◌≡◌, eqb}
use Rattle.verdict.specs.declared.equal.Verdict.{Verdict}
use Rattle.verdict.specs.declared.equal.Verdict.TheVariants.{Equal, Differs}

-- two numbers
abbrev pub same_number : ℕ → ℕ → Bool
same_number x y = eqb x y

-- two strings: as long as each other, and each byte the other's
unfoldable pub same : List ℕ → List ℕ → Bool
same [] [] = true
same [] (y ∷ ys) = false
same (x ∷ xs) [] = false
same (x ∷ xs) (y ∷ ys) = eqb x y && same xs ys

-- the verdict on a test
abbrev pub judged_by : Bool → Verdict
judged_by true = Equal
judged_by false = Differs

-- an answer that is yes where a thing holds, and only there
abbrev pub Tells : Bool → Type 0 → Type 0
Tells r P = (r ≡ true → P) × (P → r ≡ true)

-- the same of a verdict
abbrev pub EqualWhere : Verdict → Type 0 → Type 0
EqualWhere r P = (r ≡ Equal → P) × (P → r ≡ Equal)
