-- What the functions inside this crate promise one another: where a pair belongs. No promise of a public function speaks of it.
use Rattle.std.specs.Prelude.{Option, Some, None, List, ◌∷◌, ◌++◌, ◌≡◌, ℕ, ◌≤◌, length, take, drop}
use Rattle.sample.specs.Sample.{entered}

-- the pairs held, once this one is put in at its place, or is among them already
abbrev pub put_in : Option ℕ → List ℕ → List (List ℕ) → List (List ℕ)
put_in None pair held = held
put_in (Some i) pair held = take i held ++ (pair ∷ drop i held)

abbrev pub place_in : Option ℕ → ℕ
place_in None = 0
place_in (Some i) = i

-- where a pair belongs in an ascending list
abbrev pub Belongs : Option ℕ → List ℕ → List (List ℕ) → Type 0
Belongs found pair held = (place_in found ≤ length held) × (entered pair held ≡ put_in found pair held)
