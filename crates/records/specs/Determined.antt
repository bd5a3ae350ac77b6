-- Each contract determines its function: two results that it allows are equal.
use Rattle.std.specs.Prelude.{◌≡◌, List, ℕ}
use Rattle.std.proofs.Common.{sym, ◌∙◌}
use Rattle.records.specs.declared.rank.Choice.{Choice}
use Rattle.records.specs.Choice.{choice, higher_of, place_of}

-- which of two records ranks higher
pub choose_determined : (a b : List ℕ) (r r' : Choice) → r ≡ choice a b → r' ≡ choice a b → r ≡ r'
choose_determined a b r r' p q = p ∙ sym q

-- the higher of two records: its bytes, and whose they are
pub higher_determined : {P : Type 0} (a b r r' : List ℕ) (first second p p' : P)
    → (r ≡ higher_of a b) × (p ≡ place_of a b first second) → (r' ≡ higher_of a b) × (p' ≡ place_of a b first second) → (r ≡ r') × (p ≡ p')
higher_determined a b r r' first second p p' u v = (u.0 ∙ sym v.0, u.1 ∙ sym v.1)
