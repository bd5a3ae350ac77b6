-- The contract allows one number: two that it allows are equal, whatever is answered and whatever its table is.
use Rattle.std.specs.Prelude.{◌≡◌, ℕ}
use Rattle.std.proofs.Common.{sym, ◌∙◌}

pub number_determined : {T : Type 0} (number : T → ℕ) (answer : T) (r r' : ℕ) → r ≡ number answer → r' ≡ number answer → r ≡ r'
number_determined number answer r r' p q = p ∙ sym q
