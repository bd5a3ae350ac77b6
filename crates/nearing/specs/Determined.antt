-- The contract determines its function: two results that it allows are equal.
use Rattle.std.specs.Prelude.{◌≡◌, List, ℕ}
use Rattle.std.proofs.Common.{sym, ◌∙◌}
use Rattle.nearing.specs.Near.{near_in}

pub near_determined : (s g : List ℕ) (r r' : ℕ) → r ≡ near_in s g → r' ≡ near_in s g → r ≡ r'
near_determined s g r r' p q = p ∙ sym q
