-- Each contract of this crate allows one result.
use Rattle.std.specs.Prelude.{List, ◌≡◌, ℕ}
use Rattle.std.proofs.Common.{◌∙◌, sym}
use Rattle.permutation.specs.Permutation.{permute}

pub permute_determined : (start r s : List ℕ) → r ≡ permute start → s ≡ permute start → r ≡ s
permute_determined start r s p q = p ∙ sym q
