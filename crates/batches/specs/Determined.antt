-- The contract determines its function: two results that it allows are equal.
use Rattle.std.specs.Prelude.{◌≡◌, Bool, List, ℕ}
use Rattle.std.proofs.Common.{sym, ◌∙◌}
use Rattle.batches.specs.Batch.{well_listed}

pub check_batches_determined : (batches : List ℕ) (r r' : Bool) → r ≡ well_listed batches → r' ≡ well_listed batches → r ≡ r'
check_batches_determined batches r r' p q = p ∙ sym q
