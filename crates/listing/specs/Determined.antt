-- The contract determines the function: two results, and two buffers at exit, that it allows are equal.
use Rattle.std.specs.Prelude.{◌≡◌, List, ℕ, length}
use Rattle.std.proofs.Common.{sym, ◌∙◌}
use Rattle.moving.specs.Moving.{over}
use Rattle.listing.specs.Listing.{printed}

module _ (input text : List ℕ) where
  pub list_determined : (r r' : ℕ) (t t' : List ℕ)
      → (r ≡ length (printed input)) × (t ≡ over text 0 (printed input))
      → (r' ≡ length (printed input)) × (t' ≡ over text 0 (printed input))
      → (r ≡ r') × (t ≡ t')
  list_determined r r' t t' p q = (p.0 ∙ sym q.0, p.1 ∙ sym q.1)
