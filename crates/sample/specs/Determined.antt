-- Each contract of this crate allows one result, and one content of the lent bytes afterwards.
use Rattle.std.specs.Prelude.{List, ◌≡◌, ℕ}
use Rattle.std.proofs.Common.{◌∙◌, sym}
use Rattle.sample.specs.Kept.{held_after, best_after, committed, written_over}

-- r and s are results, t and u what stands in the buffer afterwards
pub enter_determined : (best : List ℕ) (held : ℕ) (pair : List ℕ) (r s : ℕ) (t u : List ℕ)
    → r ≡ held_after pair held best → t ≡ best_after pair held best
    → s ≡ held_after pair held best → u ≡ best_after pair held best
    → (r ≡ s) × (t ≡ u)
enter_determined best held pair r s t u p a q b = (p ∙ sym q, a ∙ sym b)

pub commit_determined : (sample best : List ℕ) (held : ℕ) (r s t u : List ℕ)
    → r ≡ committed best held sample → t ≡ written_over best held sample
    → s ≡ committed best held sample → u ≡ written_over best held sample
    → (r ≡ s) × (t ≡ u)
commit_determined sample best held r s t u p a q b = (p ∙ sym q, a ∙ sym b)
