-- Each contract determines its function: two results, or two buffers at exit, that it allows are equal.
use Rattle.std.specs.Prelude.{◌≡◌, Option, List, ℕ}
use Rattle.std.proofs.Common.{sym, ◌∙◌}
use Rattle.filing.specs.Least.{rising, least_in}
use Rattle.filing.specs.Keep.{kept_bytes, staying}

pub least_depth_determined : (s g : List ℕ) (r r' : ℕ) → r ≡ least_in s g → r' ≡ least_in s g → r ≡ r'
least_depth_determined s g r r' p q = p ∙ sym q

pub rising_depth_determined : (s g : List ℕ) (r r' : Option ℕ) → r ≡ rising (least_in s g) → r' ≡ rising (least_in s g) → r ≡ r'
rising_depth_determined s g r r' p q = p ∙ sym q

pub keep_inside_determined : (s : List ℕ) (i d r r' : ℕ) (t t' : List ℕ)
    → (r ≡ staying s i d) × (t ≡ kept_bytes s d) → (r' ≡ staying s i d) × (t' ≡ kept_bytes s d) → (r ≡ r') × (t ≡ t')
keep_inside_determined s i d r r' t t' p q = (p.0 ∙ sym q.0, p.1 ∙ sym q.1)
