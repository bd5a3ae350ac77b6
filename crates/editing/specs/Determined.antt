-- Each contract determines its function: two buffers at exit that it allows are equal.
use Rattle.std.specs.Prelude.{◌≡◌, List, ℕ}
use Rattle.std.proofs.Common.{sym, ◌∙◌}
use Rattle.editing.specs.Edit.{added, burst_bytes}

pub add_record_determined : (s : List ℕ) (n i : ℕ) (g t t' : List ℕ) → t ≡ added s n i g → t' ≡ added s n i g → t ≡ t'
add_record_determined s n i g t t' p q = p ∙ sym q

pub burst_determined : (s t t' : List ℕ) → t ≡ burst_bytes s → t' ≡ burst_bytes s → t ≡ t'
burst_determined s t t' p q = p ∙ sym q
