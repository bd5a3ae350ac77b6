-- Each contract of this crate allows one result.
use Rattle.std.specs.Prelude.{List, ◌≡◌, ℕ, length}
use Rattle.std.proofs.Common.{◌∙◌, sym}
use Rattle.merkle.specs.Segment.{segment_count, segment_start, segment_of, onward}

pub segment_count_determined : (chunk : List ℕ) (r s : ℕ) → r ≡ segment_count (length chunk) → s ≡ segment_count (length chunk) → r ≡ s
segment_count_determined chunk r s p q = p ∙ sym q

pub segment_start_determined : (chunk : List ℕ) (index r s : ℕ) → r ≡ segment_start (length chunk) index → s ≡ segment_start (length chunk) index → r ≡ s
segment_start_determined chunk index r s p q = p ∙ sym q

-- the bytes, and where in the caller's memory they stand
pub segment_determined : (chunk : List ℕ) (place : ℕ × ℕ) (index : ℕ) (r s : List ℕ) (at by : ℕ × ℕ)
    → r ≡ segment_of chunk index → at ≡ onward (segment_start (length chunk) index) place
    → s ≡ segment_of chunk index → by ≡ onward (segment_start (length chunk) index) place
    → (r ≡ s) × (at ≡ by)
segment_determined chunk place index r s at by p a q b = (p ∙ sym q, a ∙ sym b)
