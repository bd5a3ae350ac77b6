-- Each contract of this crate allows one result.
use Rattle.std.specs.Prelude.{List, ◌≡◌, ℕ}
use Rattle.std.proofs.Common.{◌∙◌, sym}
use Rattle.tables.specs.Rules.{tab, RC, offsets}

pub round_constants_determined : (r s : List ℕ) → r ≡ tab RC 0 24 → s ≡ tab RC 0 24 → r ≡ s
round_constants_determined r s p q = p ∙ sym q

pub lane_offsets_determined : (r s : List ℕ) → r ≡ offsets → s ≡ offsets → r ≡ s
lane_offsets_determined r s p q = p ∙ sym q
