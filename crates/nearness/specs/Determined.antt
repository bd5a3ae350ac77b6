-- Each contract determines its function: two results that it allows are equal.
use Rattle.std.specs.Prelude.{◌≡◌, List, ℕ, Result}
use Rattle.std.proofs.Common.{sym, ◌∙◌}
use Rattle.nearness.specs.declared.near.NearError.{NearError}
use Rattle.nearness.specs.Near.{error_number, nearness_of, near_number, bits_in}

pub nearness_determined : (first second : List ℕ) (r r' : Result ℕ NearError) → r ≡ nearness_of first second → r' ≡ nearness_of first second → r ≡ r'
nearness_determined first second r r' p q = p ∙ sym q

pub near_number_determined : (near : Result ℕ NearError) (r r' : ℕ) → r ≡ near_number near → r' ≡ near_number near → r ≡ r'
near_number_determined near r r' p q = p ∙ sym q

pub bits_determined : (near : Result ℕ NearError) (r r' : ℕ) → r ≡ bits_in near → r' ≡ bits_in near → r ≡ r'
bits_determined near r r' p q = p ∙ sym q

pub error_number_determined : (error : NearError) (r r' : ℕ) → r ≡ error_number error → r' ≡ error_number error → r ≡ r'
error_number_determined error r r' p q = p ∙ sym q
