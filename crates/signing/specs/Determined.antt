-- Each contract determines its function: two results that it allows are equal.
use Rattle.std.specs.Prelude.{◌≡◌, List, ℕ, Result}
use Rattle.std.proofs.Common.{sym, ◌∙◌}
use Rattle.signing.specs.declared.digest.DigestError.{DigestError}
use Rattle.signing.specs.Digest.{error_number, digest_number, stamp_digest}

pub stamp_digest_determined : (address stamp : List ℕ) (r r' : Result (List ℕ) DigestError) → r ≡ stamp_digest address stamp → r' ≡ stamp_digest address stamp → r ≡ r'
stamp_digest_determined address stamp r r' p q = p ∙ sym q

pub digest_number_determined : (answer : Result (List ℕ) DigestError) (r r' : ℕ) → r ≡ digest_number answer → r' ≡ digest_number answer → r ≡ r'
digest_number_determined answer r r' p q = p ∙ sym q

pub error_number_determined : (error : DigestError) (r r' : ℕ) → r ≡ error_number error → r' ≡ error_number error → r ≡ r'
error_number_determined error r r' p q = p ∙ sym q
