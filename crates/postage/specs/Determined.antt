-- Each contract determines its function: two results that it allows are equal.
use Rattle.std.specs.Prelude.{◌≡◌, List, ℕ, Result}
use Rattle.std.proofs.Common.{sym, ◌∙◌}
use Rattle.postage.specs.declared.rules.StampError.{StampError}
use Rattle.postage.specs.Rules.{error_number, stamp_number, checked}

pub check_stamp_determined : (batches address stamp account : List ℕ) (r r' : Result (Unit {0}) StampError) → r ≡ checked batches address stamp account → r' ≡ checked batches address stamp account → r ≡ r'
check_stamp_determined batches address stamp account r r' p q = p ∙ sym q

pub stamp_number_determined : (answer : Result (Unit {0}) StampError) (r r' : ℕ) → r ≡ stamp_number answer → r' ≡ stamp_number answer → r ≡ r'
stamp_number_determined answer r r' p q = p ∙ sym q

pub error_number_determined : (error : StampError) (r r' : ℕ) → r ≡ error_number error → r' ≡ error_number error → r ≡ r'
error_number_determined error r r' p q = p ∙ sym q
