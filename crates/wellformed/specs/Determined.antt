-- Each contract determines its function: two results that it allows are equal.
use Rattle.std.specs.Prelude.{◌≡◌, Result, List, ℕ}
use Rattle.std.proofs.Common.{sym, ◌∙◌}
use Rattle.wellformed.specs.declared.check.BookError.{BookError}
use Rattle.wellformed.specs.Check.{error_number, checked, book_number}

pub check_book_determined : (s : List ℕ) (r r' : Result (Unit {0}) BookError) → r ≡ checked s → r' ≡ checked s → r ≡ r'
check_book_determined s r r' p q = p ∙ sym q

pub book_answer_determined : (a : Result (Unit {0}) BookError) (r r' : ℕ) → r ≡ book_number a → r' ≡ book_number a → r ≡ r'
book_answer_determined a r r' p q = p ∙ sym q

pub error_number_determined : (error : BookError) (r r' : ℕ) → r ≡ error_number error → r' ≡ error_number error → r ≡ r'
error_number_determined error r r' p q = p ∙ sym q
