-- Each contract of this crate allows one result.
use Rattle.std.specs.Prelude.{Result, List, [], ◌≡◌, ℕ}
use Rattle.std.proofs.Common.{◌∙◌, sym}
use Rattle.verifying.specs.declared.checking.CheckError.{CheckError}
use Rattle.verifying.specs.Answer.{error_number, checked_number, checked, anchored_checked}

pub check_proof_determined : (address : List ℕ) (index : ℕ) (proof : List ℕ) (r s : Result (Unit {0}) CheckError)
    → r ≡ checked [] address index proof → s ≡ checked [] address index proof → r ≡ s
check_proof_determined address index proof r s p q = p ∙ sym q

pub check_anchored_proof_determined : (anchor address : List ℕ) (index : ℕ) (proof : List ℕ) (r s : Result (Unit {0}) CheckError)
    → r ≡ anchored_checked anchor address index proof → s ≡ anchored_checked anchor address index proof → r ≡ s
check_anchored_proof_determined anchor address index proof r s p q = p ∙ sym q

pub checked_number_determined : (answer : Result (Unit {0}) CheckError) (r s : ℕ) → r ≡ checked_number answer → s ≡ checked_number answer → r ≡ s
checked_number_determined answer r s p q = p ∙ sym q

pub error_number_determined : (error : CheckError) (r r' : ℕ) → r ≡ error_number error → r' ≡ error_number error → r ≡ r'
error_number_determined error r r' p q = p ∙ sym q
