-- Each contract of this crate allows one result.
use Rattle.std.specs.Prelude.{Result, List, [], ◌≡◌, ℕ}
use Rattle.std.proofs.Common.{◌∙◌, sym}
use Rattle.chunk.specs.declared.addresses.AddressError.{AddressError}
use Rattle.chunk.specs.Answer.{error_number, address_number, addressed, anchored_addressed}

pub address_determined : (span chunk : List ℕ) (r s : Result (List ℕ) AddressError)
    → r ≡ addressed [] span chunk → s ≡ addressed [] span chunk → r ≡ s
address_determined span chunk r s p q = p ∙ sym q

pub anchored_address_determined : (anchor span chunk : List ℕ) (r s : Result (List ℕ) AddressError)
    → r ≡ anchored_addressed anchor span chunk → s ≡ anchored_addressed anchor span chunk → r ≡ s
anchored_address_determined anchor span chunk r s p q = p ∙ sym q

pub address_number_determined : (answer : Result (List ℕ) AddressError) (r s : ℕ)
    → r ≡ address_number answer → s ≡ address_number answer → r ≡ s
address_number_determined answer r s p q = p ∙ sym q

pub error_number_determined : (error : AddressError) (r r' : ℕ) → r ≡ error_number error → r' ≡ error_number error → r ≡ r'
error_number_determined error r r' p q = p ∙ sym q
