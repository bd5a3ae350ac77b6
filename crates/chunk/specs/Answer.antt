-- What each call answers, on every input, and document 01's number for each answer.
use Rattle.std.specs.Prelude.{Result, Ok, Err, cond, List, ℕ, eqb, ltb, length}
use Rattle.answers.specs.Number.{done, answer_number}
use Rattle.merkle.specs.Tree.{address_of}
use Rattle.chunk.specs.declared.addresses.AddressError.{AddressError}
use Rattle.chunk.specs.declared.addresses.AddressError.TheVariants as Refused

abbrev pub error_number : AddressError → ℕ
error_number Refused.WrongLength = 10
error_number Refused.TooLong = 12

abbrev pub address_number : Result (List ℕ) AddressError → ℕ
address_number = answer_number done error_number

unfoldable pub addressed : List ℕ → List ℕ → List ℕ → Result (List ℕ) AddressError
addressed prefix span chunk =
    cond (eqb (length span) 8)
    (cond (ltb 4096 (length chunk)) (Err Refused.TooLong) (Ok (address_of prefix span chunk)))
    (Err Refused.WrongLength)

unfoldable pub anchored_addressed : List ℕ → List ℕ → List ℕ → Result (List ℕ) AddressError
anchored_addressed anchor span chunk = cond (eqb (length anchor) 32) (addressed anchor span chunk) (Err Refused.WrongLength)
