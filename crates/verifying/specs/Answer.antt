-- What each call answers, on every input, and document 01's number for each answer.
use Rattle.std.specs.Prelude.{Result, Ok, Err, cond, ◌&&◌, List, ℕ, eqb, ltb, length}
use Rattle.std.specs.declared.cmp.Ordering.{Ordering}
use Rattle.std.specs.declared.cmp.Ordering.TheVariants as Ordered
use Rattle.answers.specs.Number.{done, answer_number}
use Rattle.octets.specs.Order.{byte_order}
use Rattle.merkle.specs.Proof.{rebuilt}
use Rattle.verifying.specs.declared.checking.CheckError.{CheckError}
use Rattle.verifying.specs.declared.checking.CheckError.TheVariants as Refused

abbrev pub error_number : CheckError → ℕ
error_number Refused.Fails = 1
error_number Refused.WrongLength = 10
error_number Refused.NoSegment = 11

abbrev pub checked_number : Result (Unit {0}) CheckError → ℕ
checked_number = answer_number done error_number

-- how the address that the proof leads to stands to the address asked for
abbrev pub verdict : Ordering → Result (Unit {0}) CheckError
verdict Ordered.Less = Err Refused.Fails
verdict Ordered.Equal = Ok tt
verdict Ordered.Greater = Err Refused.Fails

unfoldable pub checked : List ℕ → List ℕ → ℕ → List ℕ → Result (Unit {0}) CheckError
checked prefix address index proof =
    cond (eqb (length address) 32 && eqb (length proof) 264)
    (cond (ltb 127 index) (Err Refused.NoSegment) (verdict (byte_order (rebuilt prefix index proof) address)))
    (Err Refused.WrongLength)

unfoldable pub anchored_checked : List ℕ → List ℕ → ℕ → List ℕ → Result (Unit {0}) CheckError
anchored_checked anchor address index proof = cond (eqb (length anchor) 32) (checked anchor address index proof) (Err Refused.WrongLength)
