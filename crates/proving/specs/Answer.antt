-- What each call answers, on every input, and document 01's number for each answer.
use Rattle.std.specs.Prelude.{Result, Ok, Err, cond, ◌&&◌, List, ℕ, eqb, ltb, length}
use Rattle.answers.specs.Number.{done, answer_number}
use Rattle.proving.specs.declared.making.MakeError.{MakeError}
use Rattle.proving.specs.declared.making.MakeError.TheVariants as Refused

abbrev pub error_number : MakeError → ℕ
error_number Refused.WrongLength = 10
error_number Refused.TooLong = 12
error_number Refused.NoSegment = 11

abbrev pub made_number : Result (Unit {0}) MakeError → ℕ
made_number = answer_number done error_number

unfoldable pub made : List ℕ → List ℕ → ℕ → List ℕ → Result (Unit {0}) MakeError
made span chunk index proof =
    cond (eqb (length span) 8 && eqb (length proof) 264)
    (cond (ltb 4096 (length chunk)) (Err Refused.TooLong) (cond (ltb 127 index) (Err Refused.NoSegment) (Ok tt)))
    (Err Refused.WrongLength)

unfoldable pub anchored_made : List ℕ → List ℕ → List ℕ → ℕ → List ℕ → Result (Unit {0}) MakeError
anchored_made anchor span chunk index proof = cond (eqb (length anchor) 32) (made span chunk index proof) (Err Refused.WrongLength)

-- the lent bytes afterwards: the proof, or what stood there
abbrev pub written : Result (Unit {0}) MakeError → List ℕ → List ℕ → List ℕ
written (Ok nothing) new old = new
written (Err error) new old = old
