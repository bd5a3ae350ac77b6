-- The answer to how near two byte strings are.
use Rattle.std.specs.Prelude.{ℕ, cond, ◌&&◌, List, eqb, length, Result, Ok, Err}
use Rattle.answers.specs.Number.{done, answer_number}
use Rattle.nearness.specs.declared.near.NearError.{NearError}
use Rattle.nearness.specs.declared.near.NearError.TheVariants.{WrongLength}
use Rattle.nearness.specs.Bits.{shared_bits}

-- the shared bits of two 32-byte numbers; for any other length none
unfoldable pub nearness_of : List ℕ → List ℕ → Result ℕ NearError
nearness_of first second = cond (eqb (length first) 32 && eqb (length second) 32) (Ok (shared_bits first second)) (Err WrongLength)

-- for each answer the number handed back
abbrev pub error_number : NearError → ℕ
error_number WrongLength = 10

abbrev pub near_number : Result ℕ NearError → ℕ
near_number = answer_number done error_number

-- and the bits beside it
abbrev pub bits_in : Result ℕ NearError → ℕ
bits_in (Ok n) = n
bits_in (Err error) = 0
