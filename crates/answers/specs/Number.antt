-- "Numbers handed back": 0 where a call is done, and for each refusal its own.
use Rattle.std.specs.Prelude.{Result, Ok, Err, List, ℕ, replicate}

abbrev pub done : {T : Type 0} → T → ℕ
done value = 0

-- the number of what was done, or of what was refused
abbrev pub answer_number : {T E : Type 0} → (T → ℕ) → (E → ℕ) → Result T E → ℕ
answer_number of_value of_error (Ok value) = of_value value
answer_number of_value of_error (Err error) = of_error error

-- the digest beside the number: "zeros for a digest" where a call refuses
abbrev pub digest_or_zeros : {E : Type 0} → Result (List ℕ) E → List ℕ
digest_or_zeros (Ok digest) = digest
digest_or_zeros (Err error) = replicate 32 0
