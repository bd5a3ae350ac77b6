-- An answer and a digest.
use Rattle.std.specs.Prelude.{Result, List, ℕ}
use Rattle.answers.specs.Number.{done, answer_number, digest_or_zeros}
use Rattle.chunk.specs.declared.addresses.AddressError.{AddressError}
use Rattle.chunk.specs.Answer as chunk
use Rattle.signing.specs.declared.digest.DigestError.{DigestError}
use Rattle.signing.specs.Digest as signing
use Rattle.ramekinfold.specs.declared.hashing.Digested.{Digested}

abbrev pub digested : ℕ → List ℕ → Digested
digested a d = record { answer = a; digest = d }

-- what a call answers with a digest, as C holds it: the number, given that of each refusal, and the digest, zeros where it refuses
abbrev pub of_digest : {E : Type 0} → (E → ℕ) → Result (List ℕ) E → Digested
of_digest of_error a = digested (answer_number done of_error a) (digest_or_zeros a)

-- an address
abbrev pub of_addressed : Result (List ℕ) AddressError → Digested
of_addressed = of_digest chunk.error_number

-- the digest of a stamp
abbrev pub of_stamp_digested : Result (List ℕ) DigestError → Digested
of_stamp_digested = of_digest signing.error_number
