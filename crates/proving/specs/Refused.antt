-- A refusal leaves every lent byte as it was. Over any prefix: r is the answer, and t what stands in the buffer afterwards.
use Rattle.std.specs.Prelude.{Result, Ok, Err, List, ◌≡◌, ℕ}
use Rattle.merkle.specs.Proof.{proof_of}
use Rattle.merkle.specs.Refusal.{Refusal, done_is_none}
use Rattle.proving.specs.declared.making.MakeError.{MakeError}
use Rattle.proving.specs.Answer.{made_number, written}

pub make_proof_refused : (prefix span chunk : List ℕ) (index : ℕ) (proof : List ℕ) (r : Result (Unit {0}) MakeError) (t : List ℕ)
    → t ≡ written r (proof_of prefix span chunk index) proof → Refusal (made_number r) → t ≡ proof
make_proof_refused prefix span chunk index proof (Ok nothing) t e h = done_is_none h
make_proof_refused prefix span chunk index proof (Err error) t e h = e
