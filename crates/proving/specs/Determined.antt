-- Each contract of this crate allows one result, and one content of the lent bytes afterwards.
use Rattle.std.specs.Prelude.{Result, List, [], ◌≡◌, ℕ}
use Rattle.std.proofs.Common.{ap, ◌∙◌, sym}
use Rattle.merkle.specs.Proof.{proof_of}
use Rattle.proving.specs.declared.making.MakeError.{MakeError}
use Rattle.proving.specs.Answer.{error_number, made_number, made, anchored_made, written}

-- one answer, and so one content of the buffer
answered : (answer r s : Result (Unit {0}) MakeError) (new old t u : List ℕ) → r ≡ answer → t ≡ written r new old → s ≡ answer → u ≡ written s new old → (r ≡ s) × (t ≡ u)
answered answer r s new old t u p a q b =
    let same : r ≡ s = p ∙ sym q in
    (same, a ∙ ap (λ (x : Result (Unit {0}) MakeError). written x new old) same ∙ sym b)

pub make_proof_determined : (span chunk : List ℕ) (index : ℕ) (proof : List ℕ) (r s : Result (Unit {0}) MakeError) (t u : List ℕ)
    → r ≡ made span chunk index proof → t ≡ written r (proof_of [] span chunk index) proof
    → s ≡ made span chunk index proof → u ≡ written s (proof_of [] span chunk index) proof
    → (r ≡ s) × (t ≡ u)
make_proof_determined span chunk index proof r s t u = answered (made span chunk index proof) r s (proof_of [] span chunk index) proof t u

pub make_anchored_proof_determined : (anchor span chunk : List ℕ) (index : ℕ) (proof : List ℕ) (r s : Result (Unit {0}) MakeError) (t u : List ℕ)
    → r ≡ anchored_made anchor span chunk index proof → t ≡ written r (proof_of anchor span chunk index) proof
    → s ≡ anchored_made anchor span chunk index proof → u ≡ written s (proof_of anchor span chunk index) proof
    → (r ≡ s) × (t ≡ u)
make_anchored_proof_determined anchor span chunk index proof r s t u =
    answered (anchored_made anchor span chunk index proof) r s (proof_of anchor span chunk index) proof t u

pub made_number_determined : (answer : Result (Unit {0}) MakeError) (r s : ℕ) → r ≡ made_number answer → s ≡ made_number answer → r ≡ s
made_number_determined answer r s p q = p ∙ sym q

pub error_number_determined : (error : MakeError) (r r' : ℕ) → r ≡ error_number error → r' ≡ error_number error → r ≡ r'
error_number_determined error r r' p q = p ∙ sym q
