-- Each contract determines its function: two results that it allows are equal.
use Rattle.std.specs.Prelude.{Bool, List, ◌≡◌, ℕ, Result}
use Rattle.std.proofs.Common.{sym, ◌∙◌}
use Rattle.verdict.specs.declared.equal.Verdict.{Verdict}
use Rattle.verdict.specs.Count.{one_more}
use Rattle.verdict.specs.Equal.{same, same_number, judged_by}
use Rattle.verdict.specs.Agree.{one_hash, all_agreed}

pub one_more_determined : (n r r' : ℕ) → r ≡ one_more n → r' ≡ one_more n → r ≡ r'
one_more_determined n r r' p q = p ∙ sym q

-- judged, whatever it compares
pub judged_alike_determined : {T : Type 0} (eq : T → T → Bool) (expected came : T) (r r' : Verdict) → r ≡ judged_by (eq expected came) → r' ≡ judged_by (eq expected came) → r ≡ r'
judged_alike_determined eq expected came r r' p q = p ∙ sym q

-- of numbers
pub judged_determined : (expected came : ℕ) (r r' : Verdict) → r ≡ judged_by (same_number expected came) → r' ≡ judged_by (same_number expected came) → r ≡ r'
judged_determined = judged_alike_determined same_number

-- of strings of bytes and of digests
pub judged_bytes_determined : (expected came : List ℕ) (r r' : Verdict) → r ≡ judged_by (same expected came) → r' ≡ judged_by (same expected came) → r ≡ r'
judged_bytes_determined = judged_alike_determined same

pub same_digest_determined : (a b : List ℕ) (r r' : Bool) → r ≡ same a b → r' ≡ same a b → r ≡ r'
same_digest_determined a b r r' p q = p ∙ sym q

pub one_hash_determined : {E : Type 0} (a b : Result (List ℕ) E) (r r' : Bool) → r ≡ one_hash a b → r' ≡ one_hash a b → r ≡ r'
one_hash_determined a b r r' p q = p ∙ sym q

pub agree_determined : {E : Type 0} (draws : List (Result (List ℕ) E)) (r r' : Bool) → r ≡ all_agreed draws → r' ≡ all_agreed draws → r ≡ r'
agree_determined draws r r' p q = p ∙ sym q
