-- A number from 10 up is a refusal: it hands back zeros for a digest. The calls of stamps are lent nothing to write.
use Rattle.std.specs.Prelude.{Bool, true, false, cond, ◌&&◌, List, ◌≡◌, refl, ℕ, ◌≤◌, eqb, length, replicate, Result, Ok, Err}
use Rattle.std.proofs.Common.{sym, subst, arith}
use Rattle.answers.specs.Number.{digest_or_zeros}
use Rattle.postage.specs.Stamp.{stamp_length}
use Rattle.signing.specs.declared.digest.DigestError.{DigestError}
use Rattle.signing.specs.declared.digest.DigestError.TheVariants.{WrongLength}
use Rattle.signing.specs.Digest.{owner_signs, digest_number, stamp_digest}

abbrev Zeros : Result (List ℕ) DigestError → Type 0
Zeros r = 10 ≤ digest_number r → digest_or_zeros r ≡ replicate 32 0

pub stamp_digest_refused : (address stamp : List ℕ) (r : Result (List ℕ) DigestError) → r ≡ stamp_digest address stamp → 10 ≤ digest_number r → digest_or_zeros r ≡ replicate 32 0
unfolding stamp_digest
stamp_digest_refused address stamp r e = subst Zeros (sym e) (by (eqb (length address) 32 && eqb (length stamp) stamp_length))
  where
    by : (right : Bool) → Zeros (cond right (Ok (owner_signs address stamp)) (Err WrongLength))
    by true h = absurd (omega arith)
    by false h = refl
