-- What a reader looks for in signing, each readable alone.
use mathlib.Core.Path.{◌≡◌, refl, ◌∙◌}
use mathlib.Core.Logic.{◌⊎◌}
use mathlib.Core.List.{List, ◌++◌}
use Prim.Native.Nat.{ℕ}
use native.Mathlib.Omega.{arith}
use lib.ListN.{length, take, length-append}
use lib.Seq.{length-take-le}
use Rattle.keccak.specs.Collision.{Collision}
use Rattle.postage.specs.Stamp.{stamp_length}
use Rattle.signing.specs.Digest.{lead, covered, owner_signs, hashed, stamp_digest}
use Rattle.signing.proofs.Signed.{one_digest}

-- the digest does not look at the signature
pub signature_is_not_covered : (address stamp stamp' : List ℕ) → length stamp ≡ length stamp' → take 48 stamp ≡ take 48 stamp' → stamp_digest address stamp ≡ stamp_digest address stamp'
unfolding stamp_digest owner_signs covered
signature_is_not_covered address stamp stamp' h e = rw (h, e)

-- 28 bytes go before the inner hash, which is over 80
pub lead_length : length lead ≡ 28
lead_length = refl

pub covered_length : (address stamp : List ℕ) → length address ≡ 32 → length stamp ≡ stamp_length → length (covered address stamp) ≡ 80
unfolding covered
covered_length address stamp h k = length-append address (take 48 stamp) ∙ omega (arith, length-take-le 48 stamp (omega arith))

-- one digest is of one address and stamp, up to the signature, or two messages with one digest are exhibited, among the four hashed
pub one_digest_one_stamp : (address stamp address' stamp' : List ℕ) → owner_signs address stamp ≡ owner_signs address' stamp'
    → (covered address stamp ≡ covered address' stamp') ⊎ Collision (hashed address stamp ++ hashed address' stamp')
one_digest_one_stamp = one_digest
