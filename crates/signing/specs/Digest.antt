-- The digest that a batch's owner signs.
use Rattle.std.specs.Prelude.{cond, ◌&&◌, List, [], ◌∷◌, ◌++◌, ℕ, eqb, length, take, Result, Ok, Err}
use Prim.Native.Char.{code}
use Prim.Native.String.{String, [] as none, ◌∷◌ as ◌then◌}
use Rattle.answers.specs.Number.{done, answer_number}
use Rattle.keccak.specs.Hash.{keccak256}
use Rattle.postage.specs.Stamp.{stamp_length}
use Rattle.signing.specs.declared.digest.DigestError.{DigestError}
use Rattle.signing.specs.declared.digest.DigestError.TheVariants.{WrongLength}

-- a text's letters as bytes
abbrev pub letters : String → List ℕ
letters none = []
letters (letter then rest) = code letter ∷ letters rest

-- the 28 bytes before what is signed (ERC-191)
abbrev pub lead : List ℕ
lead = 0x19 ∷ (letters "Ethereum Signed Message:" ++ (0x0A ∷ letters "32"))

-- the outer hash, over a 32-byte digest
unfoldable pub signed : List ℕ → List ℕ
signed digest = keccak256 (lead ++ digest)

-- address, batch id, bucket, index, time: 80 bytes
unfoldable pub covered : List ℕ → List ℕ → List ℕ
covered address stamp = address ++ take 48 stamp

-- what the owner signs
unfoldable pub owner_signs : List ℕ → List ℕ → List ℕ
owner_signs address stamp = signed (keccak256 (covered address stamp))

-- the messages hashed for it
unfoldable pub hashed : List ℕ → List ℕ → List (List ℕ)
hashed address stamp = covered address stamp ∷ (lead ++ keccak256 (covered address stamp)) ∷ []

-- ---- the call

abbrev pub error_number : DigestError → ℕ
error_number WrongLength = 10

-- the number handed back; the digest beside it is `digest_or_zeros`
abbrev pub digest_number : Result (List ℕ) DigestError → ℕ
digest_number = answer_number done error_number

unfoldable pub stamp_digest : List ℕ → List ℕ → Result (List ℕ) DigestError
stamp_digest address stamp =
    cond (eqb (length address) 32 && eqb (length stamp) stamp_length) (Ok (owner_signs address stamp)) (Err WrongLength)
