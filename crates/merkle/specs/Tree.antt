-- The binary Merkle tree of a chunk, over any prefix: plain is the empty prefix, anchored the 32-byte anchor. Every hash takes the
-- prefix before its message.
use Rattle.std.specs.Prelude.{List, [], ◌∷◌, ◌++◌, ℕ, zero, suc, ◌*◌, ◌^◌, take, drop}
use Rattle.keccak.specs.Hash.{keccak256}

-- the first n bytes, with zeros behind
unfoldable pub pad_to : ℕ → List ℕ → List ℕ
pad_to zero s = []
pad_to (suc n) [] = 0 ∷ pad_to n []
pad_to (suc n) (b ∷ s) = b ∷ pad_to n s

-- the bytes of a part of level l
abbrev pub width : ℕ → ℕ
width l = 32 * 2 ^ l

abbrev pub hash : List ℕ → List ℕ → List ℕ
hash prefix message = keccak256 (prefix ++ message)

-- the root of one segment is the segment; the root of a larger part is the hash of its left half's root and its right half's root
unfoldable pub root : List ℕ → ℕ → List ℕ → List ℕ
root prefix zero part = part
root prefix (suc l) part = hash prefix (root prefix l (take (width l) part) ++ root prefix l (drop (width l) part))

-- the hash of span, then root of the data with zeros behind
unfoldable pub address_of : List ℕ → List ℕ → List ℕ → List ℕ
address_of prefix span chunk = hash prefix (span ++ root prefix 7 (pad_to 4096 chunk))

-- ---- the messages that these hash

unfoldable pub root_hashed : List ℕ → ℕ → List ℕ → List (List ℕ)
root_hashed prefix zero part = []
root_hashed prefix (suc l) part =
    (prefix ++ (root prefix l (take (width l) part) ++ root prefix l (drop (width l) part)))
    ∷ (root_hashed prefix l (take (width l) part) ++ root_hashed prefix l (drop (width l) part))

unfoldable pub address_hashed : List ℕ → List ℕ → List ℕ → List (List ℕ)
address_hashed prefix span chunk = (prefix ++ (span ++ root prefix 7 (pad_to 4096 chunk))) ∷ root_hashed prefix 7 (pad_to 4096 chunk)
