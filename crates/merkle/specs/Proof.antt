-- Segment proofs of 264 bytes: the segment (32), seven sisters from the leaf upward (224), the span (8).
use Rattle.std.specs.Prelude.{List, [], ◌∷◌, ◌++◌, ℕ, zero, suc, ◌+◌, ◌-◌, ◌*◌, ◌/◌, ◌%◌, ◌^◌, take, drop}
use Rattle.merkle.specs.Tree.{pad_to, width, hash, root}

abbrev pub segment_in : List ℕ → List ℕ
segment_in proof = take 32 proof

abbrev pub sister_in : List ℕ → ℕ → List ℕ
sister_in proof l = take 32 (drop (32 + 32 * l) proof)

abbrev pub span_in : List ℕ → List ℕ
span_in proof = take 8 (drop 256 proof)

-- bit l of the index: 0 where the node of level l stands left of its sister, 1 where it stands right
abbrev pub side : ℕ → ℕ → ℕ
side index l = index / 2 ^ l % 2

abbrev pub paired : ℕ → List ℕ → List ℕ → List ℕ
paired zero node sister = node ++ sister
paired (suc n) node sister = sister ++ node

-- the node of level l that the segment and the first l sisters lead to
unfoldable pub climbed : List ℕ → ℕ → List ℕ → ℕ → List ℕ
climbed prefix index proof zero = segment_in proof
climbed prefix index proof (suc l) = hash prefix (paired (side index l) (climbed prefix index proof l) (sister_in proof l))

-- the address that a proof leads to; it passes where this is the address asked for
unfoldable pub rebuilt : List ℕ → ℕ → List ℕ → List ℕ
rebuilt prefix index proof = hash prefix (span_in proof ++ climbed prefix index proof 7)

-- ---- the messages that the check hashes

unfoldable pub climb_hashed : List ℕ → ℕ → List ℕ → ℕ → List (List ℕ)
climb_hashed prefix index proof zero = []
climb_hashed prefix index proof (suc l) =
    (prefix ++ paired (side index l) (climbed prefix index proof l) (sister_in proof l)) ∷ climb_hashed prefix index proof l

unfoldable pub check_hashed : List ℕ → ℕ → List ℕ → List (List ℕ)
check_hashed prefix index proof = (prefix ++ (span_in proof ++ climbed prefix index proof 7)) ∷ climb_hashed prefix index proof 7

-- ---- the honest proof

-- node n of level l of 4,096 bytes
abbrev pub node : List ℕ → ℕ → ℕ → List ℕ → List ℕ
node prefix l n bytes = root prefix l (take (width l) (drop (n * width l) bytes))

-- the node beside node n
abbrev pub beside : ℕ → ℕ
beside n = n + 1 - 2 * (n % 2)

-- the sisters of levels l, l + 1, .., n of them
unfoldable pub sisters : List ℕ → ℕ → List ℕ → ℕ → ℕ → List ℕ
sisters prefix index bytes l zero = []
sisters prefix index bytes l (suc n) = node prefix l (beside (index / 2 ^ l)) bytes ++ sisters prefix index bytes (suc l) n

unfoldable pub proof_of : List ℕ → List ℕ → List ℕ → ℕ → List ℕ
proof_of prefix span chunk index = node prefix 0 index (pad_to 4096 chunk) ++ (sisters prefix index (pad_to 4096 chunk) 0 7 ++ span)
