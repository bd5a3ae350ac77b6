-- What a reader looks for in chunks, each readable alone and over any prefix: the empty one for plain addresses, the anchor for
-- anchored ones. Where two digests meet, either what was hashed is the same, or two different messages with one digest are among
-- those that the named computations hash.
use mathlib.Core.Path.{◌≡◌, sym, ap, ◌∙◌}
use mathlib.Core.Logic.{◌⊎◌}
use mathlib.Core.List.{List, ◌++◌}
use Prim.Native.Nat.{ℕ, ◌-◌, ◌≤◌}
use lib.ListN.{length, replicate}
use Rattle.keccak.specs.Collision.{Collision}
use Rattle.keccak.proofs.Theorems.{digest_length}
use Rattle.merkle.specs.Tree.{pad_to, hash, root, address_of, address_hashed}
use Rattle.merkle.specs.Proof.{rebuilt, check_hashed, proof_of}
use Rattle.merkle.proofs.Collide.{among_left, among_right, unless}
use Rattle.merkle.proofs.Padding.{pad_zeros, pad_tells}
use Rattle.merkle.proofs.Roots.{chunk_same}
use Rattle.merkle.proofs.Climbs.{proof_same}
use Rattle.merkle.proofs.Honest.{honest_length, honest_rebuilt}
use Rattle.merkle.proofs.Checked.{check_among}

-- ---- addresses

pub address_length : (prefix span chunk : List ℕ) → length (address_of prefix span chunk) ≡ 32
unfolding address_of
address_length prefix span chunk = digest_length (prefix ++ (span ++ root prefix 7 (pad_to 4096 chunk)))

-- data that differs in trailing zeros alone has one address
pub trailing_zeros_one_address : (prefix span chunk : List ℕ) (n : ℕ) → address_of prefix span (chunk ++ replicate n 0) ≡ address_of prefix span chunk
unfolding address_of
trailing_zeros_one_address prefix span chunk n = ap (λ (bytes : List ℕ). hash prefix (span ++ root prefix 7 bytes)) (pad_zeros 4096 chunk n)

-- and data with one padding differs in nothing else
pub one_padding_trailing_zeros : (a b : List ℕ) → length a ≤ length b → length b ≤ 4096 → pad_to 4096 a ≡ pad_to 4096 b
    → b ≡ a ++ replicate (length b - length a) 0
one_padding_trailing_zeros a b = pad_tells 4096 a b

-- two chunks with one address are one chunk, or there is a collision
pub one_address_one_chunk : (prefix span chunk span' chunk' : List ℕ) → length span ≡ 8 → length span' ≡ 8
    → address_of prefix span chunk ≡ address_of prefix span' chunk'
    → ((span ≡ span') × (pad_to 4096 chunk ≡ pad_to 4096 chunk')) ⊎ Collision (address_hashed prefix span chunk ++ address_hashed prefix span' chunk')
one_address_one_chunk prefix span chunk span' chunk' h h' =
    let first = address_hashed prefix span chunk in
    let second = address_hashed prefix span' chunk' in
    chunk_same prefix span chunk span' chunk' (first ++ second) (h ∙ sym h') (among_left first second) (among_right first second)

-- two chunks with one address that differ in span or in padded data give a collision
pub two_chunks_collide : (prefix span chunk span' chunk' : List ℕ) → length span ≡ 8 → length span' ≡ 8
    → ((span ≡ span') × (pad_to 4096 chunk ≡ pad_to 4096 chunk') → ⊥)
    → address_of prefix span chunk ≡ address_of prefix span' chunk'
    → Collision (address_hashed prefix span chunk ++ address_hashed prefix span' chunk')
two_chunks_collide prefix span chunk span' chunk' h h' differ e = unless differ (one_address_one_chunk prefix span chunk span' chunk' h h' e)

-- ---- segment proofs

pub honest_proof_length : (prefix span chunk : List ℕ) (index : ℕ) → length span ≡ 8 → index ≤ 127 → length (proof_of prefix span chunk index) ≡ 264
honest_proof_length prefix span chunk index h i = honest_length prefix span chunk index i h

-- an honest proof passes, for every chunk and index
pub honest_proof_passes : (prefix span chunk : List ℕ) (index : ℕ) → length span ≡ 8 → index ≤ 127
    → rebuilt prefix index (proof_of prefix span chunk index) ≡ address_of prefix span chunk
honest_proof_passes prefix span chunk index h i = honest_rebuilt prefix span chunk index i h

-- two proofs that lead to one address are one proof, or there is a collision
pub one_address_one_proof : (prefix : List ℕ) (index : ℕ) (a b : List ℕ) → length a ≡ 264 → length b ≡ 264
    → rebuilt prefix index a ≡ rebuilt prefix index b → (a ≡ b) ⊎ Collision (check_hashed prefix index a ++ check_hashed prefix index b)
one_address_one_proof prefix index a b ha hb =
    let first = check_hashed prefix index a in
    let second = check_hashed prefix index b in
    proof_same prefix index a b (first ++ second) ha hb (among_left first second) (among_right first second)

-- two passing proofs that differ, for one address and index, give a collision
pub two_proofs_collide : (prefix : List ℕ) (index : ℕ) (a b : List ℕ) → length a ≡ 264 → length b ≡ 264 → (a ≡ b → ⊥)
    → rebuilt prefix index a ≡ rebuilt prefix index b → Collision (check_hashed prefix index a ++ check_hashed prefix index b)
two_proofs_collide prefix index a b ha hb differ e = unless differ (one_address_one_proof prefix index a b ha hb e)

-- a proof that passes under a chunk's address is the chunk's own, or there is a collision
pub proof_and_chunk : (prefix span chunk : List ℕ) (index : ℕ) (proof : List ℕ) → length span ≡ 8 → index ≤ 127 → length proof ≡ 264
    → rebuilt prefix index proof ≡ address_of prefix span chunk
    → (proof ≡ proof_of prefix span chunk index) ⊎ Collision (check_hashed prefix index proof ++ address_hashed prefix span chunk)
proof_and_chunk prefix span chunk index proof h i k e =
    let first = check_hashed prefix index proof in
    let second = address_hashed prefix span chunk in
    let honest = proof_of prefix span chunk index in
    proof_same prefix index proof honest (first ++ second) k (honest_proof_length prefix span chunk index h i)
    (among_left first second)
    (λ m held. among_right first second m (check_among prefix span chunk index i h m held))
    (e ∙ sym (honest_proof_passes prefix span chunk index h i))
