-- One root, one part; one address, one span and one padded chunk: or a collision.
use mathlib.Core.Path.{◌≡◌, refl, sym, ap₂, ◌∙◌}
use mathlib.Core.Logic.{◌⊎◌, inl}
use mathlib.Core.List.Memᴰ
use mathlib.Core.List.{List, ◌++◌, Memᴰ}
use Prim.Native.Nat.{ℕ, zero, suc}
use lib.ListN.{length, take, drop, take-append-drop}
use Rattle.keccak.specs.Collision.{Collision}
use Rattle.merkle.specs.Tree.{pad_to, width, hash, root, root_hashed, address_of, address_hashed}
use Rattle.merkle.proofs.Halves.{pad_length, root_zero, root_suc, root_length, left_length, right_length}
use Rattle.merkle.proofs.Collide.{Among, behind_same, ◌>>=◌, first_same, second_same}

-- ---- what the root of a part hashes: its own message, and what its halves hash

abbrev pub joined : List ℕ → ℕ → List ℕ → List ℕ
joined prefix l part = root prefix l (take (width l) part) ++ root prefix l (drop (width l) part)

pub own_hashed : (prefix : List ℕ) (l : ℕ) (part : List ℕ) → Memᴰ (prefix ++ joined prefix l part) (root_hashed prefix (suc l) part)
unfolding root_hashed
own_hashed prefix l part = Memᴰ.head refl

pub left_hashed : (prefix : List ℕ) (l : ℕ) (part : List ℕ) → Among (root_hashed prefix l (take (width l) part)) (root_hashed prefix (suc l) part)
unfolding root_hashed
left_hashed prefix l part m h = Memᴰ.tail (Memᴰ.append_left _ h)

pub right_hashed : (prefix : List ℕ) (l : ℕ) (part : List ℕ) → Among (root_hashed prefix l (drop (width l) part)) (root_hashed prefix (suc l) part)
unfolding root_hashed
right_hashed prefix l part m h = Memᴰ.tail (Memᴰ.append_right (root_hashed prefix l (take (width l) part)) h)

-- ---- one root, one part

pub root_same : (prefix : List ℕ) (l : ℕ) (a b : List ℕ) (hashed : List (List ℕ)) → length a ≡ width l → length b ≡ width l
    → Among (root_hashed prefix l a) hashed → Among (root_hashed prefix l b) hashed
    → root prefix l a ≡ root prefix l b → (a ≡ b) ⊎ Collision hashed
root_same prefix zero a b hashed la lb wa wb e = inl (sym (root_zero prefix a) ∙ e ∙ root_zero prefix b)
root_same prefix (suc l) a b hashed la lb wa wb e =
    let left-a = take (width l) a in
    let left-b = take (width l) b in
    let right-a = drop (width l) a in
    let right-b = drop (width l) b in
    let length-a = root_length prefix l left-a (left_length l a la) in
    let length-b = root_length prefix l left-b (left_length l b lb) in
    let one-length : length (root prefix l left-a) ≡ length (root prefix l left-b) = length-a ∙ sym length-b in
    do
      let one_digest = sym (root_suc prefix l a) ∙ e ∙ root_suc prefix l b
      same ← behind_same prefix hashed (joined prefix l a) (joined prefix l b) (wa _ (own_hashed prefix l a)) (wb _ (own_hashed prefix l b)) one_digest
      let one_left = first_same (root prefix l left-a) (root prefix l left-b) (root prefix l right-a) (root prefix l right-b) one-length same
      let one_right = second_same (root prefix l left-a) (root prefix l left-b) (root prefix l right-a) (root prefix l right-b) one-length same
      left ← root_same prefix l left-a left-b hashed (left_length l a la) (left_length l b lb)
          (λ m h. wa m (left_hashed prefix l a m h)) (λ m h. wb m (left_hashed prefix l b m h)) one_left
      right ← root_same prefix l right-a right-b hashed (right_length l a la) (right_length l b lb)
          (λ m h. wa m (right_hashed prefix l a m h)) (λ m h. wb m (right_hashed prefix l b m h)) one_right
      inl (sym (take-append-drop (width l) a) ∙ ap₂ ◌++◌ left right ∙ take-append-drop (width l) b)

-- ---- one address, one chunk

pub top_hashed : (prefix span chunk : List ℕ) → Memᴰ (prefix ++ (span ++ root prefix 7 (pad_to 4096 chunk))) (address_hashed prefix span chunk)
unfolding address_hashed
top_hashed prefix span chunk = Memᴰ.head refl

pub tree_hashed : (prefix span chunk : List ℕ) → Among (root_hashed prefix 7 (pad_to 4096 chunk)) (address_hashed prefix span chunk)
unfolding address_hashed
tree_hashed prefix span chunk m h = Memᴰ.tail h

pub address_is : (prefix span chunk : List ℕ) → address_of prefix span chunk ≡ hash prefix (span ++ root prefix 7 (pad_to 4096 chunk))
unfolding address_of
address_is prefix span chunk = refl

pub chunk_same : (prefix span chunk span' chunk' : List ℕ) (hashed : List (List ℕ)) → length span ≡ length span'
    → Among (address_hashed prefix span chunk) hashed → Among (address_hashed prefix span' chunk') hashed
    → address_of prefix span chunk ≡ address_of prefix span' chunk'
    → ((span ≡ span') × (pad_to 4096 chunk ≡ pad_to 4096 chunk')) ⊎ Collision hashed
chunk_same prefix span chunk span' chunk' hashed one-length w w' e =
    let top = root prefix 7 (pad_to 4096 chunk) in
    let top' = root prefix 7 (pad_to 4096 chunk') in
    do
      let one_digest = sym (address_is prefix span chunk) ∙ e ∙ address_is prefix span' chunk'
      same ← behind_same prefix hashed (span ++ top) (span' ++ top') (w _ (top_hashed prefix span chunk)) (w' _ (top_hashed prefix span' chunk')) one_digest
      padded ← root_same prefix 7 (pad_to 4096 chunk) (pad_to 4096 chunk') hashed (pad_length 4096 chunk) (pad_length 4096 chunk')
          (λ m h. w m (tree_hashed prefix span chunk m h)) (λ m h. w' m (tree_hashed prefix span' chunk' m h)) (second_same span span' top top' one-length same)
      inl (first_same span span' top top' one-length same, padded)
