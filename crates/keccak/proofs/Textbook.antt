-- The sponge, a byte at a time, gives what the textbook's blocks give.
use mathlib.Core.Path.{◌≡◌, refl, ap, ◌∙◌, sym}
use mathlib.Core.List.{List, [], ◌∷◌, ◌++◌}
use Prim.Native.Nat.{ℕ, zero, suc, ◌+◌, ◌-◌, ◌*◌, ◌/◌, ◌%◌, ◌^◌, ◌<◌}
use native.Mathlib.Nat.{zero-mul}
use native.Mathlib.Omega.{arith}
use lib.Bits.{bit_xor, xor_assoc, xor_zero_r}
use lib.ListN.{get_or, set, take, drop, length, replicate, length-append, length-take, length-drop, length-replicate, take-append-drop}
use lib.Seq.{set-get_or, set-set, get_or-set_same}
use Rattle.octets.specs.Bytes.{Bytes}
use Rattle.octets.proofs.Bytes.{bytes_append, bytes_take, bytes_drop, bytes_zeros}
use Rattle.permutation.specs.Permutation.{permute}
use Rattle.permutation.proofs.Rounds.{permute_length}
use Rattle.keccak.specs.declared.sponge.Sponge.{Sponge}
use Rattle.keccak.specs.Sponge.{Sound, sponge, fresh, absorbed, xor_byte, digest_of, finished}
use Rattle.keccak.specs.Hash.{padding, padded, block_count, xor_block, blocks, keccak256, textbook}
use Rattle.keccak.proofs.Lane.{xor_bytes, block_in}
use Rattle.keccak.proofs.Step.{absorbed_append, full_in, fresh_sound, absorbed_at}

bytes_padding : (q : ℕ) → Bytes (padding q)
bytes_padding zero = tt
bytes_padding (suc zero) = (omega arith, tt)
bytes_padding (suc (suc n)) = (omega arith, bytes_append (replicate n 0) (0x80 ∷ []) (bytes_zeros n) (omega arith, tt))

padding_length : (q : ℕ) → length (padding q) ≡ q
padding_length zero = refl
padding_length (suc zero) = refl
padding_length (suc (suc n)) = ap suc (length-append (replicate n 0) (0x80 ∷ []) ∙ omega (arith, length-replicate {A = ℕ} n 0))

-- a message that ends with a block is padded by a whole one
pub block_count_lem : (m : List ℕ) → block_count m ≡ length m / 136 + 1
block_count_lem m =
    let q : ℕ = 136 - length m % 136 in
    omega (arith, length-append m (padding q), padding_length q)

-- whole blocks
blocks_in : (n : ℕ) (a m : List ℕ) → length a ≡ 25 → length m ≡ 136 * n → Bytes m → absorbed (sponge a 0) m ≡ sponge (blocks n a m) 0
unfolding absorbed blocks
blocks_in zero a [] ha hm y = refl
blocks_in zero a (b ∷ m) ha hm y = absurd (omega arith)
blocks_in (suc n) a m ha hm y =
    let t : length (take 136 m) ≡ 136 = omega (arith, length-take 136 m) in
    ap (absorbed (sponge a 0)) (sym (take-append-drop 136 m))
    ∙ absorbed_append (sponge a 0) (take 136 m) (drop 136 m)
    ∙ ap (λ (s : Sponge). absorbed s (drop 136 m))
    (full_in (take 136 m) a 0 (omega arith) (omega arith) ∙ ap (λ (x : List ℕ). sponge (permute x) 0) (block_in a (take 136 m) ha t (bytes_take 136 m y)))
    ∙ blocks_in n (permute (xor_block a (take 136 m))) (drop 136 m) (permute_length (xor_block a (take 136 m))) (omega (arith, length-drop 136 m)) (bytes_drop 136 m y)

-- ---- the padding, of which only the two ends change the state

zero_byte : (a : List ℕ) (n : ℕ) → xor_byte a n 0 ≡ a
zero_byte a n =
    ap (λ (x : ℕ). set a (n / 8) (bit_xor (get_or a (n / 8) 0) (x % 2 ^ 64))) (zero-mul (2 ^ (8 * (n % 8))))
    ∙ ap (set a (n / 8)) (xor_zero_r (get_or a (n / 8) 0))
    ∙ set-get_or a (n / 8) 0

zeros_in : (k : ℕ) (a : List ℕ) (n : ℕ) (ys : List ℕ) → xor_bytes a n (replicate k 0 ++ ys) ≡ xor_bytes a (n + k) ys
unfolding xor_bytes
zeros_in zero a n ys = ap (λ (p : ℕ). xor_bytes a p ys) (omega arith)
zeros_in (suc k) a n ys =
    ap (λ (r : List ℕ). xor_bytes r (n + 1) (replicate k 0 ++ ys)) (zero_byte a n)
    ∙ zeros_in k a (n + 1) ys
    ∙ ap (λ (p : ℕ). xor_bytes a p ys) (omega arith)

-- 0x01 and 0x80 at the block's last place are 0x81 there
meet : (a : List ℕ) → length a ≡ 25 → xor_byte (xor_byte a 135 0x01) 135 0x80 ≡ xor_byte a 135 0x81
meet a h =
    let v : ℕ = bit_xor (get_or a 16 0) (2 ^ 56) in
    set-set a 16 v (bit_xor (get_or (set a 16 v) 16 0) (2 ^ 63))
    ∙ ap (λ (x : ℕ). set a 16 (bit_xor x (2 ^ 63))) (get_or-set_same a 16 v 0 (omega arith))
    ∙ ap (set a 16) (xor_assoc (get_or a 16 0) (2 ^ 56) (2 ^ 63))

pad_in : (q : ℕ) (a : List ℕ) (n : ℕ) → length a ≡ 25 → n + q ≡ 136 → n < 136 → xor_bytes a n (padding q) ≡ xor_byte (xor_byte a n 0x01) 135 0x80
unfolding xor_bytes
pad_in zero a n ha e h = absurd (omega arith)
pad_in (suc zero) a n ha e h =
    let m : n ≡ 135 = omega arith in
    ap (λ (p : ℕ). xor_byte a p 0x81) m ∙ sym (meet a ha) ∙ ap (λ (p : ℕ). xor_byte (xor_byte a p 0x01) 135 0x80) (sym m)
pad_in (suc (suc k)) a n ha e h =
    let m : n + 1 + k ≡ 135 = omega arith in
    zeros_in k (xor_byte a n 0x01) (n + 1) (0x80 ∷ []) ∙ ap (λ (p : ℕ). xor_byte (xor_byte a n 0x01) p 0x80) m

-- ---- the whole

module _ (m : List ℕ) (y : Bytes m) where
  pub hash_is : finished (absorbed fresh m) ≡ keccak256 m
  unfolding finished
  hash_is =
      let s : Sponge = absorbed fresh m in
      let h : Sound s × (s.place ≡ (0 + length m) % 136) = absorbed_at fresh m fresh_sound in
      let i : s.place < 136 = h.0.in_block in
      let q : ℕ = 136 - length m % 136 in
      let e : s.place + q ≡ 136 = omega (arith, h.1) in
      let l : length (padded m) ≡ 136 * block_count m = omega (arith, length-append m (padding q), padding_length q) in
      let bytewise : absorbed fresh (padded m) ≡ sponge (permute (xor_byte (xor_byte s.lanes s.place 0x01) 135 0x80)) 0 =
      absorbed_append fresh m (padding q)
      ∙ full_in (padding q) s.lanes s.place (omega (arith, padding_length q)) i
      ∙ ap (λ (x : List ℕ). sponge (permute x) 0) (pad_in q s.lanes s.place h.0.lanes25 e i) in
      let blockwise : absorbed fresh (padded m) ≡ sponge (blocks (block_count m) (replicate 25 0) (padded m)) 0 =
      blocks_in (block_count m) (replicate 25 0) (padded m) refl l (bytes_append m (padding q) y (bytes_padding q)) in
      ap (λ (t : Sponge). digest_of t.lanes) (sym bytewise ∙ blockwise) ∙ sym (textbook m)
