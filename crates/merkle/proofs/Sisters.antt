-- A buffer that is filled from the front, and the sisters one level after the other.
use mathlib.Core.Path.{◌≡◌, sym, ap, ◌∙◌}
use mathlib.Core.List.{List, [], ◌++◌, append_assoc, append-nil}
use Prim.Native.Nat.{ℕ, zero, suc, ◌+◌, ◌-◌, ◌*◌, ◌/◌, ◌^◌, ◌≤◌, ◌<◌}
use native.Mathlib.Nat.{zero-add, add-zero, mul_assoc, add-mul, mul_left_comm, mul-le-mul_right, div-lt_iff_lt-mul}
use native.Mathlib.Numerals.{add-one}
use native.Mathlib.Omega.{arith}
use lib.ListN.{length, take, drop, length-append, drop_of_length-le}
use lib.Pow.{pow-add, pow_pos}
use lib.Seq.{take_at, drop-drop, length-take-le}
use Rattle.merkle.specs.Tree.{pad_to, width}
use Rattle.merkle.specs.Proof.{node, beside, sisters, proof_of}

-- what is laid behind the first `at` bytes stands behind them
put_behind : (s v rest : List ℕ) (at n : ℕ) → at + length v ≡ n → at ≤ length s → take n (take at s ++ (v ++ rest)) ≡ take at s ++ v
put_behind s v rest at n e h =
    let k : length (take at s ++ v) ≡ n = length-append (take at s) v ∙ ap (λ (m : ℕ). m + length v) (length-take-le at s h) ∙ e in
    ap (take n) (sym (append_assoc (take at s) v rest)) ∙ take_at (take at s ++ v) rest n k

-- one sister more
pub sisters_more : (prefix : List ℕ) (index : ℕ) (bytes : List ℕ) (l n : ℕ)
    → sisters prefix index bytes l (suc n) ≡ sisters prefix index bytes l n ++ node prefix (l + n) (beside (index / 2 ^ (l + n))) bytes
unfolding sisters
sisters_more prefix index bytes l zero =
    append-nil (node prefix l (beside (index / 2 ^ l)) bytes) ∙ ap (λ (k : ℕ). node prefix k (beside (index / 2 ^ k)) bytes) (sym (add-zero l))
sisters_more prefix index bytes l (suc n) =
    let first = node prefix l (beside (index / 2 ^ l)) bytes in
    let e : suc l + n ≡ l + suc n = omega arith in
    ap (λ (t : List ℕ). first ++ t)
    (sisters_more prefix index bytes (suc l) n
    ∙ ap (λ (k : ℕ). sisters prefix index bytes (suc l) n ++ node prefix k (beside (index / 2 ^ k)) bytes) e)
    ∙ sym (append_assoc first (sisters prefix index bytes (suc l) n) (node prefix (l + suc n) (beside (index / 2 ^ (l + suc n))) bytes))

-- a sister stands in the tree
pub beside_fits : (l index : ℕ) → l < 7 → index < 128 → beside (index / 2 ^ l) * width l + width l ≤ 4096
beside_fits l index h k =
    let p = 2 ^ l in
    let q = 2 ^ (6 - l) in
    let n = beside (index / p) in
    let six : 6 - l + l ≡ 6 = omega arith in
    let whole : 2 * q * p ≡ 128 = mul_assoc 2 q p ∙ ap (λ (m : ℕ). 2 * m) (sym (pow-add 2 (6 - l) l) ∙ ap (λ (m : ℕ). 2 ^ m) six) in
    let bound : index < 2 * q * p = omega arith in
    let in-level : index / p < 2 * q = (div-lt_iff_lt-mul (pow_pos l)).1 bound in
    let last : n + 1 ≤ 2 * q = omega arith in
    let ends : (n + 1) * p ≤ 2 * q * p = mul-le-mul_right p last in
    omega (arith, add-mul n 1 p, mul_left_comm n 32 p)

-- a turn of the loop: sister l is laid behind the segment and the sisters below it
pub sister_put : (prefix : List ℕ) (index : ℕ) (bytes segment s sister rest : List ℕ) (l n : ℕ) → 32 + 32 * l ≤ length s → length sister ≡ 32
    → take (32 + 32 * l) s ≡ segment ++ sisters prefix index bytes 0 l → n ≡ beside (index / 2 ^ l) → sister ≡ node prefix l n bytes
    → take (32 + 32 * (l + 1)) (take (32 + 32 * l) s ++ (sister ++ rest)) ≡ segment ++ sisters prefix index bytes 0 (l + 1)
sister_put prefix index bytes segment s sister rest l n h k before en es =
    let lower = sisters prefix index bytes 0 l in
    let ends : 32 + 32 * l + length sister ≡ 32 + 32 * (l + 1) = omega arith in
    let here : sister ≡ node prefix (0 + l) (beside (index / 2 ^ (0 + l))) bytes =
    es ∙ ap (λ (m : ℕ). node prefix l m bytes) en ∙ ap (λ (m : ℕ). node prefix m (beside (index / 2 ^ m)) bytes) (sym (zero-add l)) in
    put_behind s sister rest (32 + 32 * l) (32 + 32 * (l + 1)) ends h
    ∙ ap (λ (u : List ℕ). u ++ sister) before
    ∙ append_assoc segment lower sister
    ∙ ap (λ (u : List ℕ). segment ++ (lower ++ u)) here
    ∙ ap (λ (u : List ℕ). segment ++ u) (sym (sisters_more prefix index bytes 0 l) ∙ ap (sisters prefix index bytes 0) (sym (add-one l)))

-- the segment, the sisters behind it, and the span behind those fill the buffer
pub proof_whole : (prefix span chunk : List ℕ) (index : ℕ) (s : List ℕ) → length s ≡ 264
    → take 256 s ≡ node prefix 0 index (pad_to 4096 chunk) ++ sisters prefix index (pad_to 4096 chunk) 0 7
    → take 256 s ++ (span ++ drop 8 (drop 256 s)) ≡ proof_of prefix span chunk index
unfolding proof_of
proof_whole prefix span chunk index s len before =
    let end : drop 8 (drop 256 s) ≡ [] = drop-drop 8 256 s ∙ drop_of_length-le s {i = 264} (omega arith) in
    rw (end, append-nil span, before) (append_assoc (node prefix 0 index (pad_to 4096 chunk)) (sisters prefix index (pad_to 4096 chunk) 0 7) span)
