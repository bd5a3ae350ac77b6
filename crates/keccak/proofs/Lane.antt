-- Bytes that go into a state one after the other go in as words.
use mathlib.Core.Path.{◌≡◌, refl, ap, ap₂, ◌∙◌, sym}
use mathlib.Core.List.{List, [], ◌∷◌, ◌++◌}
use Prim.Native.Nat.{ℕ, zero, suc, ◌+◌, ◌*◌, ◌/◌, ◌%◌, ◌^◌, ◌<◌, ◌≤◌}
use native.Mathlib.Nat.{zero-mul, add-mul, mul_assoc, mul_comm, add_comm, add-zero}
use native.Mathlib.Omega.{arith}
use lib.Bits.{bit_xor, xor_zero_r, xor_comm, xor_assoc, xor_shifted}
use lib.ListN.{get_or, set, take, drop, length, length-set, length-take, length-drop, take-append-drop}
use lib.Pow.{pow-add, shl_exact, shl_lt}
use lib.Seq.{set-set, set-get_or, get_or-set_same, get_or-set_other, ext_get_or, drop-nil, drop-drop}
use Rattle.octets.specs.Bytes.{Bytes}
use Rattle.octets.specs.Number.{little}
use Rattle.octets.proofs.Bytes.{bytes_take, bytes_drop}
use Rattle.tables.specs.Rules.{tab}
use Rattle.tables.proofs.Tabulated.{tab_at}
use Rattle.keccak.specs.Sponge.{xor_byte}
use Rattle.keccak.specs.Hash.{word, xor_block}

-- bytes go in one after the other, the first as byte n of the state
unfoldable pub xor_bytes : List ℕ → ℕ → List ℕ → List ℕ
xor_bytes a n [] = a
xor_bytes a n (b ∷ bs) = xor_bytes (xor_byte a n b) (n + 1) bs

pub xor_bytes_append : (xs ys a : List ℕ) (n : ℕ) → xor_bytes a n (xs ++ ys) ≡ xor_bytes (xor_bytes a n xs) (n + length xs) ys
unfolding xor_bytes
xor_bytes_append [] ys a n = ap (λ (m : ℕ). xor_bytes a m ys) (sym (add-zero n))
xor_bytes_append (x ∷ xs) ys a n = xor_bytes_append xs ys (xor_byte a n x) (n + 1) ∙ ap (λ (m : ℕ). xor_bytes (xor_bytes (xor_byte a n x) (n + 1) xs) m ys) (omega arith)

pub xor_bytes_length : (bs a : List ℕ) (n : ℕ) → length (xor_bytes a n bs) ≡ length a
unfolding xor_bytes
xor_bytes_length [] a n = refl
xor_bytes_length (b ∷ bs) a n = xor_bytes_length bs (xor_byte a n b) (n + 1) ∙ length-set a (n / 8) (bit_xor (get_or a (n / 8) 0) (b * 2 ^ (8 * (n % 8)) % 2 ^ 64))

-- a byte at place k of lane i
byte_in : (a : List ℕ) (i k b : ℕ) → k < 8 → b < 256 → xor_byte a (8 * i + k) b ≡ set a i (bit_xor (get_or a i 0) (b * 2 ^ (8 * k)))
byte_in a i k b hk hb =
    let q : (8 * i + k) / 8 ≡ i = omega arith in
    let r : (8 * i + k) % 8 ≡ k = omega arith in
    ap₂ (λ (x y : ℕ). set a x (bit_xor (get_or a x 0) (b * 2 ^ (8 * y) % 2 ^ 64))) q r
    ∙ ap (λ (x : ℕ). set a i (bit_xor (get_or a i 0) x)) (shl_exact 8 (8 * k) 64 hb (omega arith))

-- a byte below the w that follow it
stacked : (w b k : ℕ) → b < 256 → bit_xor (b * 2 ^ (8 * k)) (w * 2 ^ (8 * (k + 1))) ≡ (b + 256 * w) * 2 ^ (8 * k)
stacked w b k hb =
    let e : 8 * (k + 1) ≡ 8 + 8 * k = omega arith in
    let p : ℕ = 2 ^ (8 * k) in
    xor_comm (b * p) (w * 2 ^ (8 * (k + 1)))
    ∙ ap (λ (n : ℕ). bit_xor (w * 2 ^ n) (b * p)) e
    ∙ xor_shifted w (8 + 8 * k) (b * p) (shl_lt 8 (8 * k) hb)
    ∙ add_comm (w * 2 ^ (8 + 8 * k)) (b * p)
    ∙ ap (λ (x : ℕ). b * p + w * x) (pow-add 2 8 (8 * k))
    ∙ ap (λ (x : ℕ). b * p + x) (sym (mul_assoc w 256 p) ∙ ap (λ (x : ℕ). x * p) (mul_comm w 256))
    ∙ sym (add-mul b (256 * w) p)

-- bytes that stay inside lane i, from its place k
pub lane_in : (bs a : List ℕ) (i k : ℕ) → i < length a → k + length bs ≤ 8 → Bytes bs
    → xor_bytes a (8 * i + k) bs ≡ set a i (bit_xor (get_or a i 0) (little bs * 2 ^ (8 * k)))
unfolding xor_bytes little
lane_in [] a i k h l y =
    sym (ap (λ (x : ℕ). set a i (bit_xor (get_or a i 0) x)) (zero-mul (2 ^ (8 * k))) ∙ ap (set a i) (xor_zero_r (get_or a i 0)) ∙ set-get_or a i 0)
lane_in (b ∷ bs) a i k h l y =
    let v : ℕ = bit_xor (get_or a i 0) (b * 2 ^ (8 * k)) in
    let w : ℕ = little bs * 2 ^ (8 * (k + 1)) in
    let n : 8 * i + k + 1 ≡ 8 * i + (k + 1) = omega arith in
    ap₂ (λ (r : List ℕ) (m : ℕ). xor_bytes r m bs) (byte_in a i k b (omega arith) y.0) n
    ∙ lane_in bs (set a i v) i (k + 1) (omega (arith, length-set a i v)) (omega arith) y.1
    ∙ set-set a i v (bit_xor (get_or (set a i v) i 0) w)
    ∙ ap (λ (x : ℕ). set a i (bit_xor x w)) (get_or-set_same a i v 0 h)
    ∙ ap (set a i) (xor_assoc (get_or a i 0) (b * 2 ^ (8 * k)) w ∙ ap (bit_xor (get_or a i 0)) (stacked (little bs) b k y.0))

-- eight bytes are a lane's word
pub word_in : (bs a : List ℕ) (i : ℕ) → i < length a → length bs ≡ 8 → Bytes bs → xor_bytes a (8 * i) bs ≡ set a i (bit_xor (get_or a i 0) (little bs))
word_in bs a i h l y =
    let z : 8 * i ≡ 8 * i + 0 = omega arith in
    let one : little bs * 2 ^ 0 ≡ little bs = omega arith in
    ap (λ (n : ℕ). xor_bytes a n bs) z ∙ lane_in bs a i 0 h (omega arith) y ∙ ap (λ (x : ℕ). set a i (bit_xor (get_or a i 0) x)) one

-- the first word of several
next_word : (bs a : List ℕ) (i : ℕ) → i < length a → 8 ≤ length bs → Bytes bs
    → xor_bytes a (8 * i) bs ≡ xor_bytes (set a i (bit_xor (get_or a i 0) (little (take 8 bs)))) (8 * suc i) (drop 8 bs)
next_word bs a i h l y =
    let t : length (take 8 bs) ≡ 8 = omega (arith, length-take 8 bs) in
    ap (xor_bytes a (8 * i)) (sym (take-append-drop 8 bs))
    ∙ xor_bytes_append (take 8 bs) (drop 8 bs) a (8 * i)
    ∙ ap₂ (λ (r : List ℕ) (n : ℕ). xor_bytes r n (drop 8 bs)) (word_in (take 8 bs) a i h t (bytes_take 8 bs y)) (omega arith)

-- a lane before the first place is as it was
lower : (bs a : List ℕ) (n j : ℕ) → j < n / 8 → get_or (xor_bytes a n bs) j 0 ≡ get_or a j 0
unfolding xor_bytes
lower [] a n j h = refl
lower (b ∷ bs) a n j h =
    lower bs (xor_byte a n b) (n + 1) j (omega arith)
    ∙ get_or-set_other a (n / 8) j (bit_xor (get_or a (n / 8) 0) (b * 2 ^ (8 * (n % 8)) % 2 ^ 64)) 0 (λ e. omega arith)

-- lane i + j gets word j
upper : (n : ℕ) (bs a : List ℕ) (i j k : ℕ) → k ≡ i + j → length bs ≡ 8 * n → i + n ≤ length a → Bytes bs
    → get_or (xor_bytes a (8 * i) bs) k 0 ≡ bit_xor (get_or a k 0) (word bs j)
unfolding xor_bytes little
upper zero [] a i j k e l h y =
    sym (ap (λ (r : List ℕ). bit_xor (get_or a k 0) (little (take 8 r))) (drop-nil (8 * j)) ∙ xor_zero_r (get_or a k 0))
upper zero (b ∷ bs) a i j k e l h y = absurd (omega arith)
upper (suc n) bs a i zero k e l h y =
    let v : ℕ = bit_xor (get_or a i 0) (little (take 8 bs)) in
    let ki : k ≡ i = omega arith in
    ap (λ (r : List ℕ). get_or r k 0) (next_word bs a i (omega arith) (omega arith) y)
    ∙ lower (drop 8 bs) (set a i v) (8 * suc i) k (omega arith)
    ∙ ap (λ (m : ℕ). get_or (set a i v) m 0) ki
    ∙ get_or-set_same a i v 0 (omega arith)
    ∙ ap (λ (m : ℕ). bit_xor (get_or a m 0) (little (take 8 bs))) (sym ki)
upper (suc n) bs a i (suc j) k e l h y =
    let v : ℕ = bit_xor (get_or a i 0) (little (take 8 bs)) in
    let m : 8 + 8 * j ≡ 8 * suc j = omega arith in
    ap (λ (r : List ℕ). get_or r k 0) (next_word bs a i (omega arith) (omega arith) y)
    ∙ upper n (drop 8 bs) (set a i v) (suc i) j k (omega arith) (omega (arith, length-drop 8 bs)) (omega (arith, length-set a i v)) (bytes_drop 8 bs y)
    ∙ ap₂ bit_xor (get_or-set_other a i k v 0 (λ ki. omega arith)) (ap (λ (r : List ℕ). little (take 8 r)) (drop-drop (8 * j) 8 bs ∙ ap (λ (p : ℕ). drop p bs) m))

-- a whole block
pub block_in : (a bs : List ℕ) → length a ≡ 25 → length bs ≡ 136 → Bytes bs → xor_bytes a 0 bs ≡ xor_block a bs
unfolding xor_block
block_in a bs ha hb y =
    ext_get_or 0 (xor_bytes a 0 bs) (tab (λ i. bit_xor (get_or a i 0) (word bs i)) 0 25) (xor_bytes_length bs a 0 ∙ ha)
    (λ k h.
    upper 17 bs a 0 k k (omega arith) (omega arith) (omega arith) y
    ∙ sym (tab_at (λ i. bit_xor (get_or a i 0) (word bs i)) 25 k (omega (arith, xor_bytes_length bs a 0))))
