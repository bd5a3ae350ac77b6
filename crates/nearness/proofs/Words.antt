-- The bits of a byte string are the digits of its number, word by word.
use mathlib.Core.Path.{◌≡◌, refl, sym, ap, ◌∙◌}
use mathlib.Core.List.{List, [], ◌∷◌, ◌++◌, append_assoc, append-nil}
use Prim.Native.Nat.{ℕ, zero, suc, ◌+◌, ◌*◌, ◌/◌, ◌^◌, ◌≤◌, ◌<◌}
use native.Mathlib.Nat.{pos_of_ne-zero, add-suc, add-zero, pow-suc}
use native.Mathlib.Omega.{arith}
use lib.Bits.{bit_xor, block_half, block_odd, xor_lt}
use lib.Pow.{pow-add}
use lib.Count.{count_leading_zeros, leading_of_zero}
use lib.ListN.{length, take, drop, take-append-drop, drop_of_length-le}
use lib.Seq.{drop-drop}
use Rattle.octets.specs.Bytes.{Bytes}
use Rattle.octets.specs.Number.{big, big_at}
use Rattle.octets.proofs.Bytes.{bytes_take, bytes_drop}
use Rattle.octets.proofs.Numbers.{big_cons, big_lt, big_at_fits}
use Rattle.octets.proofs.Parts.{part_length}
use Rattle.nearness.specs.Bits.{bits, bits_of, leading_equal, shared_bits}
use Rattle.nearness.proofs.Leading.{equal_through, equal_stops, length_bits, zeros_lt, equal_bits}

pub pow_bits : (n : ℕ) → 256 ^ n ≡ 2 ^ (8 * n)
pow_bits zero = refl
pow_bits (suc n) =
    let e : 8 * suc n ≡ 8 * n + 8 = omega arith in
    pow-suc 256 n ∙ ap (λ (p : ℕ). p * 256) (pow_bits n) ∙ sym (ap (λ (k : ℕ). 2 ^ k) e ∙ pow-add 2 (8 * n) 8)

pub number_lt : (xs : List ℕ) → Bytes xs → big xs < 2 ^ (8 * length xs)
number_lt xs h = rw (← pow_bits (length xs)) (big_lt xs h)

-- the digits of a number in two parts
bits_joined : (j k a r : ℕ) → r < 2 ^ k → bits (j + k) (a * 2 ^ k + r) ≡ bits j a ++ bits k r
unfolding bits
bits_joined j zero a r h = let e : a * 1 + r ≡ a = omega arith in rw (e, add-zero, append-nil)
bits_joined j (suc k) a r h = rw (add-suc, block_half, block_odd, bits_joined j k a (r / 2) (omega (arith, pow-suc 2 k)), append_assoc)

pub bits_big : (xs : List ℕ) → Bytes xs → bits (8 * length xs) (big xs) ≡ bits_of xs
unfolding bits_of bits
bits_big [] h = refl
bits_big (x ∷ xs) h =
    let e : 8 * suc (length xs) ≡ 8 + 8 * length xs = omega arith in
    rw (e, big_cons x xs, pow_bits (length xs)) (bits_joined 8 (8 * length xs) x (big xs) (number_lt xs h.1) ∙ ap (λ (l : List ℕ). bits 8 x ++ l) (bits_big xs h.1))

-- the shared bits of strings of one length are the leading zeros of the xor of their numbers
pub shared_zeros : (a b : List ℕ) → Bytes a → Bytes b → length a ≡ length b → shared_bits a b ≡ count_leading_zeros (8 * length a) (bit_xor (big a) (big b))
unfolding shared_bits
shared_zeros a b ha hb e =
    let k = 8 * length a in
    let same : 8 * length b ≡ k = ap (λ (n : ℕ). 8 * n) (sym e) in
    let hb' : big b < 2 ^ k = rw same at (number_lt b hb) in
    let eb : bits k (big b) ≡ bits_of b = ap (λ (n : ℕ). bits n (big b)) (sym same) ∙ bits_big b hb in
    rw (← bits_big a ha, ← eb) (equal_bits k (big a) (big b) (number_lt a ha) hb')

bits_append : (xs ys : List ℕ) → bits_of (xs ++ ys) ≡ bits_of xs ++ bits_of ys
unfolding bits_of
bits_append [] ys = refl
bits_append (x ∷ xs) ys = rw (bits_append xs ys, append_assoc (bits 8 x) (bits_of xs) (bits_of ys))

-- a string from `at` on: the digits of the word there, and the bits of what follows
word_bits : (a : List ℕ) (at : ℕ) → at + 8 ≤ length a → Bytes a → bits_of (drop at a) ≡ bits 64 (big_at 8 a at) ++ bits_of (drop (at + 8) a)
word_bits a at h k =
    let w = take 8 (drop at a) in
    let split : drop at a ≡ w ++ drop (at + 8) a = rw (← drop-drop 8 at a, take-append-drop 8 (drop at a)) in
    let count : 8 * length w ≡ 64 = ap (λ (n : ℕ). 8 * n) (part_length a at 8 h) in
    ap bits_of split ∙ bits_append w (drop (at + 8) a)
    ∙ ap (λ (l : List ℕ). l ++ bits_of (drop (at + 8) a))
    (sym (bits_big w (bytes_take 8 (drop at a) (bytes_drop at a k))) ∙ (λ i. bits (count i) (sym (big_at_fits 8 a at h) i)))

-- two words of k digits with bits behind them: where the words differ they decide
stops : (k x y : ℕ) (s t : List ℕ) → x < 2 ^ k → y < 2 ^ k → zero < bit_xor x y → leading_equal (bits k x ++ s) (bits k y ++ t) ≡ count_leading_zeros k (bit_xor x y)
stops k x y s t hx hy h =
    let e = equal_bits k x y hx hy in
    equal_stops (bits k x) (bits k y) s t (length_bits k x ∙ sym (length_bits k y))
    (omega (arith, length_bits k x, zeros_lt k (bit_xor x y) h (xor_lt k x y hx hy)))
    ∙ e

-- and where they are the same all their digits count
goes_on : (k x y : ℕ) (s t : List ℕ) → x < 2 ^ k → y < 2 ^ k → bit_xor x y ≡ zero → leading_equal (bits k x ++ s) (bits k y ++ t) ≡ k + leading_equal s t
goes_on k x y s t hx hy h =
    equal_through (bits k x) (bits k y) s t (length_bits k x ∙ sym (length_bits k y))
    (equal_bits k x y hx hy ∙ ap (count_leading_zeros k) h ∙ leading_of_zero k ∙ sym (length_bits k x))
    ∙ ap (λ (n : ℕ). n + leading_equal s t) (length_bits k x)

-- x and y are the words at `at`
module _ (a b : List ℕ) (at x y : ℕ) (ha : at + 8 ≤ length a) (hb : at + 8 ≤ length b) (ka : Bytes a) (kb : Bytes b)
    (ex : x ≡ big_at 8 a at) (ey : y ≡ big_at 8 b at) (hx : x < 2 ^ 64) (hy : y < 2 ^ 64) where
  pub shared_stops : (bit_xor x y ≡ zero → ⊥) → shared_bits (drop at a) (drop at b) ≡ count_leading_zeros 64 (bit_xor x y)
  unfolding shared_bits
  shared_stops h = rw (word_bits a at ha ka, word_bits b at hb kb, ← ex, ← ey) (stops 64 x y _ _ hx hy (pos_of_ne-zero h))

  pub shared_goes_on : bit_xor x y ≡ zero → shared_bits (drop at a) (drop at b) ≡ 64 + shared_bits (drop (at + 8) a) (drop (at + 8) b)
  unfolding shared_bits
  shared_goes_on h = rw (word_bits a at ha ka, word_bits b at hb kb, ← ex, ← ey) (goes_on 64 x y _ _ hx hy h)

-- past the end there are none
pub shared_none : (a b : List ℕ) (at : ℕ) → length a ≤ at → shared_bits (drop at a) (drop at b) ≡ 0
unfolding shared_bits bits_of leading_equal
shared_none a b at h = rw (drop_of_length-le a h)
