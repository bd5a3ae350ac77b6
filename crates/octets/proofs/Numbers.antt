-- Laws of numbers in bytes.
use mathlib.Core.Path.{◌≡◌, refl, sym, ap, ◌∙◌}
use mathlib.Core.List.{List, [], ◌∷◌, ◌++◌}
use Prim.Native.Nat.{ℕ, zero, suc, ◌+◌, ◌*◌, ◌/◌, ◌%◌, ◌^◌, ◌≤◌, ◌<◌}
use native.Mathlib.Nat.{zero-add, zero-mul, add-mul, mul_assoc, add_assoc, pow-suc, mul-le-mul_right, suc_inj}
use native.Mathlib.Omega.{arith}
use lib.Pow.{pow-add}
use lib.ListN.{length, take, drop, length-append}
use borrow.Author.Tests.{le-leb, lt-leb}
use Rattle.octets.specs.Bytes.{Bytes}
use Rattle.octets.specs.Number.{big, little, big_at, little_at, bytes_of}
use Rattle.octets.proofs.Bytes.{bytes_append}

pub big_nil : big [] ≡ 0
unfolding big
big_nil = refl

pub big_cons : (x : ℕ) (xs : List ℕ) → big (x ∷ xs) ≡ x * 256 ^ length xs + big xs
unfolding big
big_cons x xs = refl

pub big_append : (xs ys : List ℕ) → big (xs ++ ys) ≡ big xs * 256 ^ length ys + big ys
big_append [] ys = rw (big_nil, zero-mul, zero-add)
big_append (x ∷ xs) ys = rw (big_cons x (xs ++ ys), big_cons x xs, length-append, pow-add, big_append xs ys, add-mul, mul_assoc, add_assoc)

pub big_lt : (xs : List ℕ) → Bytes xs → big xs < 256 ^ length xs
unfolding big
big_lt [] h = omega arith
big_lt (x ∷ xs) h =
    let p = 256 ^ length xs in
    let below = big_lt xs h.1 in
    let high : x * p ≤ 255 * p = mul-le-mul_right p (omega (arith, h.0)) in
    let whole : 256 ^ suc (length xs) ≡ p * 256 = pow-suc 256 (length xs) in
    omega arith

-- a number's bytes

pub length_bytes_of : (width n : ℕ) → length (bytes_of width n) ≡ width
unfolding bytes_of
length_bytes_of zero n = refl
length_bytes_of (suc width) n = simp length-append (omega (arith, length_bytes_of width (n / 256)))

pub bytes_bytes_of : (width n : ℕ) → Bytes (bytes_of width n)
unfolding bytes_of
bytes_bytes_of zero n = tt
bytes_bytes_of (suc width) n = bytes_append (bytes_of width (n / 256)) (n % 256 ∷ []) (bytes_bytes_of width (n / 256)) (omega arith, tt)

-- a number that is written and read again is the number
pub big_bytes_of : (width n : ℕ) → n < 256 ^ width → big (bytes_of width n) ≡ n
unfolding big bytes_of
big_bytes_of zero n h = omega arith
big_bytes_of (suc width) n h =
    let whole : 256 ^ suc width ≡ 256 ^ width * 256 = pow-suc 256 width in
    let above : big (bytes_of width (n / 256)) ≡ n / 256 = big_bytes_of width (n / 256) (omega arith) in
    rw (big_append (bytes_of width (n / 256)), above) (omega arith)

bytes_of_cons : (width x r : ℕ) → x < 256 → r < 256 ^ width → bytes_of (suc width) (x * 256 ^ width + r) ≡ x ∷ bytes_of width r
unfolding bytes_of
bytes_of_cons zero x r hx hr = let e : (x * 1 + r) % 256 ≡ x = omega arith in rw e
bytes_of_cons (suc width) x r hx hr =
    let p = 256 ^ width in
    let whole : 256 ^ suc width ≡ p * 256 = pow-suc 256 width in
    let n = x * 256 ^ suc width + r in
    let high-first : n ≡ x * p * 256 + r = rw (whole, mul_assoc) in
    let high : n / 256 ≡ x * p + r / 256 = omega arith in
    let low : n % 256 ≡ r % 256 = omega arith in
    rw (high, low, bytes_of_cons width x (r / 256) hx (omega arith))

-- and bytes that are read and written again are the bytes
pub bytes_of_big : (xs : List ℕ) → Bytes xs → bytes_of (length xs) (big xs) ≡ xs
unfolding big bytes_of
bytes_of_big [] h = refl
bytes_of_big (x ∷ xs) h = bytes_of_cons (length xs) x (big xs) h.0 (big_lt xs h.1) ∙ ap (λ (l : List ℕ). x ∷ l) (bytes_of_big xs h.1)

-- of one length, different bytes are different numbers
pub big_injective : (xs ys : List ℕ) → length xs ≡ length ys → Bytes xs → Bytes ys → big xs ≡ big ys → xs ≡ ys
big_injective xs ys e hx hy h = sym (bytes_of_big xs hx) ∙ (λ k. bytes_of (e k) (h k)) ∙ bytes_of_big ys hy

pub little_injective : (xs ys : List ℕ) → length xs ≡ length ys → Bytes xs → Bytes ys → little xs ≡ little ys → xs ≡ ys
unfolding little
little_injective [] [] e hx hy h = refl
little_injective [] (y ∷ ys) e hx hy h = absurd (omega arith)
little_injective (x ∷ xs) [] e hx hy h = absurd (omega arith)
little_injective (x ∷ xs) (y ∷ ys) e hx hy h =
    let least : x ≡ y = omega (arith, hx.0, hy.0) in
    let rest : little xs ≡ little ys = omega (arith, hx.0, hy.0) in
    let same : xs ≡ ys = little_injective xs ys (suc_inj e) hx.1 hy.1 rest in
    λ k. least k ∷ same k

-- a number in a buffer

pub big_at_fits : (width : ℕ) (s : List ℕ) (at : ℕ) → at + width ≤ length s → big_at width s at ≡ big (take width (drop at s))
unfolding big_at
big_at_fits width s at h = rw (le-leb _ _ h)

pub big_at_not : (width : ℕ) (s : List ℕ) (at : ℕ) → length s < at + width → big_at width s at ≡ 0
unfolding big_at
big_at_not width s at h = rw (lt-leb _ _ h)

pub little_at_fits : (width : ℕ) (s : List ℕ) (at : ℕ) → at + width ≤ length s → little_at width s at ≡ little (take width (drop at s))
unfolding little_at
little_at_fits width s at h = rw (le-leb _ _ h)

pub little_at_not : (width : ℕ) (s : List ℕ) (at : ℕ) → length s < at + width → little_at width s at ≡ 0
unfolding little_at
little_at_not width s at h = rw (lt-leb _ _ h)
