-- Digits, one by one.
use mathlib.Core.Path.{◌≡◌, refl, sym, ap, ap₂, ◌∙◌}
use mathlib.Core.Bool.{Bool, true, false, cond}
use mathlib.Core.List.{List, [], ◌∷◌, ◌++◌, append_assoc}
use Prim.Native.Nat.{ℕ, zero, suc, ◌+◌, ◌-◌, ◌*◌, ◌/◌, ◌%◌, ◌^◌, ◌≤◌, ◌<◌}
use native.Mathlib.Nat.{pow-suc}
use native.Mathlib.Numerals.{unary_clauses}
use native.Mathlib.Omega.{arith}
use lib.Dec.{ltb}
use lib.ListN.{length, get_or, take, drop, set, replicate, take-append-drop, length-append, length-drop, length-replicate}
use lib.Seq.{set_split, take-set-le, take-take, drop_at, drop-cons, length-take-le}
use borrow.Author.Tests.{lt-ltb, le-ltb}
use Rattle.digits.specs.declared.spelling.Decimal.{Decimal}
use Rattle.digits.specs.Field.{digit, digits, decimal, hex}
use Rattle.digits.specs.Spelled.{spelled}

-- one digit

pub digit_number : (d : ℕ) → d < 10 → digit d ≡ 48 + d
unfolding digit
digit_number d h = rw (lt-ltb d 10 h)

pub digit_letter : (d : ℕ) → 10 ≤ d → digit d ≡ 87 + d
unfolding digit
digit_letter d h = rw (le-ltb d 10 h)

-- the digits of a number

pub digits_more : (most n : ℕ) → 10 ≤ n → digits (suc most) n ≡ digits most (n / 10) ++ (digit (n % 10) ∷ [])
unfolding digits
digits_more most n h = rw (le-ltb n 10 h)

pub digits_one : (most n : ℕ) → n < 10 → digits (suc most) n ≡ digit n ∷ []
unfolding digits
digits_one most n h = let e : n % 10 ≡ n = omega arith in rw (lt-ltb n 10 h, e)

pub digits_fit : (most n : ℕ) → length (digits most n) ≤ most
unfolding digits
digits_fit zero n = omega arith
digits_fit (suc most) n = go (ltb n 10) (digits_fit most (n / 10))
  where
    go : (b : Bool) → length (digits most (n / 10)) ≤ most → length (cond b [] (digits most (n / 10)) ++ (digit (n % 10) ∷ [])) ≤ suc most
    go true h = omega arith
    go false h = simp length-append (omega arith)

pub decimal_fits : (n : ℕ) → length (decimal n) ≤ 20
unfolding decimal
decimal_fits n = digits_fit 20 n

-- a number of at least two digits in at most i
module _ (i n : ℕ) (many : 10 ≤ n) (below : n < 10 ^ i) where
  pub room_left : 1 < i
  room_left = go i below
    where
      go : (k : ℕ) → n < 10 ^ k → 1 < k
      go zero h = absurd (omega arith)
      go (suc zero) h = absurd (omega arith)
      go (suc (suc k)) h = omega arith

  pub below_next : n / 10 < 10 ^ (i - 1)
  below_next = go i below
    where
      go : (k : ℕ) → n < 10 ^ k → n / 10 < 10 ^ (k - 1)
      go zero h = absurd (omega arith)
      go (suc k) h =
          let whole : 10 ^ suc k ≡ 10 ^ k * 10 = pow-suc 10 k in
          let e : suc k - 1 ≡ k = omega arith in
          rw e (omega arith)

module _ (b : List ℕ) (i : ℕ) (inside : i < length b) where
  -- a digit stored before those that are there
  stored : (x : ℕ) → drop i (set b i x) ≡ x ∷ drop (suc i) b
  stored x = rw (set_split b i x inside) (drop_at (take i b) (x ∷ drop (suc i) b) i (length-take-le i b (omega arith)))

  pub one_more : (n : ℕ) → 10 ≤ n → digits i (n / 10) ++ drop i (set b i (digit (n % 10))) ≡ digits (suc i) n ++ drop (suc i) b
  one_more n h = rw (stored (digit (n % 10)), digits_more i n h) (sym (append_assoc (digits i (n / 10)) (digit (n % 10) ∷ []) (drop (suc i) b)))

  pub the_last : (n : ℕ) → n < 10 → drop i (set b i (digit n)) ≡ digits (suc i) n ++ drop (suc i) b
  the_last n h = rw (stored (digit n), digits_one i n h)

-- zeros before them

take_zeros : (i n : ℕ) → i ≤ n → take i (replicate {A = ℕ} n 0) ≡ replicate i 0
take_zeros zero n h = refl
take_zeros (suc i) zero h = absurd (omega arith)
take_zeros (suc i) (suc n) h = ap (λ (t : List ℕ). 0 ∷ t) (take_zeros i n (omega arith))

pub zeros_before : (b : List ℕ) (i from x : ℕ) → i ≤ from → take from b ≡ replicate from 0 → take i (set b i x) ≡ replicate i 0
zeros_before b i from x h e = take-set-le i b i x (omega arith) ∙ sym (take-take i from b h) ∙ ap (take i) e ∙ take_zeros i from h

-- zeros up to a place and the digits from there are all
pub all_spelled : (n i : ℕ) (b : List ℕ) → length b ≡ 20 → i ≤ 20 → take i b ≡ replicate i 0 → drop i b ≡ decimal n → record { bytes = b; from = i } ≡ spelled n
unfolding spelled
all_spelled n i b size inside front back =
    let place : i ≡ 20 - length (decimal n) = omega (arith, ap length back, length-drop i b) in
    let whole : b ≡ replicate (20 - length (decimal n)) 0 ++ decimal n = sym (take-append-drop i b) ∙ ap₂ (λ (x y : List ℕ). x ++ y) (front ∙ ap (λ (k : ℕ). replicate k 0) place) back in
    ap₂ (λ (x : List ℕ) (k : ℕ). record { bytes = x; from = k }) whole place

-- and the digits are found there
pub spelled_there : (n : ℕ) (r : Decimal) → r ≡ spelled n → (length r.bytes ≡ 20) × ((r.from ≤ 20) × (drop r.from r.bytes ≡ decimal n))
unfolding spelled
spelled_there n r e =
    let k = 20 - length (decimal n) in
    let bytes = ap (λ (d : Decimal). d.bytes) e in
    let from : r.from ≡ k = ap (λ (d : Decimal). d.from) e in
    let zeros : length (replicate {A = ℕ} k 0) ≡ k = length-replicate {A = ℕ} k 0 in (
      ap length bytes ∙ length-append (replicate k 0) (decimal n) ∙ omega (arith, zeros, decimal_fits n),
      (omega (arith, from), ap₂ (λ (i : ℕ) (b : List ℕ). drop i b) from bytes ∙ drop_at (replicate k 0) (decimal n) k zeros),
    )

-- bytes

pub hex_fits : (s : List ℕ) → length (hex s) ≡ 2 * length s
unfolding hex
hex_fits [] = refl
hex_fits (b ∷ s) = omega (arith, hex_fits s)

-- the four bytes of s from `at`, one by one
pub hex_four : (s : List ℕ) (at : ℕ) → at + 4 ≤ length s → hex (take 4 (drop at s)) ≡ hex (get_or s at 0 ∷ get_or s (at + 1) 0 ∷ get_or s (at + 2) 0 ∷ get_or s (at + 3) 0 ∷ [])
hex_four s at h =
    simp unary_clauses
    (rw (drop-cons s at 0 (omega arith), drop-cons s (suc at) 0 (omega arith), drop-cons s (suc (suc at)) 0 (omega arith), drop-cons s (suc (suc (suc at))) 0 (omega arith)))
