-- The leading equal bits of two numbers are the leading zeros of their xor.
use mathlib.Core.Path.{◌≡◌, refl, sym, ap, ◌∙◌}
use mathlib.Core.Bool.{Bool, true, false, cond}
use mathlib.Core.List.{List, [], ◌∷◌, ◌++◌}
use mathlib.Core.Logic.{◌⊎◌, inl, inr}
use Prim.Native.Nat.{ℕ, zero, suc, ◌+◌, ◌*◌, ◌/◌, ◌^◌, ◌%◌, ◌<◌}
use native.Mathlib.Nat.{suc_inj, suc-add, zero-add, eq-zero-or-pos, pow-suc}
use native.Mathlib.Numerals.{add-one}
use native.Mathlib.Omega.{arith}
use lib.Bits.{bit_xor, xor_step, differ, xor_lt}
use lib.Count.{count_leading_zeros, leading_of_zero, leading_top}
use lib.Dec.{eqb}
use lib.ListN.{length, length-append}
use Rattle.nearness.specs.Bits.{bits, leading_equal}

-- all of xs is equal, and what follows counts on
pub equal_through : (xs ys s t : List ℕ) → length xs ≡ length ys → leading_equal xs ys ≡ length xs → leading_equal (xs ++ s) (ys ++ t) ≡ length xs + leading_equal s t
unfolding leading_equal
equal_through [] [] s t e h = sym (zero-add _)
equal_through [] (y ∷ ys) s t e h = absurd (omega arith)
equal_through (x ∷ xs) [] s t e h = absurd (omega arith)
equal_through (x ∷ xs) (y ∷ ys) s t e h = go (eqb x y) h (λ h. equal_through xs ys s t (suc_inj e) h)
  where
    go : (b : Bool) → cond b (suc (leading_equal xs ys)) 0 ≡ suc (length xs) → (leading_equal xs ys ≡ length xs → leading_equal (xs ++ s) (ys ++ t) ≡ length xs + leading_equal s t)
        → cond b (suc (leading_equal (xs ++ s) (ys ++ t))) 0 ≡ suc (length xs) + leading_equal s t
    go true h r = ap suc (r (suc_inj h)) ∙ sym (suc-add (length xs) (leading_equal s t))
    go false h r = absurd (omega arith)

-- they part inside xs, and what follows does not count
pub equal_stops : (xs ys s t : List ℕ) → length xs ≡ length ys → leading_equal xs ys < length xs → leading_equal (xs ++ s) (ys ++ t) ≡ leading_equal xs ys
unfolding leading_equal
equal_stops [] [] s t e h = absurd (omega arith)
equal_stops [] (y ∷ ys) s t e h = absurd (omega arith)
equal_stops (x ∷ xs) [] s t e h = absurd (omega arith)
equal_stops (x ∷ xs) (y ∷ ys) s t e h = go (eqb x y) h (λ h. equal_stops xs ys s t (suc_inj e) h)
  where
    go : (b : Bool) → cond b (suc (leading_equal xs ys)) 0 < suc (length xs) → (leading_equal xs ys < length xs → leading_equal (xs ++ s) (ys ++ t) ≡ leading_equal xs ys)
        → cond b (suc (leading_equal (xs ++ s) (ys ++ t))) 0 ≡ cond b (suc (leading_equal xs ys)) 0
    go true h r = ap suc (r (omega arith))
    go false h r = refl

pub length_bits : (k x : ℕ) → length (bits k x) ≡ k
unfolding bits
length_bits zero x = refl
length_bits (suc k) x = length-append (bits k (x / 2)) _ ∙ add-one _ ∙ ap suc (length_bits k (x / 2))

-- one digit each
equal_digit : (u v : ℕ) → u < 2 → v < 2 → leading_equal (u ∷ []) (v ∷ []) + differ u v ≡ 1
unfolding leading_equal
equal_digit zero zero hu hv = refl
equal_digit zero (suc zero) hu hv = refl
equal_digit (suc zero) zero hu hv = refl
equal_digit (suc zero) (suc zero) hu hv = refl
equal_digit zero (suc (suc v)) hu hv = absurd (omega arith)
equal_digit (suc zero) (suc (suc v)) hu hv = absurd (omega arith)
equal_digit (suc (suc u)) v hu hv = absurd (omega arith)

-- a number above 0 keeps its leading zeros when its lowest digit is dropped
zeros_half : (k z : ℕ) → zero < z → count_leading_zeros (suc k) z ≡ count_leading_zeros k (z / 2)
unfolding count_leading_zeros
zeros_half k zero h = absurd (omega arith)
zeros_half k (suc z) h = refl

pub zeros_lt : (k z : ℕ) → zero < z → z < 2 ^ k → count_leading_zeros k z < k
zeros_lt k z h b = let t = leading_top k z h b in omega (arith, t.1)

-- one digit more at the low end of each, u and v, which differ by d
one_more : (k z d : ℕ) (xs ys : List ℕ) (u v : ℕ) → length xs ≡ k → length ys ≡ k → leading_equal xs ys ≡ count_leading_zeros k z → z < 2 ^ k → leading_equal (u ∷ []) (v ∷ []) + d ≡ 1
    → leading_equal (xs ++ (u ∷ [])) (ys ++ (v ∷ [])) ≡ count_leading_zeros (suc k) (z * 2 + d)
one_more k z d xs ys u v ex ey ih b one = go (eq-zero-or-pos z)
  where
    all : z ≡ zero → (d ≡ zero) ⊎ (zero < d) → length xs + leading_equal (u ∷ []) (v ∷ []) ≡ count_leading_zeros (suc k) (z * 2 + d)
    all hz (inl e) = let n : z * 2 + d ≡ zero = omega arith in rw (n, leading_of_zero) (omega arith)
    all hz (inr h) =
        let n : (z * 2 + d) / 2 ≡ zero = omega arith in
        rw (zeros_half k (z * 2 + d) (omega arith), n, leading_of_zero) (omega arith)

    go : (z ≡ zero) ⊎ (zero < z) → leading_equal (xs ++ (u ∷ [])) (ys ++ (v ∷ [])) ≡ count_leading_zeros (suc k) (z * 2 + d)
    go (inr hz) =
        equal_stops xs ys (u ∷ []) (v ∷ []) (ex ∙ sym ey) (omega (arith, zeros_lt k z hz b)) ∙ ih
        ∙ sym (zeros_half k (z * 2 + d) (omega arith) ∙ ap (count_leading_zeros k) (omega arith))
    go (inl hz) =
        let whole : leading_equal xs ys ≡ length xs = ih ∙ ap (count_leading_zeros k) hz ∙ leading_of_zero k ∙ sym ex in
        equal_through xs ys (u ∷ []) (v ∷ []) (ex ∙ sym ey) whole ∙ all hz (eq-zero-or-pos d)

pub equal_bits : (k x y : ℕ) → x < 2 ^ k → y < 2 ^ k → leading_equal (bits k x) (bits k y) ≡ count_leading_zeros k (bit_xor x y)
unfolding leading_equal count_leading_zeros bits
equal_bits zero x y hx hy = refl
equal_bits (suc k) x y hx hy =
    let hx2 : x / 2 < 2 ^ k = omega (arith, pow-suc 2 k) in
    let hy2 : y / 2 < 2 ^ k = omega (arith, pow-suc 2 k) in
    one_more k (bit_xor (x / 2) (y / 2)) (differ (x % 2) (y % 2)) (bits k (x / 2)) (bits k (y / 2)) (x % 2) (y % 2) (length_bits k (x / 2)) (length_bits k (y / 2))
    (equal_bits k (x / 2) (y / 2) hx2 hy2) (xor_lt k (x / 2) (y / 2) hx2 hy2) (equal_digit (x % 2) (y % 2) (omega arith) (omega arith))
    ∙ ap (count_leading_zeros (suc k)) (sym (xor_step x y))
