-- The sentences of specs/Reading.antt.
use mathlib.Core.Path.{◌≡◌, refl}
use mathlib.Core.Bool.{Bool, true, false}
use mathlib.Core.List.{List, [], ◌∷◌, ◌++◌}
use Prim.Native.Nat.{ℕ, zero, suc, ◌+◌, ◌-◌, ◌*◌, ◌/◌, ◌%◌, ◌^◌, ◌≤◌, ◌<◌}
use native.Mathlib.Nat.{pow-suc, add-mul, mul_assoc, add_assoc}
use native.Mathlib.Numerals.{add-one}
use native.Mathlib.Omega.{arith}
use lib.Dec.{ltb}
use lib.ListN.{length, get_or, length-append, get_or-append}
use borrow.Author.Tests.{ltb-true, ltb-false}
use Rattle.digits.specs.Field.{digit, digits, decimal}
use Rattle.listing.specs.Reading.{value_of, ReadAgain, NoZeroInFront}
use Rattle.digits.proofs.Letters.{digit_number, digits_more, digits_one}

value_more : (xs : List ℕ) (d : ℕ) → value_of (xs ++ (d ∷ [])) ≡ value_of xs * 10 + (d - 0x30)
unfolding value_of
value_more [] d = omega arith
value_more (x ∷ xs) d = rw (length-append xs (d ∷ []), add-one (length xs), pow-suc 10 (length xs), value_more xs d, add-mul, mul_assoc, add_assoc)

value_one : (d : ℕ) → value_of (d ∷ []) ≡ d - 0x30
unfolding value_of
value_one d = omega arith

read_digits : (most n : ℕ) → n < 10 ^ most → value_of (digits most n) ≡ n
unfolding value_of digits
read_digits zero n h = omega arith
read_digits (suc most) n h =
    let whole : 10 ^ suc most ≡ 10 ^ most * 10 = pow-suc 10 most in
    go (ltb n 10) refl (read_digits most (n / 10) (omega arith))
  where
    go : (b : Bool) → ltb n 10 ≡ b → value_of (digits most (n / 10)) ≡ n / 10 → value_of (digits (suc most) n) ≡ n
    go true e above =
        let small : n < 10 = ltb-true n 10 e in
        rw (digits_one most n small, value_one (digit n), digit_number n small) (omega arith)
    go false e above =
        rw (digits_more most n (ltb-false n 10 e), value_more (digits most (n / 10)) (digit (n % 10)), above, digit_number (n % 10) (omega arith)) (omega arith)

pub read_again : ReadAgain
unfolding decimal
read_again n h = read_digits 20 n (omega arith)

some_digit : (most n : ℕ) → 0 < n → n < 10 ^ most → 0 < length (digits most n)
unfolding digits
some_digit zero n h k = absurd (omega arith)
some_digit (suc most) n h k = simp length-append (omega arith)

first_digit : (most n : ℕ) → 0 < n → n < 10 ^ most → get_or (digits most n) 0 0 ≡ 0x30 → ⊥
first_digit zero n h k z = omega arith
first_digit (suc most) n h k z =
    let whole : 10 ^ suc most ≡ 10 ^ most * 10 = pow-suc 10 most in
    go (ltb n 10) refl (λ many. first_digit most (n / 10) (omega arith) (omega arith))
  where
    go : (b : Bool) → ltb n 10 ≡ b → (10 ≤ n → get_or (digits most (n / 10)) 0 0 ≡ 0x30 → ⊥) → ⊥
    go true e f =
        let small : n < 10 = ltb-true n 10 e in
        let one : digit n ≡ 0x30 = rw (digits_one most n small) at z in
        omega (arith, digit_number n small)
    go false e f =
        let many : 10 ≤ n = ltb-false n 10 e in
        let whole : 10 ^ suc most ≡ 10 ^ most * 10 = pow-suc 10 most in
        let some : 0 < length (digits most (n / 10)) = some_digit most (n / 10) (omega arith) (omega arith) in
        f many (rw (digits_more most n many, get_or-append (digits most (n / 10)) (digit (n % 10) ∷ []) 0 0 some) at z)

pub no_zero_in_front : NoZeroInFront
unfolding decimal
no_zero_in_front n h z = go n h z
  where
    go : (k : ℕ) → k < 2 ^ 64 → get_or (digits 20 k) 0 0 ≡ 0x30 → k ≡ 0
    go zero h z = refl
    go (suc k) h z = absurd (first_digit 20 (suc k) (omega arith) (omega arith) z)
