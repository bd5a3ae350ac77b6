-- Laws of shared bits that the book stands on.
use mathlib.Core.Path.{◌≡◌, refl, sym, ap, ◌∙◌}
use mathlib.Core.Bool.{Bool, true, false, cond}
use mathlib.Core.List.{List, [], ◌∷◌}
use Prim.Native.Nat.{ℕ, zero, suc, ◌+◌, ◌*◌, ◌≤◌, min}
use native.Mathlib.Nat.{zero-min, min-zero, suc-min-suc}
use native.Mathlib.Omega.{arith}
use lib.Dec.{eqb}
use lib.ListN.{length, take, length-append}
use lib.Seq.{take-append-add, take-nil}
use borrow.Author.Tests.{eq-eqb, ne_eqb, eqb-true, eqb-false}
use Rattle.nearness.specs.Bits.{bits, bits_of, leading_equal, shared_bits}
use Rattle.nearness.proofs.Leading.{length_bits}

eqb_turned : (x y : ℕ) → eqb x y ≡ eqb y x
eqb_turned x y = go (eqb x y) refl
  where
    go : (b : Bool) → eqb x y ≡ b → eqb x y ≡ eqb y x
    go true e = e ∙ sym (eq-eqb y x (sym (eqb-true x y e)))
    go false e = e ∙ sym (ne_eqb y x (λ h. eqb-false x y e (sym h)))

equal_turned : (xs ys : List ℕ) → leading_equal xs ys ≡ leading_equal ys xs
unfolding leading_equal
equal_turned [] [] = refl
equal_turned [] (y ∷ ys) = refl
equal_turned (x ∷ xs) [] = refl
equal_turned (x ∷ xs) (y ∷ ys) = λ k. cond (eqb_turned x y k) (suc (equal_turned xs ys k)) 0

pub shared_bits_symmetric : (a b : List ℕ) → shared_bits a b ≡ shared_bits b a
unfolding shared_bits
shared_bits_symmetric a b = equal_turned (bits_of a) (bits_of b)

equal_most : (xs ys : List ℕ) → leading_equal xs ys ≤ length xs
unfolding leading_equal
equal_most [] ys = omega arith
equal_most (x ∷ xs) [] = omega arith
equal_most (x ∷ xs) (y ∷ ys) = go (eqb x y) (equal_most xs ys)
  where
    go : (b : Bool) → leading_equal xs ys ≤ length xs → cond b (suc (leading_equal xs ys)) 0 ≤ suc (length xs)
    go true h = omega arith
    go false h = omega arith

pub length_bits_of : (a : List ℕ) → length (bits_of a) ≡ 8 * length a
unfolding bits_of
length_bits_of [] = refl
length_bits_of (x ∷ a) = simp length-append (omega (arith, length_bits 8 x, length_bits_of a))

pub shared_bits_most : (a b : List ℕ) → shared_bits a b ≤ 8 * length a
unfolding shared_bits
shared_bits_most a b = omega (arith, equal_most (bits_of a) (bits_of b), length_bits_of a)

-- of the first n of each, as many are shared as of all, but at most n
equal_take : (n : ℕ) (xs ys : List ℕ) → leading_equal (take n xs) (take n ys) ≡ min n (leading_equal xs ys)
unfolding leading_equal
equal_take zero xs ys = sym (zero-min _)
equal_take (suc n) [] ys = sym (min-zero (suc n))
equal_take (suc n) (x ∷ xs) [] = sym (min-zero (suc n))
equal_take (suc n) (x ∷ xs) (y ∷ ys) = go (eqb x y) (equal_take n xs ys)
  where
    go : (b : Bool) → leading_equal (take n xs) (take n ys) ≡ min n (leading_equal xs ys)
        → cond b (suc (leading_equal (take n xs) (take n ys))) 0 ≡ min (suc n) (cond b (suc (leading_equal xs ys)) 0)
    go true h = ap suc h ∙ sym (suc-min-suc n (leading_equal xs ys))
    go false h = sym (min-zero (suc n))

bits_take : (n : ℕ) (a : List ℕ) → bits_of (take n a) ≡ take (8 * n) (bits_of a)
unfolding bits_of
bits_take zero a = refl
bits_take (suc n) [] = sym (take-nil {A = ℕ} (8 * suc n))
bits_take (suc n) (x ∷ a) =
    let e : 8 * suc n ≡ length (bits 8 x) + 8 * n = omega (arith, length_bits 8 x) in
    rw (e, take-append-add (bits 8 x) (bits_of a) (8 * n), bits_take n a)

pub shared_bits_take : (n : ℕ) (a b : List ℕ) → shared_bits (take n a) (take n b) ≡ min (8 * n) (shared_bits a b)
unfolding shared_bits
shared_bits_take n a b = rw (bits_take n a, bits_take n b) (equal_take (8 * n) (bits_of a) (bits_of b))

-- numbers with the same first 16 bits are equally near to every third, up to 16
pub same_start : (a b o : List ℕ) → take 2 a ≡ take 2 b → min 16 (shared_bits a o) ≡ min 16 (shared_bits b o)
same_start a b o e = sym (shared_bits_take 2 a o) ∙ ap (λ (l : List ℕ). shared_bits l (take 2 o)) e ∙ shared_bits_take 2 b o

-- so at a depth of at most 16 they lie inside or outside together
pub together : (a b o : List ℕ) → take 2 a ≡ take 2 b → (d : ℕ) → d ≤ 16 → d ≤ shared_bits a o → d ≤ shared_bits b o
together a b o e d h k = omega (arith, same_start a b o e)
