-- A round by its rows, and a round a turn of the loop.
use mathlib.Core.Path.{◌≡◌, refl, ap, ap₂, ◌∙◌, sym}
use mathlib.Core.List.{List, [], ◌∷◌}
use Prim.Native.Nat.{ℕ, zero, suc, ◌+◌, ◌*◌, ◌/◌, ◌%◌, ◌^◌, ◌<◌}
use native.Mathlib.Omega.{arith}
use native.Mathlib.Numerals.{add-one}
use lib.Bits.{bit_xor, bit_or, bit_and, or_self}
use lib.ListN.{get_or, length}
use Rattle.std.specs.Int.{w64, rotate_left}
use Rattle.tables.specs.Rules.{RC, offsets}
use Rattle.permutation.specs.Lanes.{lane, complement}
use Rattle.permutation.specs.Steps.{D, rho, pi, chi, iota}
use Rattle.permutation.specs.Permutation.{once, rounds, permute}
use Rattle.permutation.specs.Rows.{row, mixed}

-- the lanes of a state by its rows, the first with rc xored in
abbrev pub joined : (p q r s t : List ℕ) (rc : ℕ) → List ℕ
joined p q r s t rc =
    bit_xor (get_or p 0 0) rc ∷ get_or p 1 0 ∷ get_or p 2 0 ∷ get_or p 3 0 ∷ get_or p 4 0
    ∷ get_or q 0 0 ∷ get_or q 1 0 ∷ get_or q 2 0 ∷ get_or q 3 0 ∷ get_or q 4 0
    ∷ get_or r 0 0 ∷ get_or r 1 0 ∷ get_or r 2 0 ∷ get_or r 3 0 ∷ get_or r 4 0
    ∷ get_or s 0 0 ∷ get_or s 1 0 ∷ get_or s 2 0 ∷ get_or s 3 0 ∷ get_or s 4 0
    ∷ get_or t 0 0 ∷ get_or t 1 0 ∷ get_or t 2 0 ∷ get_or t 3 0 ∷ get_or t 4 0 ∷ []

joined_chi : (b : List ℕ) (rc : ℕ) → joined (row 0 (chi b)) (row 1 (chi b)) (row 2 (chi b)) (row 3 (chi b)) (row 4 (chi b)) rc ≡ iota rc (chi b)
joined_chi b rc = refl

-- what holds at 0 to 4 holds at each number below 5
five : (P : ℕ → Type 0) → P 0 → P 1 → P 2 → P 3 → P 4 → (k : ℕ) → k < 5 → P k
five P a b c d e zero h = a
five P a b c d e (suc zero) h = b
five P a b c d e (suc (suc zero)) h = c
five P a b c d e (suc (suc (suc zero))) h = d
five P a b c d e (suc (suc (suc (suc zero)))) h = e
five P a b c d e (suc (suc (suc (suc (suc k))))) h = absurd (omega arith)

-- the lane that pi brings to (x, y), as the code takes it
abbrev pub brought : List ℕ → List ℕ → ℕ → ℕ → ℕ
brought a d x y = let from = (x + 3 * y) % 5 in bit_xor (get_or a (from + 5 * x) 0) (get_or d from 0)

abbrev pub turned_by : ℕ → ℕ → ℕ
turned_by x y = get_or offsets ((x + 3 * y) % 5 + 5 * x) 0

-- no turn leaves a word as it is
unturned : (w : ℕ) → w < 2 ^ 64 → rotate_left w64 w 0 ≡ w
unturned w h =
    let low : w * 2 ^ 0 % 2 ^ 64 ≡ w = omega arith in
    let high : w / 2 ^ 0 ≡ w = omega arith in
    ap₂ bit_or low high ∙ or_self w

abbrev Turned : List ℕ → List ℕ → ℕ → ℕ → Type 0
Turned a d x y = brought a d x y < 2 ^ 64 → rotate_left w64 (brought a d x y) (turned_by x y) ≡ lane (pi (rho (mixed a d))) x y

pub turned_lane : (a d : List ℕ) (x y : ℕ) → x < 5 → y < 5 → Turned a d x y
turned_lane a d x y hx hy =
    let P = Turned a d in
    five (λ x. (y : ℕ) → y < 5 → P x y)
    (five (P 0) (unturned (brought a d 0 0)) (λ f. refl) (λ f. refl) (λ f. refl) (λ f. refl))
    (five (P 1) (λ f. refl) (λ f. refl) (λ f. refl) (λ f. refl) (λ f. refl))
    (five (P 2) (λ f. refl) (λ f. refl) (λ f. refl) (λ f. refl) (λ f. refl))
    (five (P 3) (λ f. refl) (λ f. refl) (λ f. refl) (λ f. refl) (λ f. refl))
    (five (P 4) (λ f. refl) (λ f. refl) (λ f. refl) (λ f. refl) (λ f. refl))
    x hx y hy

-- chi of a row, from the row's five lanes
abbrev pub chi_of : (b0 b1 b2 b3 b4 : ℕ) → List ℕ
chi_of b0 b1 b2 b3 b4 =
    bit_xor b0 (bit_and (complement b1) b2) ∷ bit_xor b1 (bit_and (complement b2) b3) ∷ bit_xor b2 (bit_and (complement b3) b4)
    ∷ bit_xor b3 (bit_and (complement b4) b0) ∷ bit_xor b4 (bit_and (complement b0) b1) ∷ []

pub row_is : (b : List ℕ) (y : ℕ) → y < 5 → (b0 b1 b2 b3 b4 : ℕ) → b0 ≡ lane b 0 y → b1 ≡ lane b 1 y → b2 ≡ lane b 2 y → b3 ≡ lane b 3 y → b4 ≡ lane b 4 y
    → chi_of b0 b1 b2 b3 b4 ≡ row y (chi b)
row_is b y h b0 b1 b2 b3 b4 e0 e1 e2 e3 e4 =
    (λ i. chi_of (e0 i) (e1 i) (e2 i) (e3 i) (e4 i))
    ∙ five (λ y. chi_of (lane b 0 y) (lane b 1 y) (lane b 2 y) (lane b 3 y) (lane b 4 y) ≡ row y (chi b)) refl refl refl refl refl y h

module _ (a d p q r s t : List ℕ) (rc : ℕ) where
  abbrev turned : List ℕ
  turned = pi (rho (mixed a d))

  -- the five rows, joined, are the round
  pub by_rows : d ≡ D a → p ≡ row 0 (chi turned) → q ≡ row 1 (chi turned) → r ≡ row 2 (chi turned) → s ≡ row 3 (chi turned) → t ≡ row 4 (chi turned)
      → joined p q r s t rc ≡ once rc a
  unfolding once
  by_rows ed ep eq er es et =
      ap (λ (x : List ℕ). joined x q r s t rc) ep
      ∙ ap (λ (x : List ℕ). joined (row 0 (chi turned)) x r s t rc) eq
      ∙ ap (λ (x : List ℕ). joined (row 0 (chi turned)) (row 1 (chi turned)) x s t rc) er
      ∙ ap (λ (x : List ℕ). joined (row 0 (chi turned)) (row 1 (chi turned)) (row 2 (chi turned)) x t rc) es
      ∙ ap (λ (x : List ℕ). joined (row 0 (chi turned)) (row 1 (chi turned)) (row 2 (chi turned)) (row 3 (chi turned)) x rc) et
      ∙ joined_chi turned rc
      ∙ ap (λ (x : List ℕ). iota rc (chi (pi (rho (mixed a x))))) ed

-- a turn of the loop
pub one_more : (i rc : ℕ) (start a b : List ℕ) → rc ≡ RC i → a ≡ rounds i start → b ≡ once rc a → b ≡ rounds (i + 1) start
unfolding rounds
one_more i rc start a b e ea eb = eb ∙ ap₂ once e ea ∙ ap (λ (n : ℕ). rounds n start) (sym (add-one i))

pub permute_length : (a : List ℕ) → length (permute a) ≡ 25
unfolding permute rounds once
permute_length a = refl
