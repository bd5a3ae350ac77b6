-- The shared bits of two 32-byte numbers are their proximity order.
use mathlib.Core.Path.{◌≡◌, sym, ap, ◌∙◌}
use mathlib.Core.Logic.{◌⊎◌, inl, inr}
use mathlib.Core.List.{List}
use Prim.Native.Nat.{ℕ, zero, suc, ◌-◌, ◌*◌, ◌^◌, ◌≤◌, ◌<◌}
use native.Mathlib.Nat.{pos_of_ne-zero, mul-le-mul_left, mul-le-mul_right, mul-lt-mul_of_pos_left, le_antisymm, lt_irrefl}
use native.Mathlib.Decide.{dec_lt}
use native.Mathlib.Omega.{arith}
use lib.Bits.{bit_xor, xor_self, xor_lt, xor_add_and, and_le_l, and_le_r}
use lib.Pow.{pow-add, pow_pos, pow_mono}
use lib.Count.{count_leading_zeros, leading_of_zero, leading_top}
use lib.ListN.{length}
use Rattle.octets.specs.Bytes.{Bytes}
use Rattle.octets.specs.Number.{big}
use Rattle.octets.proofs.Numbers.{big_injective}
use Rattle.octets.proofs.Ordered.{compared}
use Rattle.nearness.specs.Bits.{shared_bits}
use Rattle.nearness.specs.Proximity.{distance, furthest, WholeLog, ProximityOrder}
use Rattle.nearness.proofs.Words.{number_lt, shared_zeros}

-- numbers whose xor is 0 are equal
xor_apart : (x y : ℕ) → bit_xor x y ≡ zero → x ≡ y
xor_apart x y e = omega (arith, xor_add_and x y, and_le_l x y, and_le_r x y)

-- the zeros above a number of d digits are the whole part of the logarithm of (2 ^ d - 1) / the number
zeros_log : (d z : ℕ) → zero < z → z < 2 ^ d → WholeLog (2 ^ d - 1) z (count_leading_zeros d z)
zeros_log d z h b =
    let top = leading_top d z h b in
    let p = count_leading_zeros d z in
    let j = top.0 in
    let whole : 2 ^ p * 2 ^ suc j ≡ 2 ^ d = sym (pow-add 2 p (suc j)) ∙ ap (λ (k : ℕ). 2 ^ k) top.1 in
    let next : 2 ^ suc p * 2 ^ j ≡ 2 ^ d = sym (pow-add 2 (suc p) j) ∙ ap (λ (k : ℕ). 2 ^ k) (omega (arith, top.1)) in
    let low : 2 ^ p * z < 2 ^ p * 2 ^ suc j = mul-lt-mul_of_pos_left top.3 (pow_pos p) in
    let high : 2 ^ suc p * 2 ^ j ≤ 2 ^ suc p * z = mul-le-mul_left (2 ^ suc p) top.2 in
    record { reached = omega (arith, whole); next_not = omega (arith, next, pow_pos d) }

-- a logarithm has one whole part
log_le : (t b p q : ℕ) → WholeLog t b p → WholeLog t b q → p ≤ q
log_le t b p q hp hq = go (dec_lt q p)
  where
    go : Dec (q < p) → p ≤ q
    go (yes h) = let over : 2 ^ suc q * b ≤ 2 ^ p * b = mul-le-mul_right b (pow_mono h) in absurd (omega (arith, hp.reached, hq.next_not))
    go (no h) = omega arith

module _ (x y : List ℕ) (hx : Bytes x) (hy : Bytes y) (ex : length x ≡ 32) (ey : length y ≡ 32) where
  zeros : shared_bits x y ≡ count_leading_zeros 256 (distance x y)
  zeros = shared_zeros x y hx hy (ex ∙ sym ey) ∙ ap (λ (n : ℕ). count_leading_zeros (8 * n) (distance x y)) ex

  -- the shared bits of two 32-byte numbers are their proximity order
  pub definition_6 : ProximityOrder x y (shared_bits x y)
  definition_6 =
      let lx : big x < 2 ^ 256 = rw ex at (number_lt x hx) in
      let ly : big y < 2 ^ 256 = rw ey at (number_lt y hy) in
      record {
        equal = λ e. zeros ∙ ap (count_leading_zeros 256) (ap (λ (l : List ℕ). distance l y) e ∙ xor_self (big y)) ∙ leading_of_zero 256;
        otherwise = λ n.
            rw zeros
            (zeros_log 256 (distance x y) (pos_of_ne-zero (λ z. n (big_injective x y (ex ∙ sym ey) hx hy (xor_apart (big x) (big y) z))))
            (xor_lt 256 (big x) (big y) lx ly));
      }

  -- and no other number is
  pub definition_6_only : (p : ℕ) → ProximityOrder x y p → p ≡ shared_bits x y
  definition_6_only p h = go (compared (big x) (big y))
    where
      apart : (x ≡ y → ⊥) → p ≡ shared_bits x y
      apart n = le_antisymm (log_le furthest (distance x y) p (shared_bits x y) (h.otherwise n) (definition_6.otherwise n)) (log_le furthest (distance x y) (shared_bits x y) p (definition_6.otherwise n) (h.otherwise n))

      go : (big x < big y) ⊎ ((big x ≡ big y) ⊎ (big y < big x)) → p ≡ shared_bits x y
      go (inl k) = apart (λ e. lt_irrefl (big y) (rw e at k))
      go (inr (inr k)) = apart (λ e. lt_irrefl (big y) (rw e at k))
      go (inr (inl k)) = let e = big_injective x y (ex ∙ sym ey) hx hy k in h.equal e ∙ sym (definition_6.equal e)
