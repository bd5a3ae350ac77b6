-- How two numbers stand to each other, as cases to match on: a test in a definition is then met by a fact.
use Prim.Native.Nat.{ℕ, suc, ◌≤◌, ◌<◌}
use native.Mathlib.Omega.{arith}
use mathlib.Core.Path.{◌≡◌, refl, subst}
use mathlib.Core.Bool.{Bool, true, false}
use lib.Dec.{leb, ltb}
use borrow.Author.Tests.{ltb-true, ltb-false, leb-true, leb-false}

pub data Side (m n : ℕ) : Type 0 where
  below : m < n → Side m n
  level : m ≡ n → Side m n
  above : n < m → Side m n

pub side : (m n : ℕ) → Side m n
side m n = go (ltb m n) (ltb n m) refl refl
  where
    go : (p q : Bool) → ltb m n ≡ p → ltb n m ≡ q → Side m n
    go true q e f = below (ltb-true m n e)
    go false true e f = above (ltb-true n m f)
    go false false e f = let h : n ≤ m = ltb-false m n e in let k : m ≤ n = ltb-false n m f in level (omega arith)

pub data Limit (m n : ℕ) : Type 0 where
  within : m ≤ n → Limit m n
  beyond : n < m → Limit m n

pub limit : (m n : ℕ) → Limit m n
limit m n = go (leb m n) refl
  where
    go : (t : Bool) → leb m n ≡ t → Limit m n
    go true e = within (leb-true m n e)
    go false e = beyond (leb-false m n e)

pub true_false : true ≡ false → ⊥
true_false e = let z : ◌≡◌ {A = ℕ} 0 1 = cc in omega arith

pub not_true : (t : Bool) → (t ≡ true → ⊥) → t ≡ false
not_true true f = absurd (f refl)
not_true false f = refl

-- a fact at s, and from the next on
pub from_next : (P : ℕ → Type 0) (s : ℕ) → P s → (c : ℕ) → s ≤ c → (suc s ≤ c → P c) → P c
from_next P s p c q k = go (side s c)
  where
    go : Side s c → P c
    go (below h) = k h
    go (level e) = subst P e p
    go (above h) = absurd (omega arith)
