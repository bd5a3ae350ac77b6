-- The byte order is a strict total order, and on strings of one length the order of their numbers.
use mathlib.Core.Path.{◌≡◌, refl, sym, ap, ◌∙◌}
use mathlib.Core.Bool.{true, false≢true}
use mathlib.Core.Logic.{◌⊎◌, inl, inr}
use mathlib.Core.List.{List, [], ◌∷◌, ◌++◌}
use Prim.Native.Nat.{ℕ, suc, ◌+◌, ◌*◌, ◌^◌, ◌≤◌, ◌<◌}
use native.Mathlib.Nat.{suc_inj, le_refl, le_of_lt, mul-le-mul_right, suc-mul}
use native.Mathlib.Decide.{dec_lt}
use native.Mathlib.Omega.{arith}
use lib.ListN.{length, take, drop, take-append-drop}
use borrow.Author.Tests.{le-ltb, lt-ltb, eq-eqb, ne_eqb}
use Rattle.std.specs.declared.cmp.Ordering.{Ordering}
use Rattle.std.specs.declared.cmp.Ordering.TheVariants.{Less, Equal, Greater}
use Rattle.std.specs.Ordering.{ordering_then, ordering_reverse, is_lt, is_eq, nat_cmp}
use Rattle.std.specs.Cmp.Lexicographic.{slice_cmp}
use Rattle.octets.specs.Bytes.{Bytes}
use Rattle.octets.specs.Order.{number_order, byte_order}
use Rattle.octets.specs.Number.{big}
use Rattle.octets.proofs.Numbers.{big_lt, big_cons}

-- the three answers differ

pub less_not_same : Less ≡ Equal → ⊥
less_not_same e = let z : ◌≡◌ {A = ℕ} 0 1 = cc in omega arith

pub less_not_more : Less ≡ Greater → ⊥
less_not_more e = let z : ◌≡◌ {A = ℕ} 0 1 = cc in omega arith

pub more_not_same : Greater ≡ Equal → ⊥
more_not_same e = let z : ◌≡◌ {A = ℕ} 0 1 = cc in omega arith

-- and a test for one of them tells it

pub is_less_lem : (o : Ordering) → is_lt o ≡ true → o ≡ Less
is_less_lem Less e = refl
is_less_lem Equal e = absurd (false≢true e)
is_less_lem Greater e = absurd (false≢true e)

pub is_same_lem : (o : Ordering) → is_eq o ≡ true → o ≡ Equal
is_same_lem Less e = absurd (false≢true e)
is_same_lem Equal e = refl
is_same_lem Greater e = absurd (false≢true e)

-- numbers

pub compared : (x y : ℕ) → (x < y) ⊎ ((x ≡ y) ⊎ (y < x))
compared x y = go (dec_lt x y) (dec_lt y x)
  where
    go : Dec (x < y) → Dec (y < x) → (x < y) ⊎ ((x ≡ y) ⊎ (y < x))
    go (yes h) d = inl h
    go (no h) (yes k) = inr (inr k)
    go (no h) (no k) = inr (inl (omega arith))

module _ (x y : ℕ) where
  pub number_less : x < y → number_order x y ≡ Less
  number_less h = rw (lt-ltb x y h)

  pub number_same : x ≡ y → number_order x y ≡ Equal
  number_same e = rw (e, le-ltb y y (le_refl y))

  pub number_more : y < x → number_order x y ≡ Greater
  number_more h = rw (le-ltb x y (le_of_lt h), lt-ltb y x h)

  pub less_number : number_order x y ≡ Less → x < y
  less_number e = go (compared x y)
    where
      go : (x < y) ⊎ ((x ≡ y) ⊎ (y < x)) → x < y
      go (inl h) = h
      go (inr (inl h)) = absurd (less_not_same (sym e ∙ number_same h))
      go (inr (inr h)) = absurd (less_not_more (sym e ∙ number_more h))

  pub same_number : number_order x y ≡ Equal → x ≡ y
  same_number e = go (compared x y)
    where
      go : (x < y) ⊎ ((x ≡ y) ⊎ (y < x)) → x ≡ y
      go (inl h) = absurd (less_not_same (sym (number_less h) ∙ e))
      go (inr (inl h)) = h
      go (inr (inr h)) = absurd (more_not_same (sym (number_more h) ∙ e))

pub number_turned : (x y : ℕ) → number_order y x ≡ ordering_reverse (number_order x y)
number_turned x y = go (compared x y)
  where
    go : (x < y) ⊎ ((x ≡ y) ⊎ (y < x)) → number_order y x ≡ ordering_reverse (number_order x y)
    go (inl h) = number_more y x h ∙ ap ordering_reverse (sym (number_less x y h))
    go (inr (inl h)) = number_same y x (sym h) ∙ ap ordering_reverse (sym (number_same x y h))
    go (inr (inr h)) = number_less y x h ∙ ap ordering_reverse (sym (number_more x y h))

pub number_add : (c x y : ℕ) → number_order (c + x) (c + y) ≡ number_order x y
number_add c x y = go (compared x y)
  where
    go : (x < y) ⊎ ((x ≡ y) ⊎ (y < x)) → number_order (c + x) (c + y) ≡ number_order x y
    go (inl h) = number_less (c + x) (c + y) (omega arith) ∙ sym (number_less x y h)
    go (inr (inl h)) = number_same (c + x) (c + y) (omega arith) ∙ sym (number_same x y h)
    go (inr (inr h)) = number_more (c + x) (c + y) (omega arith) ∙ sym (number_more x y h)

-- std compares numbers and strings in the same order

number_is_std : (x y : ℕ) → nat_cmp x y ≡ number_order x y
number_is_std x y = go (compared x y)
  where
    go : (x < y) ⊎ ((x ≡ y) ⊎ (y < x)) → nat_cmp x y ≡ number_order x y
    go (inl h) = rw (lt-ltb x y h)
    go (inr (inl h)) = rw (h, le-ltb y y (le_refl y), eq-eqb y y refl)
    go (inr (inr h)) = let n : x ≡ y → ⊥ = omega arith in rw (le-ltb x y (le_of_lt h), lt-ltb y x h, ne_eqb x y n)

pub order_is_std : (a b : List ℕ) → slice_cmp nat_cmp a b ≡ byte_order a b
unfolding byte_order
order_is_std [] [] = refl
order_is_std [] (y ∷ b) = refl
order_is_std (x ∷ a) [] = refl
order_is_std (x ∷ a) (y ∷ b) = rw (number_is_std x y, order_is_std a b)

-- one order after another

pub then_less : (o p : Ordering) → ordering_then o p ≡ Less → (o ≡ Less) ⊎ ((o ≡ Equal) × (p ≡ Less))
then_less Less p e = inl refl
then_less Equal p e = inr (refl, e)
then_less Greater p e = absurd (less_not_more (sym e))

pub then_same : (o p : Ordering) → ordering_then o p ≡ Equal → (o ≡ Equal) × (p ≡ Equal)
then_same Less p e = absurd (less_not_same e)
then_same Equal p e = (refl, e)
then_same Greater p e = absurd (more_not_same e)

pub then_turned : (o p : Ordering) → ordering_reverse (ordering_then o p) ≡ ordering_then (ordering_reverse o) (ordering_reverse p)
then_turned Less p = refl
then_turned Equal p = refl
then_turned Greater p = refl

pub then_then : (o p q : Ordering) → ordering_then (ordering_then o p) q ≡ ordering_then o (ordering_then p q)
then_then Less p q = refl
then_then Equal p q = refl
then_then Greater p q = refl

-- a strict total order

pub order_self : (a : List ℕ) → byte_order a a ≡ Equal
unfolding byte_order
order_self [] = refl
order_self (x ∷ a) = rw (number_same x x refl, order_self a)

pub same_equal : (a b : List ℕ) → byte_order a b ≡ Equal → a ≡ b
unfolding byte_order
same_equal [] [] e = refl
same_equal [] (y ∷ b) e = absurd (less_not_same e)
same_equal (x ∷ a) [] e = absurd (more_not_same e)
same_equal (x ∷ a) (y ∷ b) e =
    let both = then_same (number_order x y) (byte_order a b) e in
    λ k. same_number x y both.0 k ∷ same_equal a b both.1 k

pub order_turned : (a b : List ℕ) → byte_order b a ≡ ordering_reverse (byte_order a b)
unfolding byte_order
order_turned [] [] = refl
order_turned [] (y ∷ b) = refl
order_turned (x ∷ a) [] = refl
order_turned (x ∷ a) (y ∷ b) = rw (number_turned x y, order_turned a b, then_turned)

pub less_trans : (a b c : List ℕ) → byte_order a b ≡ Less → byte_order b c ≡ Less → byte_order a c ≡ Less
unfolding byte_order
less_trans [] [] c e f = absurd (less_not_same (sym e))
less_trans [] (y ∷ b) [] e f = absurd (less_not_more (sym f))
less_trans [] (y ∷ b) (z ∷ c) e f = refl
less_trans (x ∷ a) [] c e f = absurd (less_not_more (sym e))
less_trans (x ∷ a) (y ∷ b) [] e f = absurd (less_not_more (sym f))
less_trans (x ∷ a) (y ∷ b) (z ∷ c) e f =
    go (then_less (number_order x y) (byte_order a b) e) (then_less (number_order y z) (byte_order b c) f) (less_trans a b c)
  where
    go : (number_order x y ≡ Less) ⊎ ((number_order x y ≡ Equal) × (byte_order a b ≡ Less))
        → (number_order y z ≡ Less) ⊎ ((number_order y z ≡ Equal) × (byte_order b c ≡ Less))
        → (byte_order a b ≡ Less → byte_order b c ≡ Less → byte_order a c ≡ Less)
        → ordering_then (number_order x z) (byte_order a c) ≡ Less
    go (inl h) (inl k) rest = rw (number_less x z (omega (arith, less_number x y h, less_number y z k)))
    go (inl h) (inr k) rest = rw (number_less x z (omega (arith, less_number x y h, same_number y z k.0)))
    go (inr h) (inl k) rest = rw (number_less x z (omega (arith, same_number x y h.0, less_number y z k)))
    go (inr h) (inr k) rest = rw (number_same x z (same_number x y h.0 ∙ same_number y z k.0)) (rest h.1 k.1)

-- one comes first, or they are equal
pub order_total : (a b : List ℕ) → (byte_order a b ≡ Less) ⊎ ((a ≡ b) ⊎ (byte_order b a ≡ Less))
order_total a b = go (byte_order a b) refl
  where
    go : (o : Ordering) → byte_order a b ≡ o → (byte_order a b ≡ Less) ⊎ ((a ≡ b) ⊎ (byte_order b a ≡ Less))
    go Less e = inl e
    go Equal e = inr (inl (same_equal a b e))
    go Greater e = inr (inr (order_turned a b ∙ ap ordering_reverse e))

-- joined strings, and their numbers

pub order_append : (xs ys s t : List ℕ) → length xs ≡ length ys → byte_order (xs ++ s) (ys ++ t) ≡ ordering_then (byte_order xs ys) (byte_order s t)
unfolding byte_order
order_append [] [] s t e = refl
order_append [] (y ∷ ys) s t e = absurd (omega arith)
order_append (x ∷ xs) [] s t e = absurd (omega arith)
order_append (x ∷ xs) (y ∷ ys) s t e = rw (order_append xs ys s t (suc_inj e), then_then)

-- where both are equal so far, the rest decides
pub order_rest : (a b : List ℕ) (i : ℕ) → take i a ≡ take i b → byte_order a b ≡ byte_order (drop i a) (drop i b)
order_rest a b i e =
    (λ k. byte_order (sym (take-append-drop i a) k) (sym (take-append-drop i b) k))
    ∙ order_append (take i a) (take i b) (drop i a) (drop i b) (ap length e)
    ∙ rw (e, order_self (take i b))

-- what stands above decides
above : (x y : ℕ) (xs ys : List ℕ) → length xs ≡ length ys → Bytes xs → x < y → big (x ∷ xs) < big (y ∷ ys)
above x y xs ys e hx h =
    let p = 256 ^ length xs in
    let q : 256 ^ length ys ≡ p = ap (λ (n : ℕ). 256 ^ n) (sym e) in
    let high : suc x * p ≤ y * p = mul-le-mul_right p h in
    let one : suc x * p ≡ x * p + p = suc-mul x p in
    rw (big_cons x xs, big_cons y ys, q) (omega (arith, big_lt xs hx))

-- strings of one length stand as their numbers do
pub order_number : (xs ys : List ℕ) → length xs ≡ length ys → Bytes xs → Bytes ys → byte_order xs ys ≡ number_order (big xs) (big ys)
unfolding byte_order
order_number [] [] e hx hy = sym (number_same (big []) (big []) refl)
order_number [] (y ∷ ys) e hx hy = absurd (omega arith)
order_number (x ∷ xs) [] e hx hy = absurd (omega arith)
order_number (x ∷ xs) (y ∷ ys) e hx hy = go (compared x y) (order_number xs ys (suc_inj e) hx.1 hy.1)
  where
    go : (x < y) ⊎ ((x ≡ y) ⊎ (y < x)) → byte_order xs ys ≡ number_order (big xs) (big ys)
        → ordering_then (number_order x y) (byte_order xs ys) ≡ number_order (big (x ∷ xs)) (big (y ∷ ys))
    go (inl h) rest = rw (number_less x y h, number_less _ _ (above x y xs ys (suc_inj e) hx.1 h))
    go (inr (inr h)) rest = rw (number_more x y h, number_more _ _ (above y x ys xs (sym (suc_inj e)) hy.1 h))
    go (inr (inl h)) rest =
        let high : x * 256 ^ length xs ≡ y * 256 ^ length ys = λ k. h k * 256 ^ suc_inj e k in
        rw (number_same x y h, rest, big_cons x xs, big_cons y ys, high) (sym (number_add (y * 256 ^ length ys) (big xs) (big ys)))
