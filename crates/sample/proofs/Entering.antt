-- A pair put in its place in an ascending list: what the list then holds, and that it ascends.
use mathlib.Core.Path.{◌≡◌, refl, sym, ap, ◌∙◌}
use mathlib.Core.Logic.{◌⊎◌, inl, inr}
use mathlib.Core.List.Memᴰ
use mathlib.Core.List.{List, [], ◌∷◌, Memᴰ}
use Prim.Native.Nat.{ℕ, zero, suc}
use native.Mathlib.Omega.{arith}
use lib.ListN.{take}
use lib.Seq.{take-take}
use Rattle.std.specs.declared.cmp.Ordering.{Ordering}
use Rattle.std.specs.declared.cmp.Ordering.TheVariants.{Less, Equal, Greater}
use Rattle.std.specs.Ordering.{ordering_reverse}
use Rattle.octets.specs.Order.{byte_order}
use Rattle.octets.proofs.Ordered.{order_self, same_equal, order_turned, less_trans, less_not_same}
use Rattle.sample.specs.Sample.{standing, entered, Ascending}

-- ---- the order of pairs

pub more_less : (p q : List ℕ) → byte_order p q ≡ Greater → byte_order q p ≡ Less
more_less p q e = order_turned p q ∙ ap ordering_reverse e

pub less_not_self : (p : List ℕ) → byte_order p p ≡ Less → ⊥
less_not_self p e = less_not_same (sym e ∙ order_self p)

pub less_not_less : (p q : List ℕ) → byte_order p q ≡ Less → byte_order q p ≡ Less → ⊥
less_not_less p q e f = less_not_self p (less_trans p q p e f)

-- ---- members

pub entered_has : (p : List ℕ) (l : List (List ℕ)) → Memᴰ p (entered p l)
unfolding entered
entered_has p [] = Memᴰ.head refl
entered_has p (q ∷ l) = go (byte_order p q) refl (entered_has p l)
  where
    go : (o : Ordering) → byte_order p q ≡ o → Memᴰ p (entered p l) → Memᴰ p (standing o p q l (entered p l))
    go Less e further = Memᴰ.head refl
    go Equal e further = Memᴰ.head (same_equal p q e)
    go Greater e further = Memᴰ.tail further

pub entered_keeps : (p : List ℕ) (l : List (List ℕ)) (r : List ℕ) → Memᴰ r l → Memᴰ r (entered p l)
unfolding entered
entered_keeps p [] r m = absurd (Memᴰ.not-nil m)
entered_keeps p (q ∷ l) r m = go (byte_order p q) (Memᴰ.cases_cons m) (λ k. entered_keeps p l r k)
  where
    go : (o : Ordering) → (r ≡ q) ⊎ Memᴰ r l → (Memᴰ r l → Memᴰ r (entered p l)) → Memᴰ r (standing o p q l (entered p l))
    go Less k further = Memᴰ.tail m
    go Equal k further = m
    go Greater (inl e) further = Memᴰ.head e
    go Greater (inr k) further = Memᴰ.tail (further k)

pub entered_from : (p : List ℕ) (l : List (List ℕ)) (r : List ℕ) → Memᴰ r (entered p l) → (r ≡ p) ⊎ Memᴰ r l
unfolding entered
entered_from p [] r m = Memᴰ.cases_cons m
entered_from p (q ∷ l) r m = go (byte_order p q) m (λ k. entered_from p l r k)
  where
    up : (r ≡ p) ⊎ Memᴰ r l → (r ≡ p) ⊎ Memᴰ r (q ∷ l)
    up (inl e) = inl e
    up (inr k) = inr (Memᴰ.tail k)

    later : (Memᴰ r (entered p l) → (r ≡ p) ⊎ Memᴰ r l) → (r ≡ q) ⊎ Memᴰ r (entered p l) → (r ≡ p) ⊎ Memᴰ r (q ∷ l)
    later further (inl e) = inr (Memᴰ.head e)
    later further (inr k) = up (further k)

    go : (o : Ordering) → Memᴰ r (standing o p q l (entered p l)) → (Memᴰ r (entered p l) → (r ≡ p) ⊎ Memᴰ r l) → (r ≡ p) ⊎ Memᴰ r (q ∷ l)
    go Less k further = Memᴰ.cases_cons k
    go Equal k further = inr k
    go Greater k further = later further (Memᴰ.cases_cons k)

-- ---- order

pub ascending_nil : Ascending []
unfolding Ascending
ascending_nil = tt

abbrev pub Below : List ℕ → List (List ℕ) → Type 0
Below p l = (q : List ℕ) → Memᴰ q l → byte_order p q ≡ Less

pub ascending_cons : (p : List ℕ) (l : List (List ℕ)) → Below p l → Ascending l → Ascending (p ∷ l)
unfolding Ascending
ascending_cons p l b a = (b, a)

pub ascending_head : (p : List ℕ) (l : List (List ℕ)) → Ascending (p ∷ l) → Below p l
unfolding Ascending
ascending_head p l a = a.0

pub ascending_tail : (p : List ℕ) (l : List (List ℕ)) → Ascending (p ∷ l) → Ascending l
unfolding Ascending
ascending_tail p l a = a.1

-- what is below the first is below all
pub below_all : (p q : List ℕ) (l : List (List ℕ)) → byte_order p q ≡ Less → Ascending (q ∷ l) → Below p (q ∷ l)
below_all p q l e a r m = go (Memᴰ.cases_cons m)
  where
    go : (r ≡ q) ⊎ Memᴰ r l → byte_order p r ≡ Less
    go (inl f) = ap (byte_order p) f ∙ e
    go (inr k) = less_trans p q r e (ascending_head q l a r k)

pub entered_ascending : (p : List ℕ) (l : List (List ℕ)) → Ascending l → Ascending (entered p l)
unfolding entered
entered_ascending p [] a = ascending_cons p [] (λ q m. absurd (Memᴰ.not-nil m)) ascending_nil
entered_ascending p (q ∷ l) a = go (byte_order p q) refl (entered_ascending p l (ascending_tail q l a))
  where
    later : byte_order q p ≡ Less → (r : List ℕ) → (r ≡ p) ⊎ Memᴰ r l → byte_order q r ≡ Less
    later e r (inl f) = ap (byte_order q) f ∙ e
    later e r (inr k) = ascending_head q l a r k

    go : (o : Ordering) → byte_order p q ≡ o → Ascending (entered p l) → Ascending (standing o p q l (entered p l))
    go Less e further = ascending_cons p (q ∷ l) (below_all p q l e a) a
    go Equal e further = a
    go Greater e further = ascending_cons q (entered p l) (λ r m. later (more_less p q e) r (entered_from p l r m)) further

-- ---- the first n

pub take_again : (n : ℕ) (q : List ℕ) (l : List (List ℕ)) → take n (q ∷ take n l) ≡ take n (q ∷ l)
take_again zero q l = refl
take_again (suc n) q l = ap (λ (t : List (List ℕ)). q ∷ t) (take-take n (suc n) l (omega arith))

-- of the first n, only the first n that were held matter
pub take_entered : (n : ℕ) (p : List ℕ) (l : List (List ℕ)) → take n (entered p (take n l)) ≡ take n (entered p l)
unfolding entered
take_entered zero p l = refl
take_entered (suc n) p [] = refl
take_entered (suc n) p (q ∷ l) = go (byte_order p q) (take_entered n p l)
  where
    go : (o : Ordering) → take n (entered p (take n l)) ≡ take n (entered p l)
        → take (suc n) (standing o p q (take n l) (entered p (take n l))) ≡ take (suc n) (standing o p q l (entered p l))
    go Less further = ap (λ (t : List (List ℕ)). p ∷ t) (take_again n q l)
    go Equal further = ap (λ (t : List (List ℕ)). q ∷ t) (take-take n n l (omega arith))
    go Greater further = ap (λ (t : List (List ℕ)). q ∷ t) further
