-- All pairs gathered, each different pair once and ascending; and the first sixteen of them.
use mathlib.Core.Path.{◌≡◌, refl, sym, ap, ◌∙◌}
use mathlib.Core.Logic.{◌⊎◌, inl, inr, ⊎_elim}
use mathlib.Core.List.Memᴰ
use mathlib.Core.List.{List, [], ◌∷◌, Memᴰ}
use Prim.Native.Nat.{ℕ, zero, suc}
use native.Mathlib.Omega.{arith}
use lib.ListN.{length, take}
use lib.Seq.{take-take}
use Rattle.octets.specs.Order.{byte_order}
use Rattle.std.specs.declared.cmp.Ordering.TheVariants.{Less}
use Rattle.sample.specs.Sample.{entered, gathered, sixteen, Ascending, SixteenSmallest}
use Rattle.sample.proofs.Entering.{entered_has, entered_keeps, entered_from, entered_ascending, ascending_nil, ascending_cons, ascending_head, ascending_tail, take_entered, less_not_self, less_not_less}

-- ---- members

pub gathered_keeps : (held l : List (List ℕ)) (r : List ℕ) → Memᴰ r held → Memᴰ r (gathered held l)
unfolding gathered
gathered_keeps held [] r m = m
gathered_keeps held (p ∷ l) r m = gathered_keeps (entered p held) l r (entered_keeps p held r m)

pub gathered_has : (held l : List (List ℕ)) (r : List ℕ) → Memᴰ r l → Memᴰ r (gathered held l)
unfolding gathered
gathered_has held [] r m = absurd (Memᴰ.not-nil m)
gathered_has held (p ∷ l) r m =
    ⊎_elim
    (λ e. gathered_keeps (entered p held) l r (Memᴰ.cast e (entered_has p held)))
    (λ k. gathered_has (entered p held) l r k)
    (Memᴰ.cases_cons m)

pub gathered_from : (held l : List (List ℕ)) (r : List ℕ) → Memᴰ r (gathered held l) → Memᴰ r held ⊎ Memᴰ r l
unfolding gathered
gathered_from held [] r m = inl m
gathered_from held (p ∷ l) r m = go (gathered_from (entered p held) l r m)
  where
    first : (r ≡ p) ⊎ Memᴰ r held → Memᴰ r held ⊎ Memᴰ r (p ∷ l)
    first (inl e) = inr (Memᴰ.head e)
    first (inr k) = inl k

    go : Memᴰ r (entered p held) ⊎ Memᴰ r l → Memᴰ r held ⊎ Memᴰ r (p ∷ l)
    go (inl k) = first (entered_from p held r k)
    go (inr k) = inr (Memᴰ.tail k)

pub all_from : (l : List (List ℕ)) (r : List ℕ) → Memᴰ r (gathered [] l) → Memᴰ r l
all_from l r m = ⊎_elim (λ k. absurd (Memᴰ.not-nil k)) (λ k. k) (gathered_from [] l r m)

-- ---- order

pub gathered_ascending : (held l : List (List ℕ)) → Ascending held → Ascending (gathered held l)
unfolding gathered
gathered_ascending held [] a = a
gathered_ascending held (p ∷ l) a = gathered_ascending (entered p held) l (entered_ascending p held a)

pub all_ascending : (l : List (List ℕ)) → Ascending (gathered [] l)
all_ascending l = gathered_ascending [] l ascending_nil

-- ---- the first n

pub take_gathered : (n : ℕ) (held l : List (List ℕ)) → take n (gathered (take n held) l) ≡ take n (gathered held l)
unfolding gathered
take_gathered n held [] = take-take n n held (omega arith)
take_gathered n held (p ∷ l) =
    sym (take_gathered n (entered p (take n held)) l)
    ∙ ap (λ (h : List (List ℕ)). take n (gathered h l)) (take_entered n p held)
    ∙ take_gathered n (entered p held) l

pub take_member : (n : ℕ) (l : List (List ℕ)) (r : List ℕ) → Memᴰ r (take n l) → Memᴰ r l
take_member zero l r m = absurd (Memᴰ.not-nil m)
take_member (suc n) [] r m = m
take_member (suc n) (p ∷ l) r m = ⊎_elim Memᴰ.head (λ k. Memᴰ.tail (take_member n l r k)) (Memᴰ.cases_cons m)

pub take_ascending : (n : ℕ) (l : List (List ℕ)) → Ascending l → Ascending (take n l)
take_ascending zero l a = ascending_nil
take_ascending (suc n) [] a = ascending_nil
take_ascending (suc n) (p ∷ l) a =
    ascending_cons p (take n l) (λ q m. ascending_head p l a q (take_member n l q m)) (take_ascending n l (ascending_tail p l a))

pub take_smallest : (n : ℕ) (l : List (List ℕ)) → Ascending l → (p q : List ℕ) → Memᴰ p (take n l) → Memᴰ q l → (Memᴰ q (take n l) → ⊥)
    → byte_order p q ≡ Less
take_smallest zero l a p q m k never = absurd (Memᴰ.not-nil m)
take_smallest (suc n) [] a p q m k never = absurd (Memᴰ.not-nil k)
take_smallest (suc n) (x ∷ l) a p q m k never =
    go (Memᴰ.cases_cons m) (Memᴰ.cases_cons k) (λ first later. take_smallest n l (ascending_tail x l a) p q first later (λ t. never (Memᴰ.tail t)))
  where
    go : (p ≡ x) ⊎ Memᴰ p (take n l) → (q ≡ x) ⊎ Memᴰ q l → (Memᴰ p (take n l) → Memᴰ q l → byte_order p q ≡ Less) → byte_order p q ≡ Less
    go first (inl e) both = absurd (never (Memᴰ.head e))
    go (inl e) (inr later) both = ap (λ (y : List ℕ). byte_order y q) e ∙ ascending_head x l a q later
    go (inr first) (inr later) both = both first later

pub sixteen_smallest : (pairs : List (List ℕ)) → length (sixteen pairs) ≡ 16 → SixteenSmallest pairs (sixteen pairs)
unfolding sixteen
sixteen_smallest pairs e = record {
  number = e;
  ascending = take_ascending 16 (gathered [] pairs) (all_ascending pairs);
  among = λ p m. all_from pairs p (take_member 16 (gathered [] pairs) p m);
  smallest = λ p q m k never. take_smallest 16 (gathered [] pairs) (all_ascending pairs) p q m (gathered_has [] pairs q k) never;
}

-- ---- an ascending list is known by its members

abbrev pub Within : List (List ℕ) → List (List ℕ) → Type 0
Within l m = (r : List ℕ) → Memᴰ r l → Memᴰ r m

-- what stands behind the first of both
pub tails_within : (p q : List ℕ) (l m : List (List ℕ)) → p ≡ q → Ascending (p ∷ l) → Within (p ∷ l) (q ∷ m) → Within l m
tails_within p q l m e a w r k = go (Memᴰ.cases_cons (w r (Memᴰ.tail k)))
  where
    go : (r ≡ q) ⊎ Memᴰ r m → Memᴰ r m
    go (inl f) = absurd (less_not_self p (ap (byte_order p) (e ∙ sym f) ∙ ascending_head p l a r k))
    go (inr h) = h

firsts_same : (p q : List ℕ) (l m : List (List ℕ)) → Ascending (p ∷ l) → Ascending (q ∷ m) → Within (p ∷ l) (q ∷ m) → Within (q ∷ m) (p ∷ l) → p ≡ q
firsts_same p q l m a b w v = go (Memᴰ.cases_cons (w p (Memᴰ.head refl))) (Memᴰ.cases_cons (v q (Memᴰ.head refl)))
  where
    go : (p ≡ q) ⊎ Memᴰ p m → (q ≡ p) ⊎ Memᴰ q l → p ≡ q
    go (inl e) k = e
    go (inr h) (inl e) = sym e
    go (inr h) (inr k) = absurd (less_not_less p q (ascending_head p l a q k) (ascending_head q m b p h))

pub ascending_equal : (l m : List (List ℕ)) → Ascending l → Ascending m → Within l m → Within m l → l ≡ m
ascending_equal [] [] a b w v = refl
ascending_equal [] (q ∷ m) a b w v = absurd (Memᴰ.not-nil (v q (Memᴰ.head refl)))
ascending_equal (p ∷ l) [] a b w v = absurd (Memᴰ.not-nil (w p (Memᴰ.head refl)))
ascending_equal (p ∷ l) (q ∷ m) a b w v =
    let e = firsts_same p q l m a b w v in
    let rest = ascending_equal l m (ascending_tail p l a) (ascending_tail q m b) (tails_within p q l m e a w) (tails_within q p m l (sym e) b v) in
    λ i. e i ∷ rest i

-- neither order nor repeats matter
pub gathered_same : (l m : List (List ℕ)) → Within l m → Within m l → gathered [] l ≡ gathered [] m
gathered_same l m w v =
    ascending_equal (gathered [] l) (gathered [] m) (all_ascending l) (all_ascending m)
    (λ r k. gathered_has [] m r (w r (all_from l r k)))
    (λ r k. gathered_has [] l r (v r (all_from m r k)))

pub sixteen_same : (l m : List (List ℕ)) → Within l m → Within m l → sixteen l ≡ sixteen m
unfolding sixteen
sixteen_same l m w v = ap (take 16) (gathered_same l m w v)
