-- The sixteen smallest by their meaning leave no second choice.
use mathlib.Core.Path.{◌≡◌, refl, sym, ap, ◌∙◌}
use mathlib.Core.Logic.{◌⊎◌, inl, inr, ⊎_elim}
use mathlib.Core.List.Memᴰ
use mathlib.Core.List.{List, [], ◌∷◌, ◌++◌, Memᴰ, List-discrete}
use Prim.Native.Nat.{ℕ, ◌≤◌}
use native.Mathlib.Decide.{ℕ_discrete}
use native.Mathlib.Omega.{arith}
use lib.ListN.{length, length-append}
use Rattle.octets.specs.Order.{byte_order}
use Rattle.std.specs.declared.cmp.Ordering.TheVariants.{Less}
use Rattle.sample.specs.Sample.{Ascending, SixteenSmallest}
use Rattle.sample.proofs.Entering.{ascending_nil, ascending_cons, ascending_head, ascending_tail, less_not_less}
use Rattle.sample.proofs.Gathering.{Within, tails_within, ascending_equal}

member? : (p : List ℕ) (l : List (List ℕ)) → Dec (Memᴰ p l)
member? p [] = no Memᴰ.not-nil
member? p (q ∷ l) = go (List-discrete ℕ_discrete p q) (member? p l)
  where
    neither : (p ≡ q → ⊥) → (Memᴰ p l → ⊥) → (p ≡ q) ⊎ Memᴰ p l → ⊥
    neither f g (inl e) = f e
    neither f g (inr m) = g m

    go : Dec (p ≡ q) → Dec (Memᴰ p l) → Dec (Memᴰ p (q ∷ l))
    go (yes e) d = yes (Memᴰ.head e)
    go (no f) (yes m) = yes (Memᴰ.tail m)
    go (no f) (no g) = no (λ m. neither f g (Memᴰ.cases_cons m))

-- ---- an ascending list within another is not the longer one

past_first : (p q : List ℕ) (l m : List (List ℕ)) → Ascending (p ∷ l) → Ascending (q ∷ m) → Within (p ∷ l) (q ∷ m) → Memᴰ p m → Within (p ∷ l) m
past_first p q l m a b w h r k = go (Memᴰ.cases_cons (w r k)) (Memᴰ.cases_cons k)
  where
    go : (r ≡ q) ⊎ Memᴰ r m → (r ≡ p) ⊎ Memᴰ r l → Memᴰ r m
    go (inr j) x = j
    go (inl e) (inl f) = Memᴰ.cast f h
    go (inl e) (inr x) = absurd (less_not_less p q (ap (byte_order p) (sym e) ∙ ascending_head p l a r x) (ascending_head q m b p h))

pub within_length : (l m : List (List ℕ)) → Ascending l → Ascending m → Within l m → length l ≤ length m
within_length [] m a b w = omega arith
within_length (p ∷ l) [] a b w = absurd (Memᴰ.not-nil (w p (Memᴰ.head refl)))
within_length (p ∷ l) (q ∷ m) a b w =
    go (Memᴰ.cases_cons (w p (Memᴰ.head refl)))
    (λ e. within_length l m (ascending_tail p l a) (ascending_tail q m b) (tails_within p q l m e a w))
    (λ h. within_length (p ∷ l) m a (ascending_tail q m b) (past_first p q l m a b w h))
  where
    go : (p ≡ q) ⊎ Memᴰ p m → (p ≡ q → length l ≤ length m) → (Memᴰ p m → length (p ∷ l) ≤ length m) → length (p ∷ l) ≤ length (q ∷ m)
    go (inl e) f g = omega (arith, f e)
    go (inr h) f g = omega (arith, g h)

-- ---- one choice

above_ascending : (l : List (List ℕ)) (p : List ℕ) → Ascending l → ((q : List ℕ) → Memᴰ q l → byte_order q p ≡ Less) → Ascending (l ++ p ∷ [])
above_ascending [] p a above = ascending_cons p [] (λ q m. absurd (Memᴰ.not-nil m)) ascending_nil
above_ascending (q ∷ l) p a above =
    ascending_cons q (l ++ p ∷ [])
    (λ r m. ⊎_elim (ascending_head q l a r) (λ k. ap (byte_order q) (Memᴰ.eq_of_singleton k) ∙ above q (Memᴰ.head refl)) (Memᴰ.append_cases l m))
    (above_ascending l p (ascending_tail q l a) (λ r m. above r (Memᴰ.tail m)))

module _ (ps qs x y : List (List ℕ)) (w : Within ps qs) (v : Within qs ps) (f : SixteenSmallest ps x) (g : SixteenSmallest qs y) where
  -- a pair chosen on one side only would be the seventeenth on its own
  chosen_within : Within x y
  chosen_within p m = go (member? p y)
    where
      all_chosen : (Memᴰ p y → ⊥) → (q : List ℕ) → Memᴰ q y → Dec (Memᴰ q x) → Memᴰ q x
      all_chosen never q k (yes j) = j
      all_chosen never q k (no other) =
          absurd (less_not_less p q (f.smallest p q m (v q (g.among q k)) other) (g.smallest q p k (w p (f.among p m)) never))

      seventeen : (Memᴰ p y → ⊥) → 17 ≤ 16
      seventeen never =
          let rising = above_ascending y p g.ascending (λ q k. g.smallest q p k (w p (f.among p m)) never) in
          let inside : Within (y ++ p ∷ []) x =
          λ r k. ⊎_elim (λ j. all_chosen never r j (member? r x)) (λ j. Memᴰ.cast (Memᴰ.eq_of_singleton j) m) (Memᴰ.append_cases y k) in
          omega (arith, within_length (y ++ p ∷ []) x rising f.ascending inside, length-append y (p ∷ []), f.number, g.number)

      go : Dec (Memᴰ p y) → Memᴰ p y
      go (yes k) = k
      go (no never) = absurd (let h = seventeen never in omega arith)

pub smallest_once : (ps qs x y : List (List ℕ)) → Within ps qs → Within qs ps → SixteenSmallest ps x → SixteenSmallest qs y → x ≡ y
smallest_once ps qs x y w v f g =
    ascending_equal x y f.ascending g.ascending (chosen_within ps qs x y w v f g) (chosen_within qs ps y x v w g f)
