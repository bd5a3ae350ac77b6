-- Entering a record among others: whatever the order of arrival and the repeats, the same records.
use Prim.Native.Nat.{◌≤◌, ◌<◌}
use native.Mathlib.Omega.{arith}
use mathlib.Core.Path.{◌≡◌, refl, sym, ◌∙◌}
use mathlib.Core.List.{List, [], ◌∷◌, Memᴰ}
use lib.ListN.{length}
use borrow.Author.Tests.{lt-ltb, le-ltb, eq-eqb, ne_eqb}
use Rattle.settling.specs.Rank.{Shape, higher}
use Rattle.settling.specs.Book.{enter}
use Rattle.settling.specs.History.{enter_all}
use Rattle.settling.proofs.Cases.{Side, below, level, above, side}
use Rattle.settling.proofs.Rank.{higher_slot, higher_self, higher_comm, higher_assoc}

module _ {A : Type 0} (B : Shape A) where
  open B use {slot, beats, rank}

  -- an equation a case, so that the definition is never unfolded again
  pub enter_nil : (a : A) → enter B a [] ≡ a ∷ []
  unfolding enter
  enter_nil a = refl

  pub enter_lt : (a r : A) (l : List A) → slot a < slot r → enter B a (r ∷ l) ≡ a ∷ r ∷ l
  unfolding enter
  enter_lt a r l p = rw (lt-ltb (slot a) (slot r) p)

  pub enter_eq : (a r : A) (l : List A) → slot a ≡ slot r → enter B a (r ∷ l) ≡ higher beats r a ∷ l
  unfolding enter
  enter_eq a r l p = let k : slot r ≤ slot a = omega arith in rw (le-ltb (slot a) (slot r) k, eq-eqb (slot a) (slot r) p)

  pub enter_gt : (a r : A) (l : List A) → slot r < slot a → enter B a (r ∷ l) ≡ r ∷ enter B a l
  unfolding enter
  enter_gt a r l p =
      let k : slot r ≤ slot a = omega arith in
      let n : slot a ≡ slot r → ⊥ = λ e. omega arith in
      rw (le-ltb (slot a) (slot r) k, ne_eqb (slot a) (slot r) n)

  pub enter_all_cons : (l : List A) (a : A) (s : List A) → enter_all B l (a ∷ s) ≡ enter_all B (enter B a l) s
  unfolding enter_all
  enter_all_cons l a s = refl

  -- two records that both go in front of l
  front : (a b : A) (l : List A) → enter B a l ≡ a ∷ l → enter B b l ≡ b ∷ l → enter B a (b ∷ l) ≡ enter B b (a ∷ l)
  front a b l p q = go (side (slot a) (slot b))
    where
      go : Side (slot a) (slot b) → enter B a (b ∷ l) ≡ enter B b (a ∷ l)
      go (below h) = rw (enter_lt a b l h, enter_gt b a l h, q)
      go (level e) = rw (enter_eq a b l e, enter_eq b a l (sym e), higher_comm rank a b e)
      go (above h) = rw (enter_gt a b l h, enter_lt b a l h, p)

  pub enter_comm : (a b : A) (l : List A) → enter B a (enter B b l) ≡ enter B b (enter B a l)
  enter_comm a b [] = rw (enter_nil a, enter_nil b) (front a b [] (enter_nil a) (enter_nil b))
  enter_comm a b (r ∷ l) = go (enter_comm a b l) (side (slot a) (slot r)) (side (slot b) (slot r))
    where
      same : (c : A) → slot c ≡ slot r → slot (higher beats r c) ≡ slot r
      same c e = higher_slot rank r c (sym e)

      -- one goes before r, the other anywhere
      split : (c d : A) → slot c < slot r → Side (slot d) (slot r) → enter B c (enter B d (r ∷ l)) ≡ enter B d (c ∷ r ∷ l)
      split c d p (below q) = rw (enter_lt d r l q) (front c d (r ∷ l) (enter_lt c r l p) (enter_lt d r l q))
      split c d p (level q) =
          let z : slot c < slot (higher beats r d) = rw (same d q) p in
          let y : slot c < slot d = omega arith in
          rw (enter_eq d r l q, enter_lt c (higher beats r d) l z, enter_gt d c (r ∷ l) y, enter_eq d r l q)
      split c d p (above q) =
          let y : slot c < slot d = omega arith in
          rw (enter_gt d r l q, enter_lt c r (enter B d l) p, enter_gt d c (r ∷ l) y, enter_gt d r l q)

      -- one goes into r's slot, the other after r
      after : (c d : A) → slot c ≡ slot r → slot r < slot d → enter B c (enter B d (r ∷ l)) ≡ enter B d (higher beats r c ∷ l)
      after c d p q =
          let z : slot (higher beats r c) < slot d = rw (same c p) q in
          rw (enter_gt d r l q, enter_eq c r (enter B d l) p, enter_gt d (higher beats r c) l z)

      go : enter B a (enter B b l) ≡ enter B b (enter B a l) → Side (slot a) (slot r) → Side (slot b) (slot r)
          → enter B a (enter B b (r ∷ l)) ≡ enter B b (enter B a (r ∷ l))
      go ih (below p) t = rw (enter_lt a r l p) (split a b p t)
      go ih (level p) (below q) = rw (enter_lt b r l q) (sym (split b a q (level p)))
      go ih (level p) (level q) =
          let x : slot a ≡ slot (higher beats r b) = p ∙ sym (same b q) in
          let y : slot b ≡ slot (higher beats r a) = q ∙ sym (same a p) in
          rw (
            enter_eq a r l p,
            enter_eq b r l q,
            enter_eq a (higher beats r b) l x,
            enter_eq b (higher beats r a) l y,
            higher_assoc rank r b a (sym q) (q ∙ sym p),
            higher_assoc rank r a b (sym p) (p ∙ sym q),
            higher_comm rank a b (p ∙ sym q),
          )
      go ih (level p) (above q) = rw (enter_eq a r l p) (after a b p q)
      go ih (above p) (below q) = rw (enter_lt b r l q) (sym (split b a q (above p)))
      go ih (above p) (level q) = rw (enter_eq b r l q) (sym (after b a q p))
      go ih (above p) (above q) = rw (enter_gt a r l p, enter_gt b r l q, enter_gt a r (enter B b l) p, enter_gt b r (enter B a l) q, ih)

  pub enter_twice : (a : A) (l : List A) → enter B a (enter B a l) ≡ enter B a l
  enter_twice a [] = rw (enter_nil a, enter_eq a a [] refl, higher_self rank a)
  enter_twice a (r ∷ l) = go (enter_twice a l) (side (slot a) (slot r))
    where
      go : enter B a (enter B a l) ≡ enter B a l → Side (slot a) (slot r) → enter B a (enter B a (r ∷ l)) ≡ enter B a (r ∷ l)
      go ih (below p) = rw (enter_lt a r l p, enter_eq a a (r ∷ l) refl, higher_self rank a)
      go ih (level p) = rw (enter_eq a r l p, enter_eq a (higher beats r a) l (p ∙ sym (higher_slot rank r a (sym p))), higher_assoc rank r a a (sym p) refl, higher_self rank a)
      go ih (above p) = rw (enter_gt a r l p, enter_gt a r (enter B a l) p, ih)

  pub enter_more : (a : A) (l : List A) → length l ≤ length (enter B a l)
  enter_more a [] = rw (enter_nil a) (omega arith)
  enter_more a (r ∷ l) = go (enter_more a l) (side (slot a) (slot r))
    where
      go : length l ≤ length (enter B a l) → Side (slot a) (slot r) → length (r ∷ l) ≤ length (enter B a (r ∷ l))
      go ih (below q) = rw (enter_lt a r l q) (omega arith)
      go ih (level q) = rw (enter_eq a r l q) (omega arith)
      go ih (above q) = rw (enter_gt a r l q) (omega arith)

  -- a record entered before or after the others
  pub enter_all_enter : (a : A) (l s : List A) → enter_all B (enter B a l) s ≡ enter B a (enter_all B l s)
  unfolding enter_all
  enter_all_enter a l [] = refl
  enter_all_enter a l (b ∷ s) = rw (enter_comm b a l) (enter_all_enter a (enter B b l) s)

  pub enter_all_swap : (l s t : List A) → enter_all B (enter_all B l s) t ≡ enter_all B (enter_all B l t) s
  unfolding enter_all
  enter_all_swap l [] t = refl
  enter_all_swap l (a ∷ s) t = rw (enter_all_swap (enter B a l) s t, enter_all_enter a l t)

  -- what was entered already changes nothing
  pub enter_all_again : (a : A) (l s : List A) → Memᴰ a s → enter B a (enter_all B l s) ≡ enter_all B l s
  unfolding enter_all
  enter_all_again a l s (Memᴰ.head {x = b} {xs = r} e) = rw (e, ← enter_all_enter b (enter B b l) r, enter_twice b l)
  enter_all_again a l s (Memᴰ.tail {x = b} {xs = r} m) = enter_all_again a (enter B b l) r m

  pub enter_all_within : (l s t : List A) → ((a : A) → Memᴰ a t → Memᴰ a s) → enter_all B (enter_all B l s) t ≡ enter_all B l s
  unfolding enter_all
  enter_all_within l s [] m = refl
  enter_all_within l s (b ∷ t) m = rw (enter_all_again b l s (m b (Memᴰ.head refl))) (enter_all_within l s t (λ a k. m a (Memᴰ.tail k)))

  -- the same members, in any order and with any repeats: the same records
  pub enter_all_same : (l s t : List A) → ((a : A) → Memᴰ a s → Memᴰ a t) → ((a : A) → Memᴰ a t → Memᴰ a s) → enter_all B l s ≡ enter_all B l t
  enter_all_same l s t p q = sym (enter_all_within l s t q) ∙ enter_all_swap l s t ∙ enter_all_within l t s p
