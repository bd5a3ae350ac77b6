-- Which records a list holds once others have entered or gone.
use Prim.Native.Nat.{ℕ, ◌≤◌, ◌<◌}
use native.Mathlib.Omega.{arith}
use mathlib.Core.Path.{◌≡◌, refl, sym, ◌∙◌, ap}
use mathlib.Core.Logic.{◌⊎◌, inl, inr}
use mathlib.Core.List.Memᴰ
use mathlib.Core.List.{List, [], ◌∷◌, Memᴰ}
use Rattle.settling.specs.Rank.{Shape, higher}
use Rattle.settling.specs.Book.{enter, inside}
use Rattle.settling.specs.History.{enter_all}
use Rattle.settling.specs.Meaning.{Each, Ascending}
use Rattle.settling.proofs.Cases.{Side, below, level, above, side, Limit, within, beyond, limit}
use Rattle.settling.proofs.Rank.{Chosen, first, second, chosen, AtLeast, atleast_trans, unbeaten_atleast}
use Rattle.settling.proofs.Enter.{enter_nil, enter_lt, enter_eq, enter_gt, enter_all_same}
use Rattle.settling.proofs.Inside.{inside_nil, inside_in_lem, inside_out, enter_all_ascending}

pub each_member : {A : Type 0} (P : A → Type 0) (r : A) (l : List A) → Each P l → Memᴰ r l → P r
each_member P r (q ∷ l) o (Memᴰ.head e) = rw e o.0
each_member P r (q ∷ l) o (Memᴰ.tail m) = each_member P r l o.1 m
each_member P r [] o never = elim never [ ]

module _ {A : Type 0} (B : Shape A) where
  open B use {slot, beats, near, rank}

  pub member_inside : (d : ℕ) (r : A) (l : List A) → Memᴰ r l → d ≤ near (slot r) → Memᴰ r (inside B d l)
  member_inside d r l (Memᴰ.head {x = h} {xs = t} e) p = rw (inside_in_lem B d h t (rw (← e) p)) (Memᴰ.head e)
  member_inside d r l (Memᴰ.tail {x = h} {xs = t} m) p = go (member_inside d r t m p) (limit d (near (slot h)))
    where
      go : Memᴰ r (inside B d t) → Limit d (near (slot h)) → Memᴰ r (inside B d (h ∷ t))
      go ih (within q) = rw (inside_in_lem B d h t q) (Memᴰ.tail ih)
      go ih (beyond q) = rw (inside_out B d h t q) ih

  pub inside_member : (d : ℕ) (r : A) (l : List A) → Memᴰ r (inside B d l) → Memᴰ r l × (d ≤ near (slot r))
  inside_member d r [] m = absurd (Memᴰ.not-nil (rw (inside_nil B d) at m))
  inside_member d r (h ∷ t) m = go (λ k. inside_member d r t k) (limit d (near (slot h)))
    where
      there : Memᴰ r t × (d ≤ near (slot r)) → Memᴰ r (h ∷ t) × (d ≤ near (slot r))
      there k = (Memᴰ.tail k.0, k.1)

      split : (Memᴰ r (inside B d t) → Memᴰ r t × (d ≤ near (slot r))) → d ≤ near (slot h) → (r ≡ h) ⊎ Memᴰ r (inside B d t) → Memᴰ r (h ∷ t) × (d ≤ near (slot r))
      split ih q (inl e) = (Memᴰ.head e, rw e q)
      split ih q (inr k) = there (ih k)

      go : (Memᴰ r (inside B d t) → Memᴰ r t × (d ≤ near (slot r))) → Limit d (near (slot h)) → Memᴰ r (h ∷ t) × (d ≤ near (slot r))
      go ih (within q) = split ih q (Memᴰ.cases_cons (rw (inside_in_lem B d h t q) at m))
      go ih (beyond q) = there (ih (rw (inside_out B d h t q) at m))

  -- an ascending list has one record a slot, and is known by its members
  pub ascending_one : (r q : A) (l : List A) → Ascending B l → Memᴰ r l → Memᴰ q l → slot r ≡ slot q → r ≡ q
  ascending_one r q (h ∷ t) o (Memᴰ.head e) (Memᴰ.head f) s = e ∙ sym f
  ascending_one r q (h ∷ t) o (Memᴰ.head e) (Memᴰ.tail n) s = absurd (omega (arith, each_member (λ x. slot h < slot x) q t o.0 n, ap slot e))
  ascending_one r q (h ∷ t) o (Memᴰ.tail m) (Memᴰ.head f) s = absurd (omega (arith, each_member (λ x. slot h < slot x) r t o.0 m, ap slot f))
  ascending_one r q (h ∷ t) o (Memᴰ.tail m) (Memᴰ.tail n) s = ascending_one r q t o.1 m n s
  ascending_one r q [] o never _ s = elim never [ ]

  pub ascending_equal : (l m : List A) → Ascending B l → Ascending B m → ((a : A) → Memᴰ a l → Memᴰ a m) → ((a : A) → Memᴰ a m → Memᴰ a l) → l ≡ m
  ascending_equal l m o p f g = sym (enter_all_ascending B l o) ∙ enter_all_same B [] l m f g ∙ enter_all_ascending B m p

  pub enter_member : (r a : A) (l : List A) → Memᴰ r (enter B a l) → (r ≡ a) ⊎ Memᴰ r l
  enter_member r a [] m = Memᴰ.cases_cons (rw (enter_nil B a) at m)
  enter_member r a (h ∷ t) m = go (λ k. enter_member r a t k) (side (slot a) (slot h)) (chosen beats h a)
    where
      up : (r ≡ a) ⊎ Memᴰ r t → (r ≡ a) ⊎ Memᴰ r (h ∷ t)
      up (inl e) = inl e
      up (inr k) = inr (Memᴰ.tail k)

      step : (Memᴰ r (enter B a t) → (r ≡ a) ⊎ Memᴰ r t) → (r ≡ h) ⊎ Memᴰ r (enter B a t) → (r ≡ a) ⊎ Memᴰ r (h ∷ t)
      step ih (inl e) = inr (Memᴰ.head e)
      step ih (inr k) = up (ih k)

      go : (Memᴰ r (enter B a t) → (r ≡ a) ⊎ Memᴰ r t) → Side (slot a) (slot h) → Chosen beats h a → (r ≡ a) ⊎ Memᴰ r (h ∷ t)
      go ih (below p) c = Memᴰ.cases_cons (rw (enter_lt B a h t p) at m)
      go ih (level p) (first u e) = inr (rw (enter_eq B a h t p, e) at m)
      go ih (level p) (second u e) = up (Memᴰ.cases_cons (rw (enter_eq B a h t p, e) at m))
      go ih (above p) c = step ih (Memᴰ.cases_cons (rw (enter_gt B a h t p) at m))

  pub enter_all_member : (r : A) (l s : List A) → Memᴰ r (enter_all B l s) → Memᴰ r l ⊎ Memᴰ r s
  unfolding enter_all
  enter_all_member r l [] m = inl m
  enter_all_member r l (a ∷ s) m = go (enter_all_member r (enter B a l) s m)
    where
      first_in : (r ≡ a) ⊎ Memᴰ r l → Memᴰ r l ⊎ Memᴰ r (a ∷ s)
      first_in (inl e) = inr (Memᴰ.head e)
      first_in (inr k) = inl k

      go : Memᴰ r (enter B a l) ⊎ Memᴰ r s → Memᴰ r l ⊎ Memᴰ r (a ∷ s)
      go (inl k) = first_in (enter_member r a l k)
      go (inr k) = inr (Memᴰ.tail k)

  -- the slot of r is held in l by r or a higher rank
  pub record Held (r : A) (l : List A) : Type 0 where
    pub by : A
    pub there : Memᴰ by l
    pub same_slot : slot by ≡ slot r
    pub at_least : AtLeast rank by r

  held_here : (r q : A) (l : List A) → Memᴰ q l → slot q ≡ slot r → AtLeast rank q r → Held r l
  held_here r q l m s h = record { by = q; there = m; same_slot = s; at_least = h }

  pub held_member : (r : A) (l : List A) → Memᴰ r l → Held r l
  held_member r l m = held_here r r l m refl (inl refl)

  held_tail : (r h : A) (l : List A) → Held r l → Held r (h ∷ l)
  held_tail r h l k = record { by = k.by; there = Memᴰ.tail k.there; same_slot = k.same_slot; at_least = k.at_least }

  pub enter_held : (a : A) (l : List A) → Held a (enter B a l)
  enter_held a [] = rw (enter_nil B a) (held_member a (a ∷ []) (Memᴰ.head refl))
  enter_held a (h ∷ t) = go (enter_held a t) (side (slot a) (slot h)) (chosen beats h a)
    where
      go : Held a (enter B a t) → Side (slot a) (slot h) → Chosen beats h a → Held a (enter B a (h ∷ t))
      go ih (below p) c = rw (enter_lt B a h t p) (held_member a (a ∷ h ∷ t) (Memᴰ.head refl))
      go ih (level p) (first u e) = rw (enter_eq B a h t p, e) (held_here a h (h ∷ t) (Memᴰ.head refl) (sym p) (unbeaten_atleast rank h a p u))
      go ih (level p) (second u e) = rw (enter_eq B a h t p, e) (held_member a (a ∷ t) (Memᴰ.head refl))
      go ih (above p) c = rw (enter_gt B a h t p) (held_tail a h (enter B a t) ih)

  -- a record that was there
  pub enter_holds : (r a : A) (l : List A) → Memᴰ r l → Held r (enter B a l)
  enter_holds r a l (Memᴰ.head {x = h} {xs = t} e) = go (side (slot a) (slot h)) (chosen beats h a)
    where
      go : Side (slot a) (slot h) → Chosen beats h a → Held r (enter B a (h ∷ t))
      go (below p) c = rw (enter_lt B a h t p) (held_member r (a ∷ h ∷ t) (Memᴰ.tail (Memᴰ.head e)))
      go (level p) (first u f) = rw (enter_eq B a h t p, f) (held_member r (h ∷ t) (Memᴰ.head e))
      go (level p) (second u f) = rw (enter_eq B a h t p, f) (held_here r a (a ∷ t) (Memᴰ.head refl) (p ∙ ap slot (sym e)) (inr (rw e u)))
      go (above p) c = rw (enter_gt B a h t p) (held_member r (h ∷ enter B a t) (Memᴰ.head e))
  enter_holds r a l (Memᴰ.tail {x = h} {xs = t} m) = go (enter_holds r a t m) (side (slot a) (slot h))
    where
      go : Held r (enter B a t) → Side (slot a) (slot h) → Held r (enter B a (h ∷ t))
      go ih (below p) = rw (enter_lt B a h t p) (held_member r (a ∷ h ∷ t) (Memᴰ.tail (Memᴰ.tail m)))
      go ih (level p) = rw (enter_eq B a h t p) (held_member r (higher beats h a ∷ t) (Memᴰ.tail m))
      go ih (above p) = rw (enter_gt B a h t p) (held_tail r h (enter B a t) ih)

  held_trans : (r q : A) (l : List A) → slot q ≡ slot r → AtLeast rank q r → Held q l → Held r l
  held_trans r q l s h k = record { by = k.by; there = k.there; same_slot = k.same_slot ∙ s; at_least = atleast_trans rank k.by q r k.same_slot s k.at_least h }

  pub enter_all_holds : (r : A) (l s : List A) → Held r l → Held r (enter_all B l s)
  unfolding enter_all
  enter_all_holds r l [] k = k
  enter_all_holds r l (a ∷ s) k = enter_all_holds r (enter B a l) s (held_trans r k.by (enter B a l) k.same_slot k.at_least (enter_holds k.by a l k.there))

  pub enter_all_held : (r : A) (l s : List A) → Memᴰ r s → Held r (enter_all B l s)
  unfolding enter_all
  enter_all_held r l s (Memᴰ.head {x = a} {xs = t} e) = rw e (enter_all_holds a (enter B a l) t (enter_held a l))
  enter_all_held r l s (Memᴰ.tail {x = a} {xs = t} m) = enter_all_held r (enter B a l) t m
