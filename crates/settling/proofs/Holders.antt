-- The holder of a slot, and what entering does where the slot is vacant, held lower or held higher.
use Prim.Native.Nat.{ℕ, suc, ◌<◌}
use native.Mathlib.Omega.{arith}
use mathlib.Core.Path.{◌≡◌, refl, sym, ◌∙◌, ap}
use mathlib.Core.Bool.{true, false}
use mathlib.Core.Logic.{◌⊎◌, inl, inr}
use mathlib.Core.Option.{none, some}
use mathlib.Core.List.Memᴰ
use mathlib.Core.List.{List, [], ◌∷◌, Memᴰ}
use lib.ListN.{length}
use borrow.Author.Tests.{eq-eqb, ne_eqb}
use Rattle.settling.specs.Rank.{Shape}
use Rattle.settling.specs.Book.{enter}
use Rattle.settling.specs.Answer.{holder}
use Rattle.settling.specs.Meaning.{Ascending, Vacant}
use Rattle.settling.proofs.Cases.{Side, below, level, above, side}
use Rattle.settling.proofs.Rank.{higher_first, AtLeast, not_atleast}
use Rattle.settling.proofs.Enter.{enter_nil, enter_lt, enter_eq, enter_gt}
use Rattle.settling.proofs.Members.{each_member, ascending_one, Held, enter_held, enter_member}

module _ {A : Type 0} (B : Shape A) where
  open B use {slot, beats, rank}

  pub holder_nil : (k : ℕ) → holder B k [] ≡ none
  unfolding holder
  holder_nil k = refl

  pub holder_here : (k : ℕ) (r : A) (l : List A) → k ≡ slot r → holder B k (r ∷ l) ≡ some r
  unfolding holder
  holder_here k r l e = rw (eq-eqb k (slot r) e)

  pub holder_next : (k : ℕ) (r : A) (l : List A) → (k ≡ slot r → ⊥) → holder B k (r ∷ l) ≡ holder B k l
  unfolding holder
  holder_next k r l e = rw (ne_eqb k (slot r) e)

  pub holder_vacant : (k : ℕ) (l : List A) → Vacant B l k → holder B k l ≡ none
  holder_vacant k [] v = holder_nil k
  holder_vacant k (r ∷ l) v = holder_next k r l (λ e. v r (Memᴰ.head refl) (sym e)) ∙ holder_vacant k l (λ q m. v q (Memᴰ.tail m))

  pub holder_member : (r : A) (l : List A) → Ascending B l → Memᴰ r l → holder B (slot r) l ≡ some r
  holder_member r (h ∷ t) o (Memᴰ.head e) = holder_here (slot r) h t (ap slot e) ∙ ap some (sym e)
  holder_member r (h ∷ t) o (Memᴰ.tail m) =
      let k : slot h < slot r = each_member (λ x. slot h < slot x) r t o.0 m in
      holder_next (slot r) h t (λ e. omega arith) ∙ holder_member r t o.1 m
  holder_member r [] o never = elim never [ ]

  -- whether a slot is held
  pub data Seat (k : ℕ) (l : List A) : Type 0 where
    vacant : Vacant B l k → Seat k l
    taken_by : (r : A) → Memᴰ r l → slot r ≡ k → Seat k l

  pub seat : (k : ℕ) (l : List A) → Seat k l
  seat k [] = vacant (λ r m e. Memᴰ.not-nil m)
  seat k (h ∷ t) = go (seat k t) (side k (slot h))
    where
      neither : (k ≡ slot h → ⊥) → Vacant B t k → Vacant B (h ∷ t) k
      neither n v r m e = split (Memᴰ.cases_cons m)
        where
          split : (r ≡ h) ⊎ Memᴰ r t → ⊥
          split (inl q) = n (sym e ∙ ap slot q)
          split (inr m) = v r m e

      later : (k ≡ slot h → ⊥) → Seat k t → Seat k (h ∷ t)
      later n (vacant v) = vacant (neither n v)
      later n (taken_by r m e) = taken_by r (Memᴰ.tail m) e

      go : Seat k t → Side k (slot h) → Seat k (h ∷ t)
      go w (level e) = taken_by h (Memᴰ.head refl) (sym e)
      go w (below p) = later (λ e. omega arith) w
      go w (above p) = later (λ e. omega arith) w

  -- an empty slot: one record more
  pub enter_vacant : (a : A) (l : List A) → Vacant B l (slot a) → length (enter B a l) ≡ suc (length l)
  enter_vacant a [] v = rw (enter_nil B a)
  enter_vacant a (h ∷ t) v = go (enter_vacant a t (λ r m. v r (Memᴰ.tail m))) (side (slot a) (slot h))
    where
      go : length (enter B a t) ≡ suc (length t) → Side (slot a) (slot h) → length (enter B a (h ∷ t)) ≡ suc (length (h ∷ t))
      go ih (below p) = rw (enter_lt B a h t p)
      go ih (level p) = absurd (v h (Memᴰ.head refl) (sym p))
      go ih (above p) = rw (enter_gt B a h t p) (ap suc ih)

  -- a held slot: as many records, and the same ones where the holder isn't beaten
  module _ (a r : A) (same_slot : slot r ≡ slot a) where
    pub enter_same_length : (l : List A) → Ascending B l → Memᴰ r l → length (enter B a l) ≡ length l
    enter_same_length (h ∷ t) o (Memᴰ.head e) = rw (enter_eq B a h t (sym same_slot ∙ ap slot e))
    enter_same_length (h ∷ t) o (Memᴰ.tail m) =
        let k : slot h < slot r = each_member (λ x. slot h < slot x) r t o.0 m in
        rw (enter_gt B a h t (omega arith)) (ap suc (enter_same_length t o.1 m))
    enter_same_length [] o never = elim never [ ]

    pub enter_unchanged : (l : List A) → Ascending B l → Memᴰ r l → beats a r ≡ false → enter B a l ≡ l
    enter_unchanged (h ∷ t) o (Memᴰ.head e) u = let f : beats a h ≡ false = rw (← e) u in rw (enter_eq B a h t (sym same_slot ∙ ap slot e), higher_first beats h a f)
    enter_unchanged (h ∷ t) o (Memᴰ.tail m) u =
        let k : slot h < slot r = each_member (λ x. slot h < slot x) r t o.0 m in
        rw (enter_gt B a h t (omega arith), enter_unchanged t o.1 m u)
    enter_unchanged [] o never u = elim never [ ]

  -- a record is new where its slot is vacant or its holder is beaten: then it wasn't there, and enters
  pub data New (a : A) (l : List A) : Type 0 where
    first_there : Vacant B l (slot a) → New a l
    beating : (r : A) → Memᴰ r l → slot r ≡ slot a → beats a r ≡ true → New a l

  pub new_absent : (a : A) (l : List A) → Ascending B l → New a l → Memᴰ a l → ⊥
  new_absent a l o (first_there v) m = v a m refl
  new_absent a l o (beating r k e b) m = not_atleast rank a r (sym e) b (inl (ascending_one B r a l o k m e))

  pub new_member : (a : A) (l : List A) → Ascending B l → New a l → Memᴰ a (enter B a l)
  new_member a l o w = go (enter_held B a l)
    where
      -- another holder at least as high is absurd
      clash : (q : A) → New a l → Memᴰ q l → slot q ≡ slot a → AtLeast rank q a → ⊥
      clash q (first_there v) m s t = v q m s
      clash q (beating r k e b) m s t = not_atleast rank a q (sym s) (rw (ascending_one B q r l o m k (s ∙ sym e)) b) t

      go : Held B a (enter B a l) → Memᴰ a (enter B a l)
      go h = split (enter_member B h.by a l h.there)
        where
          split : (h.by ≡ a) ⊎ Memᴰ h.by l → Memᴰ a (enter B a l)
          split (inl e) = Memᴰ.cast (sym e) h.there
          split (inr m) = absurd (clash h.by w m h.same_slot h.at_least)
