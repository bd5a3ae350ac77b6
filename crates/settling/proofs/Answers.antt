-- The answers: each number is given exactly when the table gives it, and a refusal leaves the book.
use Prim.Native.Nat.{ℕ, suc, ◌-◌, ◌≤◌, ◌<◌}
use native.Mathlib.Omega.{arith}
use mathlib.Core.Path.{◌≡◌, refl, sym, ◌∙◌, ap, subst}
use mathlib.Core.Bool.{Bool, true, false}
use mathlib.Core.Option.{none, some}
use mathlib.Core.List.Memᴰ
use mathlib.Core.List.{List, Memᴰ}
use borrow.Author.Tests.{lt-ltb, le-ltb, le-leb, lt-leb}
use Rattle.settling.specs.Rank.{Shape}
use Rattle.settling.specs.Book.{State, overfull, good, enter, inside, settle, offer}
use Rattle.settling.specs.Answer.{holder, taken, against, outcome}
use Rattle.settling.specs.Meaning.{Sound, Kept, Outranked, Given, kept, dropped, bursts, already, outside, very, outranked}
use Rattle.settling.proofs.Cases.{Limit, within, beyond, limit}
use Rattle.settling.proofs.Members.{member_inside}
use Rattle.settling.proofs.Holders.{Seat, vacant, taken_by, seat, holder_vacant, holder_member, enter_unchanged, New, first_there, beating, new_absent, new_member}
use Rattle.settling.proofs.Settle.{Sought, found, nowhere, seek, offer_overfull, offer_far, offer_fits, offer_near}

module _ {A : Type 0} (B : Shape A) where
  open B use {slot, beats, near, capacity, top, rank}

  pub outcome_overfull : (a : A) → outcome B overfull a ≡ 14
  unfolding outcome
  outcome_overfull a = refl

  pub outcome_far : (d : ℕ) (l : List A) (a : A) → near (slot a) < d → outcome B (good d l) a ≡ 20
  unfolding outcome
  outcome_far d l a p = rw (lt-ltb _ d p)

  pub taken_overfull : (a : A) → taken B a overfull ≡ 3
  unfolding taken
  taken_overfull a = refl

  pub taken_inside : (a : A) (d : ℕ) (l : List A) → d ≤ near (slot a) → taken B a (good d l) ≡ 0
  unfolding taken
  taken_inside a d l p = cc (le-leb d _ p)

  pub taken_outside : (a : A) (d : ℕ) (l : List A) → near (slot a) < d → taken B a (good d l) ≡ 2
  unfolding taken
  taken_outside a d l p = cc (lt-leb d _ p)

  module _ (d : ℕ) (l : List A) (a : A) (near_enough : d ≤ near (slot a)) where
    outcome_near : outcome B (good d l) a ≡ against B a (offer B (good d l) a) (holder B (slot a) l)
    unfolding outcome
    outcome_near = rw (le-ltb _ d near_enough)

    -- the holder r isn't beaten
    pub outcome_held : (r : A) → holder B (slot a) l ≡ some r → beats a r ≡ false → beats r a ≡ true → outcome B (good d l) a ≡ 22
    unfolding against
    outcome_held r h u v = outcome_near ∙ cc (h, u, v)

    pub outcome_very : holder B (slot a) l ≡ some a → outcome B (good d l) a ≡ 21
    unfolding against
    outcome_very h = outcome_near ∙ cc (h, rank.irrefl a)

    pub outcome_vacant : holder B (slot a) l ≡ none → outcome B (good d l) a ≡ taken B a (offer B (good d l) a)
    unfolding against
    outcome_vacant h = outcome_near ∙ rw h

    pub outcome_beating : (r : A) → holder B (slot a) l ≡ some r → beats a r ≡ true → outcome B (good d l) a ≡ taken B a (offer B (good d l) a)
    unfolding against
    outcome_beating r h u = outcome_near ∙ rw (h, u)

  -- what becomes of an offer to a good book
  pub data Verdict (d : ℕ) (l : List A) (a : A) : Type 0 where
    too_far : near (slot a) < d → offer B (good d l) a ≡ good d l → outcome B (good d l) a ≡ 20 → Verdict d l a
    held_very : Memᴰ a l → offer B (good d l) a ≡ good d l → outcome B (good d l) a ≡ 21 → Verdict d l a
    held_higher : Outranked B (good d l) a → offer B (good d l) a ≡ good d l → outcome B (good d l) a ≡ 22 → Verdict d l a
    is_new : d ≤ near (slot a) → New B a l → outcome B (good d l) a ≡ taken B a (offer B (good d l) a) → Verdict d l a

  pub verdict : (d : ℕ) (l : List A) (a : A) → Kept B d l → Verdict d l a
  verdict d l a w = go (limit d (near (slot a))) (seat B (slot a) l)
    where
      -- an unbeaten holder stays
      stays : d ≤ near (slot a) → (r : A) → Memᴰ r l → slot r ≡ slot a → beats a r ≡ false → offer B (good d l) a ≡ good d l
      stays p r m s u = let i : enter B a l ≡ l = enter_unchanged B a r s l w.ascending m u in offer_fits B d l a p (rw i w.fits) ∙ rw i

      hold : (r : A) → Memᴰ r l → slot r ≡ slot a → holder B (slot a) l ≡ some r
      hold r m s = rw (← s) (holder_member B r l w.ascending m)

      met : d ≤ near (slot a) → (r : A) → Memᴰ r l → slot r ≡ slot a → (t u : Bool) → beats a r ≡ t → beats r a ≡ u → Verdict d l a
      met p r m s true u e f = is_new p (beating r m s e) (outcome_beating d l a p r (hold r m s) e)
      met p r m s false true e f = held_higher (record { by = r; held = m; same_slot = s; higher_rank = f }) (stays p r m s e) (outcome_held d l a p r (hold r m s) e f)
      met p r m s false false e f =
          let q : a ≡ r = rank.total a r (sym s) e f in
          held_very (Memᴰ.cast q m) (stays p r m s e) (outcome_very d l a p (hold r m s ∙ ap some (sym q)))

      go : Limit d (near (slot a)) → Seat B (slot a) l → Verdict d l a
      go (beyond p) k = too_far p (offer_far B d l a p) (outcome_far d l a p)
      go (within p) (vacant v) = is_new p (first_there v) (outcome_vacant d l a p (holder_vacant B (slot a) l v))
      go (within p) (taken_by r m s) = met p r m s (beats a r) (beats r a) refl refl

  good_overfull : (d : ℕ) (l : List A) → ◌≡◌ {A = State A} (good d l) overfull → ⊥
  good_overfull d l e = let z : ◌≡◌ {A = ℕ} 0 1 = cc in omega arith

  -- the table's line for what a new record's offer ends in
  new_given : (d : ℕ) (l : List A) (a : A) → Kept B d l → d ≤ near (slot a) → New B a l → Given B (good d l) a (taken B a (offer B (good d l) a))
  new_given d l a w p n = go (seek B (suc (top - d)) d (enter B a l))
    where
      is : offer B (good d l) a ≡ settle B (suc (top - d)) d (enter B a l)
      is = offer_near B d l a p w.ascending w.inner

      absent : Memᴰ a l → ⊥
      absent = new_absent B a l w.ascending n

      ends : (e : ℕ) → d ≤ e → offer B (good d l) a ≡ good e (inside B e (enter B a l)) → Limit e (near (slot a)) → Given B (good d l) a (taken B a (offer B (good d l) a))
      ends e q o (within h) = subst (Given B (good d l) a) (sym (ap (taken B a) o ∙ taken_inside a e _ h)) (kept absent (rw o (member_inside B e a (enter B a l) (new_member B a l w.ascending n) h)))
      ends e q o (beyond h) = subst (Given B (good d l) a) (sym (ap (taken B a) o ∙ taken_outside a e _ h)) (dropped (rw o (omega arith)) (rw o h))

      go : Sought B (suc (top - d)) d (enter B a l) → Given B (good d l) a (taken B a (offer B (good d l) a))
      go (found e x y f u q) = ends e x (is ∙ q) (limit e (near (slot a)))
      go (nowhere u q) = let o : offer B (good d l) a ≡ overfull = is ∙ q in subst (Given B (good d l) a) (sym (ap (taken B a) o ∙ taken_overfull a)) (bursts (good_overfull d l) o)

  pub given : (b : State A) (a : A) → Sound B b → Given B b a (outcome B b a)
  given overfull a w = subst (Given B overfull a) (sym (outcome_overfull a)) (already refl)
  given (good d l) a w = go (verdict d l a w)
    where
      go : Verdict d l a → Given B (good d l) a (outcome B (good d l) a)
      go (too_far p o e) = rw e (outside p)
      go (held_very m o e) = rw e (very m)
      go (held_higher r o e) = rw e (outranked r)
      go (is_new p n e) = rw e (new_given d l a w p n)

  -- an offer that changes the book is answered by what it ends in
  pub changed : (b : State A) (a : A) → Sound B b → (offer B b a ≡ b → ⊥) → outcome B b a ≡ taken B a (offer B b a)
  changed overfull a w f = absurd (f (offer_overfull B a))
  changed (good d l) a w f = go (verdict d l a w)
    where
      go : Verdict d l a → outcome B (good d l) a ≡ taken B a (offer B (good d l) a)
      go (too_far p o e) = absurd (f o)
      go (held_very m o e) = absurd (f o)
      go (held_higher r o e) = absurd (f o)
      go (is_new p n e) = e
