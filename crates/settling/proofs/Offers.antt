-- One offer to a sound book, read by members: it settles the records with the new one, rises to the least depth, and uses room.
use Prim.Native.Nat.{ℕ, suc, ◌-◌, ◌≤◌, ◌<◌}
use native.Mathlib.Omega.{arith}
use mathlib.Core.Path.{◌≡◌, sym, ◌∙◌, ap}
use mathlib.Core.Logic.{◌⊎◌, inl, inr}
use mathlib.Core.List.Memᴰ
use mathlib.Core.List.{List, [], ◌∷◌, Memᴰ}
use lib.ListN.{length}
use Rattle.settling.specs.Rank.{Shape}
use Rattle.settling.specs.Book.{good, enter, offer}
use Rattle.settling.specs.History.{winners}
use Rattle.settling.specs.Meaning.{Ascending, Kept, Vacant, Settles, Added}
use Rattle.settling.proofs.Enter.{enter_all_cons, enter_all_enter}
use Rattle.settling.proofs.Inside.{enter_all_ascending}
use Rattle.settling.proofs.Members.{ascending_one, enter_member, Held, enter_holds}
use Rattle.settling.proofs.Holders.{holder_vacant, enter_vacant, first_there, new_member}
use Rattle.settling.proofs.Settle.{offer_fits, offer_rises, offer_near}
use Rattle.settling.proofs.Winners.{settle_settles}
use Rattle.settling.proofs.Answers.{outcome_vacant, taken_inside}

module _ {A : Type 0} (B : Shape A) where
  open B use {slot, near, capacity, top}

  -- the winners of an ascending list and a record
  pub winners_cons : (a : A) (l : List A) → Ascending B l → winners B (a ∷ l) ≡ enter B a l
  unfolding winners
  winners_cons a l o = enter_all_cons B [] a l ∙ enter_all_enter B a [] l ∙ ap (enter B a) (enter_all_ascending B l o)

  -- the records that were there stay, where the slot was vacant
  pub vacant_stays : (a r : A) (l : List A) → Ascending B l → Vacant B l (slot a) → Memᴰ r l → Memᴰ r (enter B a l)
  vacant_stays a r l o v m = go (enter_holds B r a l m)
    where
      go : Held B r (enter B a l) → Memᴰ r (enter B a l)
      go h = split (enter_member B h.by a l h.there)
        where
          split : (h.by ≡ a) ⊎ Memᴰ h.by l → Memᴰ r (enter B a l)
          split (inl e) = absurd (v r m (sym h.same_slot ∙ ap slot e))
          split (inr k) = Memᴰ.cast (ascending_one B r h.by l o m k (sym h.same_slot)) h.there

  module _ (d : ℕ) (l : List A) (a : A) (w : Kept B d l) (near_enough : d ≤ near (slot a)) where
    low : d ≤ top
    low = w.shallow

    pub offer_settles : Settles B d (a ∷ l) (offer B (good d l) a)
    offer_settles = rw (offer_near B d l a near_enough w.ascending w.inner, ← winners_cons a l w.ascending) (settle_settles B (suc (top - d)) d (a ∷ l) (omega (arith, low)))

    pub least_depth : Vacant B l (slot a) → length l ≡ capacity → Settles B (suc d) (a ∷ l) (offer B (good d l) a)
    least_depth v n =
        let full : capacity < length (enter B a l) = omega (arith, enter_vacant B a l v) in
        rw (offer_rises B d l a near_enough full, ← winners_cons a l w.ascending) (settle_settles B (top - d) (suc d) (a ∷ l) (omega (arith, low)))

    pub room_is_used : Vacant B l (slot a) → length l < capacity → Added B d l a
    room_is_used v n = record {
      list = enter B a l;
      ends = ends;
      one_more = enter_vacant B a l v;
      members = λ r. (enter_member B r a l, back r);
      answer = outcome_vacant B d l a near_enough (holder_vacant B (slot a) l v) ∙ rw ends (taken_inside B a d (enter B a l) near_enough);
    }
      where
        ends : offer B (good d l) a ≡ good d (enter B a l)
        ends = offer_fits B d l a near_enough (omega (arith, enter_vacant B a l v))

        back : (r : A) → (r ≡ a) ⊎ Memᴰ r l → Memᴰ r (enter B a l)
        back r (inl e) = Memᴰ.cast e (new_member B a l w.ascending (first_there v))
        back r (inr m) = vacant_stays a r l w.ascending v m
