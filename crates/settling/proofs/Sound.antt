-- What every offer keeps: a sound book stays sound, and what holds of each record goes on to hold.
use Prim.Native.Nat.{ℕ, suc, ◌+◌, ◌-◌, ◌≤◌}
use native.Mathlib.Omega.{arith}
use mathlib.Core.Path.{◌≡◌}
use mathlib.Core.List.{List, [], ◌∷◌}
use lib.ListN.{length}
use Rattle.settling.specs.Rank.{Shape}
use Rattle.settling.specs.Book.{State, overfull, good, enter, settle, offer}
use Rattle.settling.specs.History.{fresh, run}
use Rattle.settling.specs.Meaning.{Each, Every, Ascending, Sound}
use Rattle.settling.proofs.Cases.{Limit, within, beyond, limit}
use Rattle.settling.proofs.Inside.{inside_inner, each_inside, each_enter, ascending_inside, ascending_enter}
use Rattle.settling.proofs.Settle.{Sought, found, nowhere, seek, offer_overfull, offer_far, offer_fits, offer_rises, offer_near}

module _ {A : Type 0} (B : Shape A) where
  open B use {slot, near, capacity, top}

  pub settle_sound : (n s : ℕ) (l : List A) → n + s ≡ suc top → Ascending B l → Sound B (settle B n s l)
  settle_sound n s l e o = go (seek B n s l)
    where
      go : Sought B n s l → Sound B (settle B n s l)
      go (found d a b f u q) = rw q (record { shallow = omega arith; ascending = ascending_inside B d l o; inner = inside_inner B d l; fits = f })
      go (nowhere u q) = rw q tt

  pub offer_sound : (b : State A) (a : A) → Sound B b → Sound B (offer B b a)
  offer_sound overfull a w = rw (offer_overfull B a) tt
  offer_sound (good d l) a w = go (limit d (near (slot a)))
    where
      all : suc (top - d) + d ≡ suc top
      all = let h : d ≤ top = w.shallow in omega arith

      go : Limit d (near (slot a)) → Sound B (offer B (good d l) a)
      go (within q) = rw (offer_near B d l a q w.ascending w.inner) (settle_sound (suc (top - d)) d (enter B a l) all (ascending_enter B a l w.ascending))
      go (beyond q) = rw (offer_far B d l a q) w

  pub run_sound : (b : State A) (s : List A) → Sound B b → Sound B (run B b s)
  unfolding run
  run_sound b [] w = w
  run_sound b (a ∷ s) w = run_sound (offer B b a) s (offer_sound b a w)

  pub fresh_sound : (start : ℕ) → start ≤ top → Sound B (fresh B start)
  unfolding fresh
  fresh_sound start p = record { shallow = p; ascending = tt; inner = tt; fits = omega arith }

  module _ (P : A → Type 0) where
    pub every_settle : (n s : ℕ) (l : List A) → Each P l → Every P (settle B n s l)
    every_settle n s l o = go (seek B n s l)
      where
        go : Sought B n s l → Every P (settle B n s l)
        go (found d a b f u q) = rw q (each_inside B P d l o)
        go (nowhere u q) = rw q tt

    pub every_offer : (b : State A) (a : A) → P a → Every P b → Every P (offer B b a)
    every_offer overfull a p o = rw (offer_overfull B a) tt
    every_offer (good d l) a p o = go (limit d (near (slot a))) (limit (length (enter B a l)) capacity)
      where
        with_a : Each P (enter B a l)
        with_a = each_enter B P a l p o

        go : Limit d (near (slot a)) → Limit (length (enter B a l)) capacity → Every P (offer B (good d l) a)
        go (within q) (within f) = rw (offer_fits B d l a q f) with_a
        go (within q) (beyond f) = rw (offer_rises B d l a q f) (every_settle (top - d) (suc d) (enter B a l) with_a)
        go (beyond q) f = rw (offer_far B d l a q) o

    pub every_run : (b : State A) (s : List A) → Each P s → Every P b → Every P (run B b s)
    unfolding run
    every_run b [] p o = o
    every_run b (a ∷ s) p o = every_run (offer B b a) s p.1 (every_offer b a p.0 o)
