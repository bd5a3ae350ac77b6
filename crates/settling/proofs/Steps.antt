-- The offer as code does it: by the place that halving found and the depth that the counters gave. One law for each way that it ends.
use Prim.Native.Nat.{ℕ, suc, ◌+◌, ◌-◌, ◌≤◌, ◌<◌}
use native.Mathlib.Omega.{arith}
use mathlib.Core.Path.{◌≡◌, sym, ◌∙◌, ap}
use mathlib.Core.Bool.{true, false}
use mathlib.Core.Logic.{inr}
use mathlib.Core.Option.{some}
use mathlib.Core.List.{List, ◌∷◌, ◌++◌}
use lib.ListN.{length, take, drop, get_or, set}
use lib.Seq.{set-get_or}
use Rattle.settling.specs.Rank.{Shape, higher}
use Rattle.settling.specs.Book.{State, overfull, good, enter, inside, settle, offer}
use Rattle.settling.specs.Answer.{holder, taken, outcome}
use Rattle.settling.specs.Meaning.{Ascending, Kept, Vacant}
use Rattle.settling.proofs.Cases.{Limit, within, beyond, limit, not_true}
use Rattle.settling.proofs.Rank.{higher_first, higher_second, not_atleast}
use Rattle.settling.proofs.Inside.{inside_in_lem, inside_out, inside_enter_in, inside_enter_out, inside_append}
use Rattle.settling.proofs.Members.{inside_member}
use Rattle.settling.proofs.Holders.{holder_vacant, enter_vacant, enter_same_length}
use Rattle.settling.proofs.Settle.{Full, settle_at, settle_over, offer_far, offer_fits, offer_rises}
use Rattle.settling.proofs.Answers.{outcome_far, outcome_held, outcome_very, outcome_vacant, outcome_beating, taken_overfull, taken_inside, taken_outside}
use Rattle.settling.proofs.Places.{slot_at, Place, member_at, holder_at, enter_at, enter_at_held, vacant_at}

module _ {A : Type 0} (B : Shape A) where
  open B use {slot, beats, near, capacity, top, rank}

  -- the offer of a to the good book ends in c and is answered n
  pub record Step (d : ℕ) (l : List A) (a : A) (c : State A) (n : ℕ) : Type 0 where
    pub ends : offer B (good d l) a ≡ c
    pub answer : outcome B (good d l) a ≡ n

  -- a vacant slot's new record counts as if it stood in front
  pub inside_vacant : (c : ℕ) (a : A) (l : List A) → Ascending B l → Vacant B l (slot a) → length (inside B c (enter B a l)) ≡ length (inside B c (a ∷ l))
  inside_vacant c a l o v = go (limit c (near (slot a)))
    where
      still : Vacant B (inside B c l) (slot a)
      still r m e = v r (inside_member B c r l m).0 e

      go : Limit c (near (slot a)) → length (inside B c (enter B a l)) ≡ length (inside B c (a ∷ l))
      go (within p) = rw (inside_enter_in B c a l p o, inside_in_lem B c a l p) (enter_vacant B a (inside B c l) still)
      go (beyond p) = rw (inside_enter_out B c a l p, inside_out B c a l p)

  pub step_far : (d : ℕ) (l : List A) (a : A) → near (slot a) < d → Step d l a (good d l) 20
  step_far d l a p = record { ends = offer_far B d l a p; answer = outcome_far B d l a p }

  -- the place i of the offer's slot is found
  module _ (z : A) (d : ℕ) (l : List A) (a : A) (i : ℕ) (w : Kept B d l) (near_enough : d ≤ near (slot a)) (place : Place B z l (slot a) i) where
    module _ (inlist : i < length l) (same_slot : slot_at B z l i ≡ slot a) where
      hold : holder B (slot a) l ≡ some (get_or l i z)
      hold = rw (← same_slot) (holder_at B z l i w.ascending inlist)

      entered : offer B (good d l) a ≡ good d (set l i (higher beats (get_or l i z) a))
      entered =
          let n : length (enter B a l) ≡ length l = enter_same_length B a (get_or l i z) same_slot l w.ascending (member_at z l i inlist) in
          let f : length l ≤ capacity = w.fits in
          offer_fits B d l a near_enough (omega (arith, n, f)) ∙ ap (good d) (enter_at_held B z a l i place inlist same_slot)

      stays : beats a (get_or l i z) ≡ false → offer B (good d l) a ≡ good d l
      stays u = entered ∙ ap (λ (r : A). good d (set l i r)) (higher_first beats (get_or l i z) a u) ∙ ap (good d) (set-get_or l i z)

      pub step_very : get_or l i z ≡ a → Step d l a (good d l) 21
      step_very e = record { ends = stays (rw e (rank.irrefl a)); answer = outcome_very B d l a near_enough (hold ∙ ap some e) }

      pub step_lower : beats (get_or l i z) a ≡ true → Step d l a (good d l) 22
      step_lower b =
          let u : beats a (get_or l i z) ≡ false = not_true (beats a (get_or l i z)) (λ c. not_atleast rank a (get_or l i z) (sym same_slot) c (inr b)) in
          record { ends = stays u; answer = outcome_held B d l a near_enough (get_or l i z) hold u b }

      pub step_replaced : beats a (get_or l i z) ≡ true → Step d l a (good d (set l i a)) 0
      step_replaced b = record { ends = done; answer = outcome_beating B d l a near_enough (get_or l i z) hold b ∙ rw done (taken_inside B a d (set l i a) near_enough) }
        where
          done : offer B (good d l) a ≡ good d (set l i a)
          done = entered ∙ ap (λ (r : A). good d (set l i r)) (higher_second beats (get_or l i z) a b)

    -- the slot is empty
    module _ (free : i < length l → slot a < slot_at B z l i) where
      vacant : Vacant B l (slot a)
      vacant = vacant_at B z (slot a) l i w.ascending place free

      entry : enter B a l ≡ take i l ++ (a ∷ drop i l)
      entry = enter_at B z a l i place free

      answered : outcome B (good d l) a ≡ taken B a (offer B (good d l) a)
      answered = outcome_vacant B d l a near_enough (holder_vacant B (slot a) l vacant)

      pub step_added : length l < capacity → Step d l a (good d (take i l ++ (a ∷ drop i l))) 0
      step_added h = record { ends = done; answer = answered ∙ rw done (taken_inside B a d (take i l ++ (a ∷ drop i l)) near_enough) }
        where
          done : offer B (good d l) a ≡ good d (take i l ++ (a ∷ drop i l))
          done = offer_fits B d l a near_enough (omega (arith, h, enter_vacant B a l vacant)) ∙ ap (good d) entry

      -- and the count would pass capacity
      module _ (full : capacity ≤ length l) where
        rises : offer B (good d l) a ≡ settle B (top - d) (suc d) (enter B a l)
        rises = offer_rises B d l a near_enough (omega (arith, full, enter_vacant B a l vacant))

        many : (c : ℕ) → Full B (a ∷ l) c → Full B (enter B a l) c
        many c h = rw (inside_vacant c a l w.ascending vacant) h

        pub step_bursts : ((c : ℕ) → d < c → c ≤ top → Full B (a ∷ l) c) → Step d l a overfull 3
        step_bursts u = record { ends = done; answer = answered ∙ rw done (taken_overfull B a) }
          where
            done : offer B (good d l) a ≡ overfull
            done = rises ∙ settle_over B (top - d) (suc d) (enter B a l) (λ c x y. many c (u c x (omega (arith, x, y))))

        -- e is the least depth at which they fit
        module _ (e : ℕ) (risen : d < e) (upto : e ≤ top) (passed : (c : ℕ) → d < c → c < e → Full B (a ∷ l) c) (fits : length (inside B e (a ∷ l)) ≤ capacity) where
          risen_to : offer B (good d l) a ≡ good e (inside B e (enter B a l))
          risen_to =
              rises
              ∙ settle_at B (top - d) (suc d) e (enter B a l) risen (omega (arith, risen, upto)) (λ c x y. many c (passed c x y)) (rw (inside_vacant e a l w.ascending vacant) fits)

          pub step_dropped : near (slot a) < e → Step d l a (good e (inside B e l)) 2
          step_dropped p = record { ends = done; answer = answered ∙ rw done (taken_outside B a e (inside B e l) p) }
            where
              done : offer B (good d l) a ≡ good e (inside B e l)
              done = risen_to ∙ ap (good e) (inside_enter_out B e a l p)

          -- the records before place i that stay come before it, the others after
          pub step_risen : e ≤ near (slot a) → Step d l a (good e (inside B e (take i l) ++ (a ∷ inside B e (drop i l)))) 0
          step_risen p = record { ends = done; answer = answered ∙ rw done (taken_inside B a e (inside B e (take i l) ++ (a ∷ inside B e (drop i l))) p) }
            where
              done : offer B (good d l) a ≡ good e (inside B e (take i l) ++ (a ∷ inside B e (drop i l)))
              done = risen_to ∙ ap (good e) (ap (inside B e) entry ∙ inside_append B e (take i l) (a ∷ drop i l) ∙ ap (λ (m : List A). inside B e (take i l) ++ m) (inside_in_lem B e a (drop i l) p))
