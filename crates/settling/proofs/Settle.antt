-- Settling: an offer to what records settle to is what they settle to with the new one. From this step follows the whole of histories.
use Prim.Native.Nat.{ℕ, zero, suc, ◌+◌, ◌-◌, ◌≤◌, ◌<◌}
use native.Mathlib.Omega.{arith}
use native.Mathlib.Nat.{le_refl}
use mathlib.Core.Path.{◌≡◌, refl, sym, ◌∙◌, ap}
use mathlib.Core.List.{List, [], ◌∷◌}
use lib.ListN.{length}
use borrow.Author.Tests.{lt-leb, le-leb, lt-ltb, le-ltb}
use Rattle.settling.specs.Rank.{Shape}
use Rattle.settling.specs.Book.{overfull, good, enter, inside, settle, offer}
use Rattle.settling.specs.History.{run, enter_all}
use Rattle.settling.specs.Meaning.{Each, Ascending}
use Rattle.settling.proofs.Cases.{Side, below, level, above, side, from_next, Limit, within, beyond, limit}
use Rattle.settling.proofs.Inside.{inside_inside, inside_all, inside_inner, inside_enter_in, inside_enter_out, inside_more, ascending_inside, ascending_enter}

module _ {A : Type 0} (B : Shape A) where
  open B use {slot, near, capacity, top}

  -- too many records at a depth
  abbrev pub Full : List A → ℕ → Type 0
  Full l c = capacity < length (inside B c l)

  pub settle_zero : (d : ℕ) (l : List A) → settle B zero d l ≡ overfull
  unfolding settle
  settle_zero d l = refl

  pub settle_fits : (n d : ℕ) (l : List A) → length (inside B d l) ≤ capacity → settle B (suc n) d l ≡ good d (inside B d l)
  unfolding settle
  settle_fits n d l p = cc (le-leb _ capacity p)

  pub settle_next : (n d : ℕ) (l : List A) → Full l d → settle B (suc n) d l ≡ settle B n (suc d) l
  unfolding settle
  settle_next n d l p = cc (lt-leb _ capacity p)

  -- what a smaller depth drops plays no part
  pub settle_inside : (e n d : ℕ) (l : List A) → e ≤ d → settle B n d (inside B e l) ≡ settle B n d l
  settle_inside e zero d l p = settle_zero d (inside B e l) ∙ sym (settle_zero d l)
  settle_inside e (suc n) d l p = go (settle_inside e n (suc d) l (omega arith)) (limit (length (inside B d l)) capacity)
    where
      same : inside B d (inside B e l) ≡ inside B d l
      same = inside_inside B e d l p

      go : settle B n (suc d) (inside B e l) ≡ settle B n (suc d) l → Limit (length (inside B d l)) capacity → settle B (suc n) d (inside B e l) ≡ settle B (suc n) d l
      go ih (within q) = settle_fits n d (inside B e l) (rw same q) ∙ rw same (sym (settle_fits n d l q))
      go ih (beyond q) = settle_next n d (inside B e l) (rw same q) ∙ ih ∙ sym (settle_next n d l q)

  -- where the search for a depth ends
  pub data Sought (n s : ℕ) (l : List A) : Type 0 where
    found : (d : ℕ) → s ≤ d → d < n + s → length (inside B d l) ≤ capacity → ((c : ℕ) → s ≤ c → c < d → Full l c) → settle B n s l ≡ good d (inside B d l) → Sought n s l
    nowhere : ((c : ℕ) → s ≤ c → c < n + s → Full l c) → settle B n s l ≡ overfull → Sought n s l

  pub seek : (n s : ℕ) (l : List A) → Sought n s l
  seek zero s l = nowhere (λ c a b. absurd (omega arith)) (settle_zero s l)
  seek (suc n) s l = go (seek n (suc s) l) (limit (length (inside B s l)) capacity)
    where
      go : Sought n (suc s) l → Limit (length (inside B s l)) capacity → Sought (suc n) s l
      go w (within p) = found s (le_refl s) (omega arith) p (λ c a b. absurd (omega arith)) (settle_fits n s l p)
      go (found d a b f u q) (beyond p) = found d (omega arith) (omega arith) f (λ c x y. from_next (Full l) s p c x (λ k. u c k y)) (settle_next n s l p ∙ q)
      go (nowhere u q) (beyond p) = nowhere (λ c x y. from_next (Full l) s p c x (λ k. u c k (omega arith))) (settle_next n s l p ∙ q)

  -- the depth at which the search must end
  pub settle_at : (n s d : ℕ) (l : List A) → s ≤ d → d < n + s → ((c : ℕ) → s ≤ c → c < d → Full l c) → length (inside B d l) ≤ capacity → settle B n s l ≡ good d (inside B d l)
  settle_at n s d l a b u f = go (seek n s l)
    where
      go : Sought n s l → settle B n s l ≡ good d (inside B d l)
      go (found e a' b' f' u' q) = meet (side d e)
        where
          meet : Side d e → settle B n s l ≡ good d (inside B d l)
          meet (below h) = let z : Full l d = u' d a h in absurd (omega arith)
          meet (level h) = rw h q
          meet (above h) = let z : Full l e = u e a' h in absurd (omega arith)
      go (nowhere u' q) = let z : Full l d = u' d a b in absurd (omega arith)

  pub settle_over : (n s : ℕ) (l : List A) → ((c : ℕ) → s ≤ c → c < n + s → Full l c) → settle B n s l ≡ overfull
  settle_over n s l u = go (seek n s l)
    where
      go : Sought n s l → settle B n s l ≡ overfull
      go (found d a b f v q) = let z : Full l d = u d a b in absurd (omega arith)
      go (nowhere v q) = q

  -- an equation a case
  pub offer_overfull : (a : A) → offer B overfull a ≡ overfull
  unfolding offer
  offer_overfull a = refl

  pub offer_far : (d : ℕ) (l : List A) (a : A) → near (slot a) < d → offer B (good d l) a ≡ good d l
  unfolding offer
  offer_far d l a p = rw (lt-ltb _ d p)

  pub offer_fits : (d : ℕ) (l : List A) (a : A) → d ≤ near (slot a) → length (enter B a l) ≤ capacity → offer B (good d l) a ≡ good d (enter B a l)
  unfolding offer
  offer_fits d l a p q = rw (le-ltb _ d p, le-leb _ capacity q)

  pub offer_rises : (d : ℕ) (l : List A) (a : A) → d ≤ near (slot a) → capacity < length (enter B a l) → offer B (good d l) a ≡ settle B (top - d) (suc d) (enter B a l)
  unfolding offer
  offer_rises d l a p q = rw (le-ltb _ d p, lt-leb _ capacity q)

  -- an offer inside the depth settles the records with the new one, from this depth on
  pub offer_near : (d : ℕ) (l : List A) (a : A) → d ≤ near (slot a) → Ascending B l → Each (λ r. d ≤ near (slot r)) l → offer B (good d l) a ≡ settle B (suc (top - d)) d (enter B a l)
  offer_near d l a p o k = go (limit (length (enter B a l)) capacity)
    where
      whole : inside B d (enter B a l) ≡ enter B a l
      whole = inside_enter_in B d a l p o ∙ ap (enter B a) (inside_all B d l k)

      go : Limit (length (enter B a l)) capacity → offer B (good d l) a ≡ settle B (suc (top - d)) d (enter B a l)
      go (within q) = offer_fits d l a p q ∙ ap (good d) (sym whole) ∙ sym (settle_fits (top - d) d (enter B a l) (rw whole q))
      go (beyond q) = offer_rises d l a p q ∙ sym (settle_next (top - d) d (enter B a l) (rw whole q))

  -- the step
  pub offer_settle : (n d : ℕ) (l : List A) (a : A) → n + d ≡ suc top → Ascending B l → offer B (settle B n d l) a ≡ settle B n d (enter B a l)
  offer_settle zero d l a e o = rw (settle_zero d l) (offer_overfull a ∙ sym (settle_zero d (enter B a l)))
  offer_settle (suc n) d l a e o = go (offer_settle n (suc d) l a (omega arith) o) (limit (length (inside B d l)) capacity)
    where
      left : top - d ≡ n
      left = omega arith

      -- where the records fit at d
      fit : length (inside B d l) ≤ capacity → Limit d (near (slot a)) → offer B (good d (inside B d l)) a ≡ settle B (suc n) d (enter B a l)
      fit p (within q) =
          offer_near d (inside B d l) a q (ascending_inside B d l o) (inside_inner B d l)
          ∙ rw (left, ← inside_enter_in B d a l q o) (settle_inside d (suc n) d (enter B a l) (le_refl d))
      fit p (beyond q) =
          offer_far d (inside B d l) a q
          ∙ rw (← inside_enter_out B d a l q) (sym (settle_fits n d (enter B a l) (rw (inside_enter_out B d a l q) p)))

      -- where they do not, neither do they with one more
      go : offer B (settle B n (suc d) l) a ≡ settle B n (suc d) (enter B a l) → Limit (length (inside B d l)) capacity → offer B (settle B (suc n) d l) a ≡ settle B (suc n) d (enter B a l)
      go ih (within p) = rw (settle_fits n d l p) (fit p (limit d (near (slot a))))
      go ih (beyond p) =
          let m : length (inside B d l) ≤ length (inside B d (enter B a l)) = inside_more B d a l o in
          rw (settle_next n d l p, settle_next n d (enter B a l) (omega arith)) ih

  pub run_settle : (n d : ℕ) (l s : List A) → n + d ≡ suc top → Ascending B l → run B (settle B n d l) s ≡ settle B n d (enter_all B l s)
  unfolding run enter_all
  run_settle n d l [] e o = refl
  run_settle n d l (a ∷ s) e o = rw (offer_settle n d l a e o) (run_settle n d (enter B a l) s e (ascending_enter B a l o))
