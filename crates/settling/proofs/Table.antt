-- The table both ways: the number handed back is one that the table gives, and what the table gives is handed back.
use Prim.Native.Nat.{ℕ, ◌≤◌, ◌<◌}
use native.Mathlib.Omega.{arith}
use mathlib.Core.Path.{◌≡◌, sym, ◌∙◌, ap, subst}
use mathlib.Core.Bool.{false}
use mathlib.Core.Logic.{◌↔◌, inr}
use mathlib.Core.Option.{some}
use Rattle.settling.specs.Rank.{Shape}
use Rattle.settling.specs.Book.{State, overfull, good, offer}
use Rattle.settling.specs.Answer.{holder, taken, outcome}
use Rattle.settling.specs.Meaning.{Sound, Holds, Outside, Outranked, Raised, Given, kept, dropped, bursts, already, outside, very, outranked}
use Rattle.settling.proofs.Cases.{Limit, within, beyond, limit, not_true}
use Rattle.settling.proofs.Rank.{not_atleast}
use Rattle.settling.proofs.Members.{each_member}
use Rattle.settling.proofs.Holders.{holder_member}
use Rattle.settling.proofs.Settle.{offer_overfull}
use Rattle.settling.proofs.Sound.{offer_sound}
use Rattle.settling.proofs.Answers.{outcome_overfull, outcome_far, outcome_held, outcome_very, taken_overfull, taken_inside, taken_outside, Verdict, too_far, held_very, held_higher, is_new, verdict, given, changed}

module _ {A : Type 0} (B : Shape A) where
  open B use {slot, beats, near, top, rank}

  outside_told : (b : State A) (a : A) → Outside B b a → outcome B b a ≡ 20
  outside_told (good d l) a p = outcome_far B d l a p
  outside_told overfull a p = elim p [ ]

  very_told : (b : State A) (a : A) → Sound B b → Holds B b a → outcome B b a ≡ 21
  very_told (good d l) a w m = outcome_very B d l a (each_member (λ r. d ≤ near (slot r)) a l w.inner m) (holder_member B a l w.ascending m)
  very_told overfull a w m = elim m [ ]

  outranked_told : (b : State A) (a : A) → Sound B b → Outranked B b a → outcome B b a ≡ 22
  outranked_told overfull a w r = absurd r.held
  outranked_told (good d l) a w r =
      let s : slot r.by ≡ slot a = r.same_slot in
      let p : d ≤ near (slot r.by) = each_member (λ q. d ≤ near (slot q)) r.by l w.inner r.held in
      let h : holder B (slot r.by) l ≡ some r.by = holder_member B r.by l w.ascending r.held in
      let u : beats a r.by ≡ false = not_true (beats a r.by) (λ b. not_atleast rank a r.by (sym s) b (inr r.higher_rank)) in
      outcome_held B d l a (rw s at p) r.by (rw s at h) u r.higher_rank

  -- what an offer that changed the book ended in
  taken_held : (c : State A) (a : A) → Sound B c → Holds B c a → taken B a c ≡ 0
  taken_held (good e m) a w h = taken_inside B a e m (each_member (λ r. e ≤ near (slot r)) a m w.inner h)
  taken_held overfull a w h = elim h [ ]

  taken_gone : (c : State A) (a : A) → Outside B c a → taken B a c ≡ 2
  taken_gone (good e m) a p = taken_outside B a e m p
  taken_gone overfull a p = elim p [ ]

  raised_self : (b : State A) → Raised B b b → ⊥
  raised_self (good d l) p = omega arith
  raised_self overfull p = elim p [ ]

  told : (b : State A) (a : A) (n : ℕ) → Sound B b → Given B b a n → outcome B b a ≡ n
  told b a n w (kept f h) = changed B b a w (λ e. f (subst (λ (c : State A). Holds B c a) e h)) ∙ taken_held (offer B b a) a (offer_sound B b a w) h
  told b a n w (dropped r o) = changed B b a w (λ e. raised_self b (subst (λ (c : State A). Raised B b c) e r)) ∙ taken_gone (offer B b a) a o
  told b a n w (bursts f e) = changed B b a w (λ q. f (sym q ∙ e)) ∙ ap (taken B a) e ∙ taken_overfull B a
  told b a n w (already e) = rw e (outcome_overfull B a)
  told b a n w (outside p) = outside_told b a p
  told b a n w (very m) = very_told b a w m
  told b a n w (outranked r) = outranked_told b a w r

  pub answers : (b : State A) (a : A) (n : ℕ) → Sound B b → (outcome B b a ≡ n) ↔ Given B b a n
  answers b a n w = (λ e. subst (Given B b a) e (given B b a w), λ g. told b a n w g)

  -- a number from 10 up
  taken_small : (a : A) (c : State A) → taken B a c < 10
  taken_small a overfull = rw (taken_overfull B a) (omega arith)
  taken_small a (good d l) = go (limit d (near (slot a)))
    where
      go : Limit d (near (slot a)) → taken B a (good d l) < 10
      go (within p) = rw (taken_inside B a d l p) (omega arith)
      go (beyond p) = rw (taken_outside B a d l p) (omega arith)

  pub refused_same : (b : State A) (a : A) → Sound B b → 10 ≤ outcome B b a → offer B b a ≡ b
  refused_same overfull a w h = offer_overfull B a
  refused_same (good d l) a w h = go (verdict B d l a w)
    where
      go : Verdict B d l a → offer B (good d l) a ≡ good d l
      go (too_far p o e) = o
      go (held_very m o e) = o
      go (held_higher r o e) = o
      go (is_new p n e) = absurd (omega (arith, taken_small a (offer B (good d l) a)))

  pub same_refused : (b : State A) (a : A) → Sound B b → offer B b a ≡ b → 10 ≤ outcome B b a
  same_refused b a w e = go (outcome B b a) (given B b a w)
    where
      go : (n : ℕ) → Given B b a n → 10 ≤ n
      go n (kept f h) = absurd (f (subst (λ (c : State A). Holds B c a) e h))
      go n (dropped r o) = absurd (raised_self b (subst (λ (c : State A). Raised B b c) e r))
      go n (bursts f q) = absurd (f (sym e ∙ q))
      go n (already q) = omega arith
      go n (outside p) = omega arith
      go n (very m) = omega arith
      go n (outranked r) = omega arith
