-- The number that an offer which passed the stamp's checks hands back.
use Rattle.std.specs.Prelude.{ℕ, cond, List, [], ◌∷◌, eqb, leb, ltb}
use Rattle.std.proofs.Math.Option.{Option, none, some}
use Rattle.settling.specs.Rank.{Shape}
use Rattle.settling.specs.Book.{State, overfull, good, offer}

module _ {A : Type 0} (B : Shape A) where
  open B use {slot, beats, near}

  -- the record that holds slot k
  unfoldable pub holder : ℕ → List A → Option A
  holder k [] = none
  holder k (r ∷ l) = cond (eqb k (slot r)) (some r) (holder k l)

  -- an offer that changed the book: 3 made it overfull, 0 kept, 2 raised the depth and itself was dropped
  unfoldable pub taken : A → State A → ℕ
  taken a overfull = 3
  taken a (good d l) = cond (leb d (near (slot a))) 0 2

  -- Against the slot's holder: 22 it ranks higher; 21 neither ranks higher, which in one slot is this very record.
  unfoldable pub against : A → State A → Option A → ℕ
  against a after none = taken a after
  against a after (some r) = cond (beats a r) (taken a after) (cond (beats r a) 22 21)

  -- 14 overfull, then 20 shared bits below depth, then by the slot's holder
  unfoldable pub outcome : State A → A → ℕ
  outcome overfull a = 14
  outcome (good d l) a = cond (ltb (near (slot a)) d) 20 (against a (offer B (good d l) a) (holder (slot a) l))
