-- The book as a value, and what an offer does to it, in document 01's words.
use Rattle.std.specs.Prelude.{ℕ, zero, suc, ◌-◌, cond, List, [], ◌∷◌, length, eqb, leb, ltb}
use Rattle.settling.specs.Rank.{Shape, higher}

-- overfull; or good, with a depth and the records, ascending by slot
pub data State (A : Type 0) : Type 0 where
  overfull : State A
  good : ℕ → List A → State A

module _ {A : Type 0} (B : Shape A) where
  open B use {slot, beats, near, capacity, top}

  -- "A valid offer for an empty slot adds a record; for a held slot, the higher rank stays."
  unfoldable pub enter : A → List A → List A
  enter a [] = a ∷ []
  enter a (r ∷ l) =
      cond (ltb (slot a) (slot r)) (a ∷ r ∷ l)
      (cond (eqb (slot a) (slot r)) (higher beats r a ∷ l)
      (r ∷ enter a l))

  -- the records that lie inside depth d: their slot shares at least d bits with the overlay
  unfoldable pub inside : ℕ → List A → List A
  inside d [] = []
  inside d (r ∷ l) = cond (leb d (near (slot r))) (r ∷ inside d l) (inside d l)

  -- "the least depth at which the remaining records fit; the others go": of n depths from d on. Where none is left: overfull.
  unfoldable pub settle : ℕ → ℕ → List A → State A
  settle zero d l = overfull
  settle (suc n) d l = cond (leb (length (inside d l)) capacity) (good d (inside d l)) (settle n (suc d) l)

  -- An offer that passed the stamp's checks: refused outside the depth; else the record enters, and "if the count would pass capacity,
  -- depth rises", at most to the top. An overfull book stays so.
  unfoldable pub offer : State A → A → State A
  offer overfull a = overfull
  offer (good d l) a =
      cond (ltb (near (slot a)) d) (good d l)
      (cond (leb (length (enter a l)) capacity) (good d (enter a l))
      (settle (top - d) (suc d) (enter a l)))
