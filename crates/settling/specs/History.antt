-- Histories: a fresh book, and offers as they come.
use Rattle.std.specs.Prelude.{ℕ, suc, ◌-◌, List, [], ◌∷◌}
use Rattle.std.proofs.Math.Option.{Option, none, some}
use Rattle.settling.specs.Rank.{Shape}
use Rattle.settling.specs.Book.{State, good, enter, settle, offer}

module _ {A : Type 0} (B : Shape A) where
  open B use {top}

  -- a fresh book: good, at its starting depth, without a record
  unfoldable pub fresh : ℕ → State A
  fresh start = good start []

  -- offers that passed the stamp's checks, one after another
  unfoldable pub run : State A → List A → State A
  run b [] = b
  run b (a ∷ s) = run (offer B b a) s

  -- an offer as it comes: a refused one (`none`) changes nothing
  unfoldable pub hand : State A → Option A → State A
  hand b none = b
  hand b (some a) = offer B b a

  -- the records of s entered into l, one after another
  unfoldable pub enter_all : List A → List A → List A
  enter_all l [] = l
  enter_all l (a ∷ s) = enter_all (enter B a l) s

  -- of each slot the highest rank
  unfoldable pub winners : List A → List A
  winners s = enter_all [] s

  -- what offers settle to, said without a history: the winners inside the least depth from the starting depth on at which they fit
  unfoldable pub settled : ℕ → List A → State A
  settled start s = settle B (suc top - start) start (winners s)

-- Offers as they come, of any kind O. `taking o` is the record of an offer that passes the stamp's checks, `none` for a refused one:
-- those checks look at the offer and the batch list alone, never at the book.
module _ {A : Type 0} (B : Shape A) {O : Type 0} (taking : O → Option A) where
  unfoldable pub hear : State A → List O → State A
  hear b [] = b
  hear b (o ∷ s) = hear (hand B b (taking o)) s

unfoldable pub also : {A : Type 0} → Option A → List A → List A
also none l = l
also (some a) l = a ∷ l

module _ {A : Type 0} {O : Type 0} (taking : O → Option A) where
  -- the records of the valid offers
  unfoldable pub valid : List O → List A
  valid [] = []
  valid (o ∷ s) = also (taking o) (valid s)
