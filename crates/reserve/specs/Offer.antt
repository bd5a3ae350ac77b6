-- The offer on bytes, in document 01's order: "Offer 13, 14, 15, 10, then 16 to 22."
use Rattle.std.specs.Prelude.{cond, List, ℕ, eqb}
use Rattle.settling.specs.Rank.{Shape}
use Rattle.settling.specs.Book as settling
use Rattle.settling.specs.Answer.{outcome}
use Rattle.records.specs.Record.{record_of}
use Rattle.book.specs.Shape.{shape}
use Rattle.book.specs.Layout.{state_in}
use Rattle.book.specs.Book.{Book, in_state, read, write}
use Rattle.wellformed.specs.Check.{well_formed}
use Rattle.reserve.specs.Stamps.{stamp_answer}

-- the number handed back, and the book's bytes afterwards
pub record Ended : Type 0 where
  pub number : ℕ
  pub bytes : List ℕ

-- the records, slots, rank, nearness and capacity of a book
abbrev pub shape_of : Book → Shape (List ℕ)
shape_of b = shape b.overlay b.capacity

-- a valid offer, of the record r: the state settles anew
unfoldable pub entered : Book → List ℕ → Ended
entered b r = record { number = outcome (shape_of b) b.state r; bytes = write (in_state b (settling.offer (shape_of b) b.state r)) }

module _ (book batches address stamp account : List ℕ) where
  -- a refusal leaves every byte
  abbrev pub refused : ℕ → Ended
  refused n = record { number = n; bytes = book }

  unfoldable pub offered : Ended
  offered =
      cond (well_formed book)
      (cond (eqb (state_in book) 1) (refused 14)
      (cond (eqb (stamp_answer batches address stamp account) 0) (entered (read book) (record_of address stamp))
      (refused (stamp_answer batches address stamp account))))
      (refused 13)
