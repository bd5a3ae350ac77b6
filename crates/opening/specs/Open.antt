-- Opening a book: "27, 10", then every byte of the buffer is written.
use Rattle.std.specs.Prelude.{Bool, cond, ◌&&◌, Result, Ok, Err, List, [], ℕ, ◌+◌, ◌*◌, eqb, leb, length}
use Rattle.settling.specs.Book.{good}
use Rattle.answers.specs.Number.{done, answer_number}
use Rattle.opening.specs.declared.open.OpenError.{OpenError}
use Rattle.opening.specs.declared.open.OpenError.TheVariants.{OutOfRange, WrongLength}
use Rattle.book.specs.Book.{Book, write}

-- "Capacity 16 to 65,536", starting depth 0 to 16
unfoldable pub in_range : ℕ → ℕ → Bool
in_range capacity starting = leb 16 capacity && (leb capacity 65536 && leb starting 16)

-- "A fresh book is state 0, depth equal to starting depth, count 0"
abbrev pub fresh_book : List ℕ → ℕ → ℕ → Book
fresh_book overlay capacity starting = record { starting = starting; overlay = overlay; capacity = capacity; state = good starting [] }

-- what a buffer s holds after an answer
abbrev pub left : Result (Unit {0}) OpenError → Book → List ℕ → List ℕ
left (Ok done) fresh s = write fresh
left (Err error) fresh s = s

module _ (s overlay : List ℕ) (capacity starting : ℕ) where
  unfoldable pub open_answer : Result (Unit {0}) OpenError
  open_answer =
      cond (in_range capacity starting)
      (cond (eqb (length overlay) 32 && eqb (length s) (48 + 145 * capacity)) (Ok tt) (Err WrongLength))
      (Err OutOfRange)

  unfoldable pub open_bytes : List ℕ
  open_bytes = left open_answer (fresh_book overlay capacity starting) s

-- for each answer the number handed back
abbrev pub error_number : OpenError → ℕ
error_number OutOfRange = 27
error_number WrongLength = 10

abbrev pub open_number : Result (Unit {0}) OpenError → ℕ
open_number = answer_number done error_number
