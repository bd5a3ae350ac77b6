-- A draw from a book, a shelf, an anchor and a buffer for the sample: what it answers and hands back, on every input.
use Rattle.std.specs.Prelude.{Result, Ok, Err, cond, ◌&&◌, List, ◌++◌, map, ℕ, eqb, ltb, length}
use Rattle.records.specs.Record.{address_in}
use Rattle.book.specs.Layout.{state_in, count_in, records_in}
use Rattle.wellformed.specs.Check.{well_formed}
use Rattle.draw.specs.declared.answer.DrawError.{DrawError}
use Rattle.draw.specs.declared.answer.DrawError.TheVariants.{NotWellFormed, Overfull, WrongLength, TooFew}
use Rattle.draw.specs.Answer.{Done, and_then, only_done}
use Rattle.shelf.specs.Cell.{Cell, pair_of}
use Rattle.draw.specs.Shelf.{cells_hashed, cells_on, shelf_answer}
use Rattle.sample.specs.Sample.{sixteen, written, commitment_of, commitment_hashed}

-- the addresses of a book's records, in record order
abbrev pub addresses_in : List ℕ → List (List ℕ)
addresses_in book = map address_in (records_in book)

-- one cell a record
unfoldable pub cells_drawn : List ℕ → List ℕ → List Cell
cells_drawn book shelf = cells_on (count_in book) shelf

unfoldable pub pairs_drawn : List ℕ → List ℕ → List ℕ → List (List ℕ)
pairs_drawn book shelf anchor = map (pair_of anchor) (cells_drawn book shelf)

unfoldable pub sixteen_drawn : List ℕ → List ℕ → List ℕ → List (List ℕ)
sixteen_drawn book shelf anchor = sixteen (pairs_drawn book shelf anchor)

-- "Draw 13, 14, 10 (anchor, output), .."
unfoldable pub lent_answer : List ℕ → List ℕ → List ℕ → Result (Unit {0}) DrawError
lent_answer book anchor sample =
    cond (well_formed book)
    (cond (eqb (state_in book) 1) (Err Overfull)
    (cond (eqb (length anchor) 32 && eqb (length sample) 1024) Done (Err WrongLength)))
    (Err NotWellFormed)

-- ".. then cell by cell .., then 25, 26"
unfoldable pub draw_answer : List ℕ → List ℕ → List ℕ → List ℕ → Result (Unit {0}) DrawError
draw_answer book shelf anchor sample =
    and_then (lent_answer book anchor sample)
    (and_then (shelf_answer 0 (addresses_in book) shelf)
    (cond (ltb (length (sixteen_drawn book shelf anchor)) 16) (Err TooFew) Done))

-- the commitment, where nothing is refused
unfoldable pub drawn : List ℕ → List ℕ → List ℕ → List ℕ → Result (List ℕ) DrawError
drawn book shelf anchor sample = and_then (draw_answer book shelf anchor sample) (Ok (commitment_of (sixteen_drawn book shelf anchor)))

-- the lent buffer afterwards
unfoldable pub sample_after : List ℕ → List ℕ → List ℕ → List ℕ → List ℕ
sample_after book shelf anchor sample = only_done (draw_answer book shelf anchor sample) (written (sixteen_drawn book shelf anchor)) sample

-- the messages hashed by a draw that gives a hash: both addresses of every cell, and the commitment's
unfoldable pub draw_hashed : List ℕ → List ℕ → List ℕ → List (List ℕ)
draw_hashed book shelf anchor = cells_hashed anchor (cells_drawn book shelf) ++ commitment_hashed (sixteen_drawn book shelf anchor)
