-- Document 01's number for each answer of a draw, and the place that it names.
use Rattle.std.specs.Prelude.{Result, Ok, Err, List, ℕ}
use Rattle.answers.specs.Number.{done, answer_number}
use Rattle.shelf.specs.declared.cell.CellError.{CellError}
use Rattle.shelf.specs.declared.cell.CellError.TheVariants as Cell
use Rattle.draw.specs.declared.answer.DrawError.{DrawError}
use Rattle.draw.specs.declared.answer.DrawError.TheVariants.{NotWellFormed, Overfull, WrongLength, ShelfEnds, TooLong, Mismatch, Left, TooFew}

abbrev pub error_number : DrawError → ℕ
error_number NotWellFormed = 13
error_number Overfull = 14
error_number WrongLength = 10
error_number (ShelfEnds place) = 23
error_number (TooLong place) = 12
error_number (Mismatch place) = 24
error_number Left = 25
error_number TooFew = 26

abbrev pub draw_number : {T : Type 0} → Result T DrawError → ℕ
draw_number = answer_number done error_number

-- "23, 12 and 24 (any answer about a cell) also name the record's place, from 0; every other answer of the draw names place 0."
abbrev pub error_place : DrawError → ℕ
error_place NotWellFormed = 0
error_place Overfull = 0
error_place WrongLength = 0
error_place (ShelfEnds place) = place
error_place (TooLong place) = place
error_place (Mismatch place) = place
error_place Left = 0
error_place TooFew = 0

abbrev pub draw_place : {T : Type 0} → Result T DrawError → ℕ
draw_place (Ok value) = 0
draw_place (Err error) = error_place error

-- what is wrong with the cell of the record at this place
abbrev pub cell_error : ℕ → CellError → DrawError
cell_error place Cell.ShelfEnds = ShelfEnds place
cell_error place Cell.TooLong = TooLong place
cell_error place Cell.Mismatch = Mismatch place

-- the same, where there may be nothing wrong with it
abbrev pub of_cell : {T : Type 0} → ℕ → Result T CellError → Result T DrawError
of_cell place (Ok value) = Ok value
of_cell place (Err error) = Err (cell_error place error)

-- nothing is refused
abbrev pub Done : Result (Unit {0}) DrawError
Done = Ok tt

-- the first refusal speaks: what follows is asked only where nothing was refused yet
abbrev pub and_then : {T : Type 0} → Result (Unit {0}) DrawError → Result T DrawError → Result T DrawError
and_then (Ok value) next = next
and_then (Err error) next = Err error

-- what is left in a lent buffer: `done` where a hash was drawn, `kept` beside every refusal
abbrev pub only_done : Result (Unit {0}) DrawError → List ℕ → List ℕ → List ℕ
only_done (Ok value) done kept = done
only_done (Err error) done kept = kept
