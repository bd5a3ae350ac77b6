-- "The shelf is the chunks in record order: span (8), length (2), data. Each must hash to its record's address."
use Rattle.std.specs.Prelude.{Result, Err, cond, List, [], ◌∷◌, ◌++◌, ℕ, zero, suc, ◌+◌, eqb, length, drop}
use Rattle.shelf.specs.Cell.{Cell, cell_hashed, size_in, cell_in}
use Rattle.shelf.specs.Read.{cell_answer}
use Rattle.draw.specs.declared.answer.DrawError.{DrawError}
use Rattle.draw.specs.declared.answer.DrawError.TheVariants.{Left}
use Rattle.draw.specs.Answer.{Done, of_cell, and_then}

-- ---- one cell behind the other

unfoldable pub behind : List ℕ → List ℕ
behind s = drop (10 + size_in s) s

unfoldable pub cells_on : ℕ → List ℕ → List Cell
cells_on zero s = []
cells_on (suc n) s = cell_in s ∷ cells_on n (behind s)

unfoldable pub cells_hashed : List ℕ → List Cell → List (List ℕ)
cells_hashed anchor [] = []
cells_hashed anchor (cell ∷ cells) = cell_hashed anchor cell ++ cells_hashed anchor cells

-- ---- what is wrong with them

-- the cells of the records with these addresses, from this place on, and nothing behind them
unfoldable pub shelf_answer : ℕ → List (List ℕ) → List ℕ → Result (Unit {0}) DrawError
shelf_answer place [] s = cond (eqb (length s) 0) Done (Err Left)
shelf_answer place (address ∷ addresses) s = and_then (of_cell place (cell_answer address s)) (shelf_answer (suc place) addresses (behind s))
