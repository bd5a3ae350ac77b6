-- Worked examples, computed from the definitions alone, for the boundaries of document 01's sentences. An edit of a definition that keeps
-- the laws' words but moves a boundary meets an answer here.
use mathlib.Core.Path.{◌≡◌, refl}
use mathlib.Core.List.{List, [], ◌∷◌, ◌++◌}
use Prim.Native.Nat.{ℕ}
use lib.ListN.{replicate}
use Rattle.octets.specs.Number.{big}
use Rattle.std.specs.Prelude.{Err}
use Rattle.draw.specs.declared.answer.DrawError.TheVariants.{ShelfEnds, TooLong, Left}
use Rattle.shelf.specs.Read.{cell_answer}
use Rattle.draw.specs.Answer.{Done, of_cell}
use Rattle.draw.specs.Shelf.{shelf_answer}

-- a cell's span and length, and nothing behind them
head : ℕ → ℕ → List ℕ
head high low = replicate 8 0 ++ (high ∷ low ∷ [])

-- The shelf ends before a cell, inside its span and length, inside its data; 4,096 bytes are sought, 4,097 are not.
shelf_sheet :
    (of_cell 5 (cell_answer [] []) ≡ Err (ShelfEnds 5))
    × (of_cell 5 (cell_answer [] (replicate 9 0)) ≡ Err (ShelfEnds 5))
    × (of_cell 5 (cell_answer [] (head 0x00 0x01)) ≡ Err (ShelfEnds 5))
    × (of_cell 5 (cell_answer [] (head 0x10 0x00)) ≡ Err (ShelfEnds 5))
    × (of_cell 5 (cell_answer [] (head 0x10 0x01)) ≡ Err (TooLong 5))
    -- the first cell speaks; past the last record a byte is left, or none
    × (shelf_answer 0 ([] ∷ [] ∷ []) (head 0x10 0x01) ≡ Err (TooLong 0))
    × (shelf_answer 2 [] (0x00 ∷ []) ≡ Err Left)
    × (shelf_answer 2 [] [] ≡ Done)
unfolding head cell_answer shelf_answer big
shelf_sheet = (refl, refl, refl, refl, refl, refl, refl, refl)
