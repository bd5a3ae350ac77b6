-- The contract of this crate allows one result.
use Rattle.std.specs.Prelude.{Result, List, ◌≡◌, ℕ}
use Rattle.std.proofs.Common.{◌∙◌, sym}
use Rattle.shelf.specs.declared.cell.CellError.{CellError}
use Rattle.shelf.specs.declared.cell.CellRead.{CellRead}
use Rattle.shelf.specs.Read.{cell_read}

pub read_cell_determined : (rest recorded anchor : List ℕ) (r s : Result CellRead CellError)
    → r ≡ cell_read rest recorded anchor → s ≡ cell_read rest recorded anchor → r ≡ s
read_cell_determined rest recorded anchor r s p q = p ∙ sym q
