-- What is read of a cell: what is wrong with it, or how many bytes it takes and its pair.
use Rattle.std.specs.Prelude.{Result, Ok, Err, cond, List, ◌++◌, ℕ, ◌+◌, ltb, length}
use Rattle.std.specs.Result.{result_and}
use Rattle.octets.specs.Order.{byte_order}
use Rattle.std.specs.declared.cmp.Ordering.{Ordering}
use Rattle.std.specs.declared.cmp.Ordering.TheVariants as Ordered
use Rattle.answers.specs.Number.{digest_or_zeros}
use Rattle.chunk.specs.Answer.{anchored_addressed}
use Rattle.shelf.specs.declared.cell.CellError.{CellError}
use Rattle.shelf.specs.declared.cell.CellError.TheVariants.{ShelfEnds, TooLong, Mismatch}
use Rattle.shelf.specs.declared.cell.CellRead.{CellRead}
use Rattle.shelf.specs.Cell.{Cell, own_address, size_in, cell_in}

abbrev pub matching : Ordering → Result (Unit {0}) CellError
matching Ordered.Less = Err Mismatch
matching Ordered.Equal = Ok tt
matching Ordered.Greater = Err Mismatch

-- the cell of the record with this address: "23, 12, 24 .. 12 is given once a cell's length is read, before its data is sought"
unfoldable pub cell_answer : List ℕ → List ℕ → Result (Unit {0}) CellError
cell_answer address s =
    cond (ltb (length s) 10) (Err ShelfEnds)
    (cond (ltb 4096 (size_in s)) (Err TooLong)
    (cond (ltb (length s) (10 + size_in s)) (Err ShelfEnds)
    (matching (byte_order (own_address (cell_in s)) address))))

-- the pair as it is read: under an anchor of another length than 32 its first half is what is handed back beside that refusal, zeros
unfoldable pub pair_read : List ℕ → Cell → List ℕ
pair_read anchor cell = digest_or_zeros (anchored_addressed anchor cell.span cell.content) ++ own_address cell

unfoldable pub cell_read : List ℕ → List ℕ → List ℕ → Result CellRead CellError
cell_read s address anchor = result_and (cell_answer address s) (Ok (record { size = 10 + size_in s; pair = pair_read anchor (cell_in s) }))
