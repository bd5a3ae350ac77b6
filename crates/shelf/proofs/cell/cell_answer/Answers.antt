-- A cell that is there has an address; where that is another than its record's, it is told.
use Rattle.std.proofs.Common.{Ok, ◌+◌, ◌∙◌, sym, ap, arith}
use Rattle.std.specs.Result.{is_ok}
use Rattle.shelf.proofs.Cells.{size_read, own_read, cell_told}
use Rattle.shelf.proofs.cell.cell_answer.Goals as goal

pub unwrap-own-requires : goal.unwrap-own-requires
unwrap-own-requires c =
    let a = c.args in
    let n = c.read-size.result in
    let size = size_read a.rest.now n (omega arith) c.read-size.ensures in
    ap is_ok (c.address.ensures ∙ own_read a.rest.now (10 + n) (omega arith) (omega arith) (omega arith))

pub returns-else-eq : goal.returns-else-eq
returns-else-eq c =
    let a = c.args in
    let n = c.read-size.result in
    let size = size_read a.rest.now n (omega arith) c.read-size.ensures in
    let own = c.address.ensures ∙ own_read a.rest.now (10 + n) (omega arith) (omega arith) (omega arith) in
    let told = cell_told a.recorded.now a.rest.now c.address.result c.as_slice.result.now (omega arith) (omega arith) own (c.unwrap-own.ensures ∙ ap Ok (sym c.as_slice.ensures)) in
    rw (← c.eq.ensures, c.if-eq.false) at told
