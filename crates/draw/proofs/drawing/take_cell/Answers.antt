-- The pair of a sound cell is entered.
use Rattle.std.proofs.Common.{sym, ◌∙◌, rules}
use Rattle.draw.proofs.Taking.{few_held, cell_taken}
use Rattle.draw.proofs.drawing.take_cell.Goals as goal

pub invariant_of-smallest : goal.invariant_of-smallest
invariant_of-smallest c =
    let a = c.args in
    let s = a.smallest.now in
    record { most = few_held a.rest.now a.recorded.now a.anchor.now c.in_ok-read.read (sym c.read_cell.ensures ∙ c.in_ok-read.was) (search rules) s (search rules) s.most c.enter-smallest.result c.enter-smallest.ensures.result }

pub returns-clause-taken : goal.returns-clause-taken
returns-clause-taken c =
    let a = c.args in
    let s = a.smallest.now in
    cell_taken a.rest.now a.recorded.now a.anchor.now c.in_ok-read.read (sym c.read_cell.ensures ∙ c.in_ok-read.was) (search rules) s (search rules) s.most _ c.enter-smallest.ensures.result c.enter-smallest.ensures.bytes
