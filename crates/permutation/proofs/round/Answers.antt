-- `permutation::round` meets its contract: its rows, joined, are the round.
use Rattle.permutation.proofs.Rounds.{by_rows}
use Rattle.permutation.proofs.round.Goals as goal

pub returns : goal.returns
returns c =
    let g = c.args in
    by_rows g.a c.column_parities-d.result c.row-p.result c.row-q.result c.row-r.result c.row-s.result c.row-t.result g.rc
    c.column_parities-d.ensures c.row-p.ensures c.row-q.ensures c.row-r.ensures c.row-s.ensures c.row-t.ensures
