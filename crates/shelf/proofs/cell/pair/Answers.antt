-- The anchored address in front, the record's address behind it.
use Rattle.std.proofs.Common.{refl, rules}
use Rattle.shelf.proofs.Cells.{pair_put}
use Rattle.shelf.proofs.cell.pair.Goals as goal

pub returns : goal.returns
returns c =
    let a = c.args in
    pair_put a.anchor.now a.rest.now a.size _ c.unwrap_or-anchored.result a.recorded.now c.put.new.s c.put-2.new.s
    c.requires.0 refl (search rules) (cc) c.requires.1.1 c.put.ensures c.put-2.ensures
