use Rattle.std.proofs.Common.{◌≡◌, ◌+◌, refl, ◌∙◌, arith, length-set}
use Rattle.merkle.proofs.Zeros.{rows_one, rows_more, rows_all}
use Rattle.tree.proofs.zero_roots.Goals as goal

pub loop-level-init : goal.loop-level-init
loop-level-init c = record { long = refl; rows = rows_one c.args.prefix.now }

pub loop-level-preserved : goal.loop-level-preserved
loop-level-preserved c =
    let i = c.loop-level.invariant in
    record {
      long = length-set c.loop-level.zeros (c.loop-level.level + 1) c.hash.result ∙ i.long;
      rows = rows_more c.args.prefix.now c.loop-level.level c.loop-level.zeros c.hash.result (omega arith) i.rows c.hash.ensures;
    }

pub returns-after-loop-level : goal.returns-after-loop-level
returns-after-loop-level c =
    let last : c.loop-level.level ≡ 7 = omega arith in
    let rows = rw last at c.loop-level.invariant.rows in
    rows_all c.args.prefix.now 8 c.args.lack c.loop-level.zeros (omega arith) rows

pub returns-then-lack-width : goal.returns-then-lack-width
returns-then-lack-width c = rows_all c.args.prefix.now (c.loop-level.level + 1) c.args.lack c.loop-level.zeros (omega arith) c.loop-level.invariant.rows
