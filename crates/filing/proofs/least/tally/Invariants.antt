-- The loop's invariant: the counters are those of the records passed.
use lib.ListN.{take}
use Rattle.settling.specs.Tally.{Counters}
use Rattle.book.specs.Shape.{shape_in}
use Rattle.filing.proofs.least.tally.Given as goal

abbrev pub invariant-loop-held : goal.invariant-loop-held
invariant-loop-held l = Counters (shape_in l.header) l.counters (take l.held-index l.records)
