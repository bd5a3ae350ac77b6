-- The loop's invariant: the records from i on are in order if all are.
use mathlib.Core.Path.{◌≡◌}
use lib.ListN.{drop}
use Rattle.batches.specs.Batch.{ordered}
use Rattle.batches.proofs.check.in_order.Given as goal

abbrev pub invariant-loop-i : goal.invariant-loop-i
invariant-loop-i l = ordered l.records ≡ ordered (drop l.i l.records)
