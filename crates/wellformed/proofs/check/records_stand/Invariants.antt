-- The loop's invariant: both tests hold of the records from i on if they hold of all.
use mathlib.Core.Path.{◌≡◌}
use lib.ListN.{drop}
use Rattle.book.specs.Layout.{depth_in, overlay_in}
use Rattle.wellformed.proofs.Tests.{both_hold}
use Rattle.wellformed.proofs.check.records_stand.Given as goal

abbrev pub invariant-loop-i : goal.invariant-loop-i
invariant-loop-i l = both_hold (depth_in l.header) (overlay_in l.header) l.records ≡ both_hold (depth_in l.header) (overlay_in l.header) (drop l.i l.records)
