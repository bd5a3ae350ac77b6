-- The loop's invariant: from the greatest depth down, those counted so far fit.
use mathlib.Core.Path.{◌≡◌}
use Prim.Native.Nat.{◌≤◌}
use lib.ListN.{length}
use Rattle.settling.proofs.Least.{Descent}
use Rattle.filing.proofs.least.lowest.Given as goal

abbrev pub invariant-loop-depth : goal.invariant-loop-depth
invariant-loop-depth l = (length l.counters ≡ 17) × (l.depth ≤ 17) × (l.from ≤ 17 → Descent l.capacity l.counters l.from l.depth l.kept)

abbrev pub decreases-loop-depth : goal.decreases-loop-depth
decreases-loop-depth l = l.depth
