-- The loop's invariant: all is zero if what was joined is and what is left is.
use mathlib.Core.Bool.{◌&&◌}
use mathlib.Core.Path.{◌≡◌}
use lib.Dec.{eqb}
use lib.ListN.{drop}
use Rattle.wellformed.specs.Check.{zeros}
use Rattle.wellformed.proofs.check.is_zero.Given as goal

abbrev pub invariant-loop-byte : goal.invariant-loop-byte
invariant-loop-byte l = zeros l.s ≡ (eqb l.joined 0 && zeros (drop l.byte-index l.s))
