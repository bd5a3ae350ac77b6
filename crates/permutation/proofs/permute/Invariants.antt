-- The loop's invariant: after so many turns as many rounds are done.
use mathlib.Core.Path.{◌≡◌}
use Rattle.permutation.specs.Permutation.{rounds}
use Rattle.permutation.proofs.permute.Given as goal

abbrev pub invariant-loop-rc : goal.invariant-loop-rc
invariant-loop-rc l = l.a ≡ rounds l.rc-index l.initial.a
