-- The loop's invariant: the bytes from i up to `end` are in their place; those below i are as they were.
use Prim.Native.Nat.{◌≤◌}
use mathlib.Core.Path.{◌≡◌}
use lib.ListN.{length}
use Rattle.moving.proofs.Turns
use Rattle.moving.proofs.edit.raise.Given as goal

abbrev pub invariant-loop-i : goal.invariant-loop-i
invariant-loop-i l = (l.at ≤ l.i) × (l.i ≤ l.end) × (l.s ≡ Turns.up l.initial.s l.end l.n l.i) × (length l.s ≡ length l.initial.s)
