-- The loop's invariant: the first i of the bytes to move are in their place; those yet to move lie above and are as they were.
use Prim.Native.Nat.{◌≤◌}
use mathlib.Core.Path.{◌≡◌}
use lib.ListN.{length, take, drop}
use lib.Seq.{paste}
use Rattle.moving.proofs.edit.lower.Given as goal

abbrev pub invariant-loop-i : goal.invariant-loop-i
invariant-loop-i l = (l.i ≤ l.n) × (l.s ≡ paste l.initial.s l.to (take l.n (drop l.from l.initial.s)) l.i) × (length l.s ≡ length l.initial.s)
