-- The loop's invariant: the digits that are yet to be stored, before those that are stored, are all.
use Prim.Native.Nat.{◌^◌, ◌≤◌, ◌<◌}
use mathlib.Core.Path.{◌≡◌}
use mathlib.Core.List.{◌++◌}
use lib.ListN.{length, take, drop, replicate}
use Rattle.digits.specs.Field.{digits, decimal}
use Rattle.digits.proofs.spelling.decimal_of.Given as goal

abbrev pub invariant-loop-above : goal.invariant-loop-above
invariant-loop-above l = (length l.bytes ≡ 20) × (1 ≤ l.from) × (l.from ≤ 20) × (l.above < 10 ^ l.from) × (digits l.from l.above ++ drop l.from l.bytes ≡ decimal l.n) × (take l.from l.bytes ≡ replicate l.from 0)

abbrev pub decreases-loop-above : goal.decreases-loop-above
decreases-loop-above l = l.from
