-- `tree::zero_roots` meets its contract. The loop's invariant: the table has its rows up to the level.
use Rattle.std.proofs.Common.{◌≡◌, ◌+◌, length}
use Rattle.merkle.proofs.Zeros.{Rows}
use Rattle.tree.proofs.zero_roots.Given as goal

abbrev pub invariant-loop-level : goal.invariant-loop-level
invariant-loop-level l = record { long : length l.zeros ≡ 8; rows : Rows l.prefix (l.level + 1) l.zeros }
