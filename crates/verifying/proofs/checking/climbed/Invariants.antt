-- `verifying::checking::climbed` meets its contract. The loop's invariant: the node is the one that the sisters so far lead to, and the others are left.
use Rattle.std.proofs.Common.{◌≡◌, ◌++◌, ◌+◌, ◌*◌, ◌≤◌, drop}
use Rattle.std.specs.Slice.Iter.{chunks_exact_rest, chunks_exact_size}
use Rattle.merkle.specs.Proof.{climbed}
use Rattle.verifying.proofs.checking.climbed.Given as goal

abbrev pub invariant-loop-level : goal.invariant-loop-level
invariant-loop-level l = record {
  inside : l.level-iterator.count ≤ 7;
  size : chunks_exact_size l.level-iterator.iter ≡ 32;
  rest : chunks_exact_rest l.level-iterator.iter ++ drop 256 l.proof ≡ drop (32 + 32 * l.level-iterator.count) l.proof;
  node : l.node ≡ climbed l.prefix l.index l.proof l.level-iterator.count;
}
