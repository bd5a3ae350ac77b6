-- `proving::making::proof_of` meets its contract. The loop's invariant: behind the segment stand the sisters below the level.
use Rattle.std.proofs.Common.{◌≡◌, ◌++◌, ◌+◌, ◌*◌, take}
use Rattle.merkle.specs.Tree.{pad_to}
use Rattle.merkle.specs.Proof.{node, sisters}
use Rattle.proving.proofs.making.proof_of.Given as goal

abbrev pub invariant-loop-level : goal.invariant-loop-level
invariant-loop-level l =
    take (32 + 32 * l.level) l.proof ≡ node l.prefix 0 l.index (pad_to 4096 l.«data») ++ sisters l.prefix l.index (pad_to 4096 l.«data») 0 l.level
