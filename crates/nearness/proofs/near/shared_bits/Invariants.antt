-- The loop's invariant: all bits before `at` are shared, and those shared from there on are yet to be added.
use Rattle.std.proofs.Common.{◌≡◌, ◌≤◌, ◌+◌, ◌*◌, ◌%◌, drop}
use Rattle.nearness.specs.Bits.{shared_bits}
use Rattle.nearness.proofs.near.shared_bits.Given as goal

abbrev pub invariant-loop-at : goal.invariant-loop-at
invariant-loop-at l =
    (l.at ≤ 32) × (l.at % 8 ≡ 0) × (l.bits ≡ 8 * l.at) × (shared_bits l.first l.second ≡ l.bits + shared_bits (drop l.at l.first) (drop l.at l.second))
