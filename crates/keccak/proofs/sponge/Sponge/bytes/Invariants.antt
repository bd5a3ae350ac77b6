-- The loop's invariant: the state is that after the bytes so far.
use mathlib.Core.Path.{◌≡◌}
use Prim.Native.Nat.{◌<◌}
use lib.ListN.{take}
use Rattle.keccak.specs.Sponge.{sponge, absorbed}
use Rattle.keccak.proofs.sponge.Sponge.bytes.Given as goal

abbrev pub invariant-loop-byte : goal.invariant-loop-byte
invariant-loop-byte l = (l.place < 136) × (sponge l.lanes l.place ≡ absorbed (sponge l.initial.lanes l.initial.place) (take l.byte-index l.part))
