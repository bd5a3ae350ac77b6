-- The loop's invariant: the state is that after the words so far, and another word can begin.
use mathlib.Core.Path.{◌≡◌}
use Prim.Native.Nat.{◌<◌, ◌%◌}
use lib.ListN.{length, take}
use Rattle.keccak.specs.Sponge.{sponge, absorbed, joined_parts}
use Rattle.keccak.proofs.sponge.Sponge.words.Given as goal

abbrev pub invariant-loop-word : goal.invariant-loop-word
invariant-loop-word l =
    (l.place < 136) × (l.place % 8 ≡ 0) × (length l.lanes ≡ 25)
    × (sponge l.lanes l.place ≡ absorbed (sponge l.initial.lanes l.initial.place) (joined_parts (take l.word-index l.words)))
