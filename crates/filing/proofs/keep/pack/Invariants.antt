-- The loop's invariant: what was packed at the start is packed up to place i.
use mathlib.Core.List.{List}
use mathlib.Core.Path.{◌≡◌}
use Prim.Native.Nat.{ℕ, ◌+◌, ◌*◌, ◌≤◌}
use lib.ListN.{length}
use Rattle.filing.specs.Keep.{Packed}
use Rattle.filing.proofs.keep.pack.Given as goal

abbrev pub invariant-loop-i : goal.invariant-loop-i
invariant-loop-i l =
    (l.front ≤ l.i) × (length l.book ≡ length l.initial.book)
    × ((was : List ℕ) (count : ℕ) → l.to ≤ count → 48 + 145 * count ≤ length was → Packed was count l.depth l.initial.book l.from l.kept → Packed was count l.depth l.book l.i l.front)
