-- The bounds of the capacity decide, then the length, then the count.
use borrow.Author.Rules.{rules}
use borrow.Author.Tests.{le-leb, eq-eqb, eqb-true}
use mathlib.Core.Path.{◌≡◌, sym, ◌∙◌}
use mathlib.Core.Bool.{false≢true}
use Prim.Native.Nat.{ℕ, ◌+◌, ◌*◌, ◌≤◌}
use lib.Dec.{leb}
use Rattle.wellformed.specs.Check.{sized}
use Rattle.wellformed.proofs.check.is_sized.Goals as goal
use Rattle.wellformed.proofs.check.is_sized.Goals.{then-contains, else-contains}

told : (size capacity count : ℕ) → 16 ≤ capacity → capacity ≤ 65536 → size ≡ 48 + 145 * capacity → leb count capacity ≡ sized size capacity count
unfolding sized
told size capacity count h k e = rw (le-leb 16 capacity h, le-leb capacity 65536 k, eq-eqb size (48 + 145 * capacity) e)

pub returns-then-size-capacity : goal.returns-then-size-capacity
returns-then-size-capacity c =
    elim c.if-contains.branch [
      | then-contains w ↦
          let h : 16 ≤ c.args.capacity = search rules in
          let k : c.args.capacity ≤ 65536 = search rules in
          told c.args.size c.args.capacity c.args.count h k (eqb-true _ _ (sym w.value-is ∙ c.if-size-capacity.true))
      | else-contains w ↦ absurd (false≢true (sym w.if-contains.false ∙ sym w.value-is ∙ c.if-size-capacity.true))
    ]
