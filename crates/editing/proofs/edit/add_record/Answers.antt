-- One record more.
use borrow.Author.Tests.{le-leb, eq-eqb}
use mathlib.Core.Path.{ap, ◌∙◌}
use mathlib.Core.List.{List}
use Prim.Native.Nat.{ℕ, ◌+◌}
use Rattle.octets.specs.Number.{bytes_of}
use Rattle.moving.specs.Moving.{placed}
use Rattle.editing.specs.Edit.{added}
use Rattle.editing.proofs.edit.add_record.Goals as goal

pub returns-then-count-book : goal.returns-then-count-book
unfolding added
returns-then-count-book c =
    rw (le-leb _ _ c.if-count-le65535.true, le-leb _ _ c.if-at-count.true, eq-eqb _ _ c.if-given-eq145.true, le-leb _ _ c.if-count-book.true)
    (c.write.ensures ∙ ap (λ (l : List ℕ). placed l 44 (bytes_of 4 (c.args.count + 1))) c.insert.ensures)
