-- The parts are written one after another.
use Prim.Native.Nat.{◌+◌, ◌*◌}
use mathlib.Core.Path.{◌≡◌, ◌∙◌}
use native.Mathlib.Omega.{arith}
use lib.ListN.{length, length-set}
use Rattle.opening.proofs.Fresh
use Rattle.opening.proofs.open.write_fresh.Goals as goal

pub bounds-book-6 : goal.bounds-book-6
bounds-book-6 c =
    let long : length c.put.new.s ≡ 48 + 145 * c.args.capacity = c.put.auto.s ∙ c.clear.auto.book ∙ c.requires in
    simp length-set (omega (arith, long))

pub bounds-book-7 : goal.bounds-book-7
bounds-book-7 c =
    let long : length c.put.new.s ≡ 48 + 145 * c.args.capacity = c.put.auto.s ∙ c.clear.auto.book ∙ c.requires in
    simp length-set (omega (arith, long))

pub shape_of-book : goal.shape_of-book
shape_of-book c =
    c.write.auto.s ∙ c.put-2.auto.s ∙ simp length-set (c.put.auto.s ∙ c.clear.auto.book)

pub returns : goal.returns
returns c =
    let a = c.args in
    Fresh.fresh_written a.overlay.now a.capacity a.starting (omega arith) a.book.now c.clear.new.book c.put.new.s c.put-2.new.s c.write.new.s c.requires
    (Fresh.cleared a.book.now _ _ c.clear.ensures (omega arith))
    c.put.ensures
    c.put-2.ensures
    c.write.ensures
