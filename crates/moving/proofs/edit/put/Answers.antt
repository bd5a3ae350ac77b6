use mathlib.Core.Path.{◌≡◌, sym, ◌∙◌}
use Prim.Native.Nat.{◌+◌, ◌-◌, ◌≤◌}
use native.Mathlib.Omega.{arith}
use lib.ListN.{length}
use borrow.Author.Tests.{leb-true}
use borrow.Rule.Slice.PartMut.{put_mid}
use Rattle.moving.specs.Moving.{placed}
use Rattle.moving.proofs.Edits
use Rattle.moving.proofs.edit.put.Goals as goal

pub returns-then-fits : goal.returns-then-fits
returns-then-fits c =
    let a = c.args in
    let room : a.at + length a.v.now ≤ length a.s.now = leb-true _ _ (sym c.fits.ensures ∙ c.if-fits.true) in
    let written : put_mid a.at (a.at + length a.v.now - a.at) a.s.now c.copy_from_slice.new.self ≡ placed a.s.now a.at a.v.now =
    Edits.over_put a.s.now a.at _ a.v.now _ c.copy_from_slice.ensures.after (omega arith) ∙ sym (Edits.placed_fits a.s.now a.at a.v.now room) in
    -- (beside it a write of no bytes, or a second one of the same, is right too, so that what refuses a wrong write is what it writes)
    first_of (grind (arith, written, Edits.put_none), grind (arith, room, Edits.put_placed, Edits.put_twice))

pub returns-else-fits : goal.returns-else-fits
unfolding placed
returns-else-fits c = rw (sym c.fits.ensures ∙ c.if-fits.false)
