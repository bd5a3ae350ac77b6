use mathlib.Core.Path.{◌≡◌, refl, sym, ap, ◌∙◌}
use native.Mathlib.Omega.{arith}
use lib.ListN.{length-set}
use borrow.Author.Tests.{le-leb, leb-true}
use Rattle.moving.specs.Moving.{raised}
use Rattle.moving.proofs.Edits
use Rattle.moving.proofs.Turns
use Rattle.moving.proofs.edit.raise.Goals as goal
use Rattle.moving.proofs.edit.raise.Goals.{else-at-end-via-then-at-end+else-fits, else-at-end-via-else-at-end}

pub loop-i-init : goal.loop-i-init
loop-i-init c =
    let a = c.args in
    (omega arith, omega arith, Turns.up_none a.s.now a.end a.n, refl)

pub loop-i-preserved : goal.loop-i-preserved
loop-i-preserved c =
    let a = c.args in
    let room = leb-true _ _ (sym c.fits.ensures ∙ c.if-fits.true) in
    let turn = Turns.raise_more c.loop-i.s a.s.now a.end a.n c.loop-i.i c.loop-i.invariant.2 (omega arith) (omega arith) (omega (arith, room)) in
    (omega arith, omega arith, turn, simp length-set c.loop-i.invariant.3)

pub returns-after-loop-i : goal.returns-after-loop-i
returns-after-loop-i c =
    let a = c.args in
    let room = leb-true _ _ (sym c.fits.ensures ∙ c.if-fits.true) in
    let last : c.loop-i.i ≡ a.at = omega arith in
    c.loop-i.invariant.2 ∙ ap (Turns.up a.s.now a.end a.n) last ∙ Turns.raise_all a.s.now a.end a.n a.at (omega arith) (omega (arith, room))
    ∙ sym (Edits.raised_fits a.s.now a.at a.end a.n (omega arith) (omega (arith, room)))

pub returns-else-at-end : goal.returns-else-at-end
unfolding raised
returns-else-at-end c =
    let a = c.args in
    elim c.else-at-end.branch [
      | else-at-end-via-then-at-end+else-fits w ↦ rw (le-leb a.at a.end w.if-at-end.true, sym w.fits.ensures ∙ w.if-fits.false)
      | else-at-end-via-else-at-end w ↦ sym (Edits.raised_down a.s.now a.at a.end a.n (omega arith))
    ]
