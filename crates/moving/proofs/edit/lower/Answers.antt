use mathlib.Core.Path.{◌≡◌, refl, sym, ◌∙◌}
use native.Mathlib.Omega.{arith}
use lib.ListN.{length, take, drop, length-set}
use lib.Seq.{paste-zero}
use borrow.Author.Tests.{le-leb, leb-true}
use Rattle.octets.proofs.Parts
use Rattle.moving.specs.Moving.{lowered}
use Rattle.moving.proofs.Edits
use Rattle.moving.proofs.Turns
use Rattle.moving.proofs.edit.lower.Goals as goal
use Rattle.moving.proofs.edit.lower.Goals.{else-to-from-via-then-to-from+else-fits, else-to-from-via-else-to-from}

pub loop-i-init : goal.loop-i-init
loop-i-init c =
    let a = c.args in
    (omega arith, paste-zero a.s.now a.to (take a.n (drop a.from a.s.now)), refl)

pub loop-i-preserved : goal.loop-i-preserved
loop-i-preserved c =
    let a = c.args in
    let room = leb-true _ _ (sym c.fits.ensures ∙ c.if-fits.true) in
    let turn = Turns.lower_more c.loop-i.s a.s.now a.from a.to a.n c.loop-i.i c.loop-i.invariant.1 (omega arith) (omega (arith, room)) (omega arith) in
    (omega arith, turn, simp length-set c.loop-i.invariant.2)

pub returns-after-loop-i : goal.returns-after-loop-i
returns-after-loop-i c =
    let a = c.args in
    let room = leb-true _ _ (sym c.fits.ensures ∙ c.if-fits.true) in
    let moved = take a.n (drop a.from a.s.now) in
    let count : length moved ≡ a.n = Parts.part_length a.s.now a.from a.n (omega (arith, room)) in
    c.loop-i.invariant.1 ∙ Turns.put_all a.s.now a.to moved c.loop-i.i (omega arith) ∙ sym (Edits.lowered_fits a.s.now a.from a.to a.n (omega arith) (omega (arith, room)))

pub returns-else-to-from : goal.returns-else-to-from
unfolding lowered
returns-else-to-from c =
    let a = c.args in
    elim c.else-to-from.branch [
      | else-to-from-via-then-to-from+else-fits w ↦ rw (le-leb a.to a.from (omega arith), sym w.fits.ensures ∙ w.if-fits.false)
      | else-to-from-via-else-to-from w ↦ sym (Edits.lowered_level a.s.now a.from a.to a.n (omega arith))
    ]
