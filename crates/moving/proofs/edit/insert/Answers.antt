use mathlib.Core.Path.{sym, ap, ◌∙◌}
use native.Mathlib.Omega.{arith}
use borrow.Author.Tests.{le-leb, leb-true}
use Rattle.moving.specs.Moving.{placed, inserted}
use Rattle.moving.proofs.Edits
use Rattle.moving.proofs.edit.insert.Goals as goal
use Rattle.moving.proofs.edit.insert.Goals.{else-at-end-via-then-at-end+else-fits, else-at-end-via-else-at-end}

pub returns-then-fits : goal.returns-then-fits
returns-then-fits c =
    let a = c.args in
    c.put.ensures ∙ ap (λ l. placed l a.at a.v.now) c.raise.ensures
    ∙ Edits.inserted_raised a.s.now a.at a.end a.v.now c.if-at-end.true (leb-true _ _ (sym c.fits.ensures ∙ c.if-fits.true))

pub returns-else-at-end : goal.returns-else-at-end
unfolding inserted
returns-else-at-end c =
    let a = c.args in
    elim c.else-at-end.branch [
      | else-at-end-via-then-at-end+else-fits w ↦ rw (le-leb a.at a.end w.if-at-end.true, sym w.fits.ensures ∙ w.if-fits.false)
      | else-at-end-via-else-at-end w ↦ sym (Edits.inserted_down a.s.now a.at a.end a.v.now (omega arith))
    ]
