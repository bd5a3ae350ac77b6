use mathlib.Core.Path.{◌≡◌, sym, ap, ◌∙◌}
use mathlib.Core.List.{List}
use native.Mathlib.Omega.{arith}
use Prim.Native.Nat.{ℕ, ◌+◌, ◌-◌, ◌≤◌}
use lib.ListN.{length, take, drop, replicate, length-take, length-drop, length-replicate}
use borrow.Author.Tests.{leb-true}
use Rattle.moving.specs.Moving.{placed}
use Rattle.moving.proofs.Edits
use Rattle.moving.proofs.edit.clear.Goals as goal

pub returns-then-fits : goal.returns-then-fits
returns-then-fits c =
    let a = c.args in
    let zeros : List ℕ = replicate a.n 0 in
    let count : length zeros ≡ a.n = length-replicate a.n 0 in
    let room : a.at + a.n ≤ length a.s.now = leb-true _ _ (sym c.fits.ensures ∙ c.if-fits.true) in
    let part : length (take (a.at + a.n - a.at) (drop a.at a.s.now)) ≡ a.n = simp (length-take, length-drop) (omega arith) in
    Edits.over_put a.s.now a.at _ zeros _ (c.fill.ensures.after (λ y e. e) ∙ ap (λ m. replicate m 0) part) (omega arith)
    ∙ sym (Edits.placed_fits a.s.now a.at zeros (omega arith))

pub returns-else-fits : goal.returns-else-fits
unfolding placed
returns-else-fits c = rw (length-replicate {A = ℕ} c.args.n 0, sym c.fits.ensures ∙ c.if-fits.false)
