-- Each branch has its word.
use mathlib.Core.Path.{◌≡◌, sym, ◌∙◌}
use mathlib.Core.Bool.{true, false}
use lib.Dec.{eqb}
use Rattle.book.specs.Layout.{state_in}
use Rattle.listing.specs.Line.{state_word}
use Rattle.listing.proofs.line.put_state.Goals as goal

pub returns-then-overfull-clause-put : goal.returns-then-overfull-clause-put
unfolding state_word
returns-then-overfull-clause-put c =
    let e : eqb (state_in c.args.book.now) 1 ≡ true = sym c.overfull.ensures ∙ c.if-overfull.true in
    rw e c.field.ensures

pub returns-else-overfull-clause-put : goal.returns-else-overfull-clause-put
unfolding state_word
returns-else-overfull-clause-put c =
    let e : eqb (state_in c.args.book.now) 1 ≡ false = sym c.overfull.ensures ∙ c.if-overfull.false in
    rw e c.field-else-overfull.ensures
