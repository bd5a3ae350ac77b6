-- What is read and counted tells the least depth.
use borrow.Author.Tests.{eq-eqb, ne_eqb}
use mathlib.Core.Path.{ap, ◌∙◌}
use native.Mathlib.Omega.{arith}
use lib.ListN.{length}
use Rattle.book.proofs.Cuts.{counted}
use Rattle.filing.specs.Least.{least_in}
use Rattle.filing.proofs.Wholeness
use Rattle.filing.proofs.Counting
use Rattle.filing.proofs.least.least_depth.Goals as goal

pub returns-in_default : goal.returns-in_default
unfolding least_in
returns-in_default c = rw (ne_eqb _ _ c.in_default.ensures.cases)

pub returns-in_default-parts : goal.returns-in_default-parts
unfolding least_in
returns-in_default-parts c = rw (eq-eqb _ _ c.in-Some.ensures.cases.long, c.in_default-parts.ensures)

pub tally-counters-requires : goal.tally-counters-requires
tally-counters-requires c =
    let s = c.args.book.now in
    let f = c.in-Some-parts.ensures in
    omega (arith, ap length f.2, counted s, Wholeness.whole_few s f.0)

pub returns : goal.returns
returns c =
    let s = c.args.book.now in
    let g = c.in-Some.ensures.cases in
    let f = c.in-Some-parts.ensures in
    Counting.least_told s c.args.given.now _ _ _ _ _ _ g.long f.0 f.1 f.2 (rw g.same at c.tally-counters.ensures) c.capacity.ensures (c.from.ensures ∙ c.depth.ensures) c.lowest.ensures
