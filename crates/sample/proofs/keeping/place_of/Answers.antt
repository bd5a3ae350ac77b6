use Rattle.std.proofs.Common.{rules}
use Rattle.sample.proofs.Placing.{sought_starts, sought_out, sought_less, sought_same, sought_more}
use Rattle.sample.proofs.keeping.place_of.Goals as goal

pub loop-place-init : goal.loop-place-init
loop-place-init c = sought_starts c.args.pair.now c.args.best.now c.args.held c.requires _ _ _ (search rules) (search rules) (search rules)

pub returns-in-Less : goal.returns-in-Less
returns-in-Less c =
    let a = c.args in
    let step = c.in-Some.ensures.steps in
    sought_less a.pair.now a.best.now a.held c.requires _ _ _ c.loop-place.invariant _ _ step.0.1.0 step.0.1.1 c.in-Some.place step.1 (search rules)

pub returns-in-Equal : goal.returns-in-Equal
returns-in-Equal c =
    let a = c.args in
    let step = c.in-Some.ensures.steps in
    sought_same a.pair.now a.best.now a.held c.requires _ _ _ c.loop-place.invariant _ _ step.0.1.0 step.0.1.1 (search rules)

pub loop-place-preserved : goal.loop-place-preserved
loop-place-preserved c =
    let a = c.args in
    let step = c.in-Some.ensures.steps in
    sought_more a.pair.now a.best.now a.held c.requires _ _ _ c.loop-place.invariant _ _ step.0.1.0 step.0.1.1 _ _ step.0.0 step.2 (search rules)

pub returns : goal.returns
returns c =
    let a = c.args in
    let out = rw c.in-None.is at c.next.ensures.steps in
    sought_out a.pair.now a.best.now a.held c.requires _ _ _ c.loop-place.invariant out.0.1.0
