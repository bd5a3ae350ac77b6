use Rattle.std.proofs.Common.{rules, arith}
use lib.ListN.{length-take}
use Rattle.sample.proofs.Writing.{laid_starts, laid_more, laid_out}
use Rattle.sample.proofs.commitment.write_out.Goals as goal

pub loop-place-init : goal.loop-place-init
loop-place-init c = laid_starts c.args.best.now c.requires.1 c.args.sample.now _ _ _ c.requires.0 (search rules) (search rules) (search rules)

pub slice_bounds-put-end-in-loop-place : goal.slice_bounds-put-end-in-loop-place
slice_bounds-put-end-in-loop-place c = let size = c.in-Some.ensures.steps.0.1.1 in omega (arith, length-take 32 c.in-Some.pair.now, c.loop-place.invariant.wide)

pub loop-place-preserved : goal.loop-place-preserved
loop-place-preserved c =
    let step = c.in-Some.ensures.steps in
    laid_more c.args.best.now c.requires.1 _ _ _ _ c.loop-place.invariant _ _ step.0.1.0 step.0.1.1 c.in-Some.place _ _ c.put.new.s _ step.1 step.0.0 step.2
    c.put.ensures c.put-in-loop-place.ensures

pub returns : goal.returns
returns c =
    let out = rw c.in-None.is at c.next.ensures.steps in
    laid_out c.args.best.now c.requires.1 _ _ _ _ c.loop-place.invariant out.0.1.0
