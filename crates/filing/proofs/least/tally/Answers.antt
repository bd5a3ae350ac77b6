-- Each record raises the counter of its nearness.
use native.Mathlib.Omega.{arith}
use Rattle.settling.proofs.Counters.{counters_none}
use Rattle.book.specs.Shape.{shape_in}
use Rattle.filing.proofs.Counting
use Rattle.filing.proofs.least.tally.Goals as goal

pub loop-held-init : goal.loop-held-init
loop-held-init c = counters_none (shape_in c.args.header.now)

pub overflow_add-counters : goal.overflow_add-counters
overflow_add-counters c =
    let a = c.args in
    let small =
    Counting.counter_small a.header.now (omega arith) c.loop-held.counters a.records.now c.loop-held.held-index c.loop-held.invariant (omega arith) c.near.result (Counting.near_few _ _ _ c.near.ensures) in
    record { fits = omega (arith, small) }

pub loop-held-preserved : goal.loop-held-preserved
loop-held-preserved c =
    let a = c.args in
    let i = c.loop-held.held-index in
    Counting.counted_next a.header.now (omega arith) c.loop-held.counters a.records.now i c.loop-held.invariant c.near.result c.loop-held-test.true (c.told-records i c.loop-held-test.true) c.near.ensures

pub overflow_add-counters-2 : goal.overflow_add-counters-2
overflow_add-counters-2 c =
    let a = c.args in
    let small =
    Counting.counter_small a.header.now (omega arith) c.loop-held.counters a.records.now c.loop-held.held-index c.loop-held.invariant (omega arith) c.near-2.result (Counting.near_few _ _ _ c.near-2.ensures) in
    record { fits = omega (arith, small) }

pub returns : goal.returns
returns c =
    let a = c.args in
    Counting.counted_all a.header.now (omega arith) c.loop-held.counters a.records.now c.loop-held.held-index c.loop-held.invariant c.loop-held-test.false c.near-2.result a.given.now (omega arith) c.near-2.ensures
