use borrow.Author.Rules.{rules}
use Prim.Native.Nat.{◌+◌, ◌-◌}
use mathlib.Core.Path.{◌≡◌, sym, ◌∙◌}
use native.Mathlib.Omega.{arith}
use lib.ListN.{length}
use Rattle.settling.proofs.Least.{descent_start, descent_next, descent_stop}
use Rattle.filing.proofs.Counting.{walk_end}
use Rattle.filing.proofs.least.lowest.Goals as goal

pub loop-depth-init : goal.loop-depth-init
loop-depth-init c =
    let a = c.args in
    let size : length a.counters ≡ 17 = search rules in
    (size, omega arith, λ h. rw size at (descent_start a.capacity a.counters a.from (omega (arith, size, h))))

pub overflow_sub-capacity : goal.overflow_sub-capacity
overflow_sub-capacity c = (c.loop-depth.invariant.2 (omega (arith, c.loop-depth.invariant.1))).fits

pub returns-then-capacity-kept : goal.returns-then-capacity-kept
returns-then-capacity-kept c =
    let a = c.args in
    let inner = c.loop-depth.invariant.2 (omega (arith, c.loop-depth.invariant.1)) in
    let e : c.loop-depth.depth - 1 + 1 ≡ c.loop-depth.depth = omega arith in
    e ∙ sym (descent_stop a.capacity a.counters a.from c.loop-depth.depth c.loop-depth.kept inner (omega arith) (omega arith))

pub overflow_add-kept : goal.overflow_add-kept
overflow_add-kept c =
    let inner = c.loop-depth.invariant.2 (omega (arith, c.loop-depth.invariant.1)) in
    omega (arith, inner.fits)

pub loop-depth-preserved : goal.loop-depth-preserved
loop-depth-preserved c =
    let a = c.args in
    let inner = c.loop-depth.invariant.2 (omega (arith, c.loop-depth.invariant.1)) in (
      c.loop-depth.invariant.0,
      omega (arith, c.loop-depth.invariant.1),
      λ h. descent_next a.capacity a.counters a.from c.loop-depth.depth c.loop-depth.kept inner (omega arith) (omega arith),
    )

pub returns : goal.returns
returns c =
    let a = c.args in
    sym (walk_end a.capacity a.counters a.from c.loop-depth.depth c.loop-depth.kept c.loop-depth.invariant.0 c.loop-depth.invariant.2 (omega arith))
