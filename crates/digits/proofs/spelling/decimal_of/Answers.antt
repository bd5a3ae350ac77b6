use Prim.Native.Nat.{suc, ◌-◌}
use mathlib.Core.Path.{◌≡◌, refl, ◌∙◌}
use mathlib.Core.List.{append-nil}
use native.Mathlib.Omega.{arith}
use lib.ListN.{length, set, length-set}
use Rattle.digits.specs.Field.{decimal}
use Rattle.digits.proofs.Letters
use Rattle.digits.proofs.spelling.decimal_of.Goals as goal

pub loop-above-init : goal.loop-above-init
unfolding decimal
loop-above-init c = (refl, omega arith, omega arith, omega arith, append-nil _, refl)

pub loop-above-preserved : goal.loop-above-preserved
loop-above-preserved c =
    let i = c.loop-above.from - 1 in
    let left = Letters.room_left c.loop-above.from c.loop-above.above (omega arith) c.loop-above.invariant.3 in
    let from : suc i ≡ c.loop-above.from = omega arith in (
      simp length-set c.loop-above.invariant.0,
      omega arith,
      omega arith,
      Letters.below_next c.loop-above.from c.loop-above.above (omega arith) c.loop-above.invariant.3,
      rw c.digit.ensures (Letters.one_more c.loop-above.bytes i (omega arith) c.loop-above.above (omega arith) ∙ rw from c.loop-above.invariant.4),
      Letters.zeros_before c.loop-above.bytes i c.loop-above.from c.digit.result (omega arith) c.loop-above.invariant.5,
    )

pub returns : goal.returns
returns c =
    let i = c.loop-above.from - 1 in
    let from : suc i ≡ c.loop-above.from = omega arith in
    let size : length (set c.loop-above.bytes i c.digit-2.result) ≡ 20 = simp length-set c.loop-above.invariant.0 in
    record {
      value =
          Letters.all_spelled c.args.n i (set c.loop-above.bytes i c.digit-2.result) size (omega arith)
          (Letters.zeros_before c.loop-above.bytes i c.loop-above.from c.digit-2.result (omega arith) c.loop-above.invariant.5)
          (rw c.digit-2.ensures (Letters.the_last c.loop-above.bytes i (omega arith) c.loop-above.above (omega arith) ∙ rw from c.loop-above.invariant.4));
      from_bound = (omega arith, omega (arith, size));
    }
