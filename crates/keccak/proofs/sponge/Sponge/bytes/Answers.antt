use mathlib.Core.Path.{refl, ap₂, ◌∙◌}
use native.Mathlib.Omega.{arith}
use Rattle.keccak.specs.Sponge.{sponge, absorbed}
use Rattle.keccak.proofs.Step.{byte_full, byte_next}
use Rattle.keccak.proofs.sponge.Sponge.bytes.Goals as goal
use Rattle.keccak.proofs.sponge.Sponge.bytes.Goals.{then-place-eq-RATE, else-place-eq-RATE}

pub loop-byte-init : goal.loop-byte-init
unfolding absorbed
loop-byte-init c = (c.requires, refl)

pub loop-byte-preserved : goal.loop-byte-preserved
loop-byte-preserved c =
    let g = c.args in
    let l = c.loop-byte in
    elim c.if-place-eq-RATE.branch [
      | then-place-eq-RATE w ↦ (
        omega arith,
        ap₂ sponge w.lanes-is w.place-is
            ∙ byte_full l.lanes l.place c.placed.result g.self g.part.now l.byte-index c.loop-byte-test.true c.placed.ensures l.invariant.1
            w.permute-lanes.result w.if-place-eq-RATE.true w.permute-lanes.ensures,
      )
      | else-place-eq-RATE w ↦ (
        omega (arith, w.if-place-eq-RATE.false),
        ap₂ sponge w.lanes-is w.place-is
            ∙ byte_next l.lanes l.place c.placed.result g.self g.part.now l.byte-index c.loop-byte-test.true c.placed.ensures l.invariant.1
            w.if-place-eq-RATE.false,
      )
    ]
