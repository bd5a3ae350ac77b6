use Rattle.std.proofs.Common.{◌≡◌, ◌+◌, ◌-◌, ◌*◌, drop, sym, ◌∙◌, append-nil, arith, rules}
use Rattle.std.proofs.lemmas.List.{take_at}
use Rattle.merkle.specs.Tree.{pad_to}
use Rattle.merkle.specs.Proof.{node, sisters}
use Rattle.merkle.proofs.Sisters.{sister_put, beside_fits, proof_whole}
use Rattle.proving.proofs.making.proof_of.Goals as goal

pub loop-level-init : goal.loop-level-init
unfolding sisters
loop-level-init c =
    let segment = c.copy_from_slice.ensures in
    take_at c.copy_from_slice.new.self _ 32 segment.len ∙ segment.after ∙ c.node.ensures ∙ sym (append-nil _)

pub node-requires-in-loop-level : goal.node-requires-in-loop-level
node-requires-in-loop-level c = (omega arith, rw c.beside.ensures (beside_fits c.loop-level.level c.args.index (omega arith) (omega arith)))

pub loop-level-preserved : goal.loop-level-preserved
loop-level-preserved c =
    let x = c.args in
    let bytes = pad_to 4096 x.«data».now in
    let at = 32 + 32 * c.loop-level.level in
    let s = c.loop-level.proof in
    let sister = c.copy_from_slice-in-loop-level in
    sister_put x.prefix.now x.index bytes (node x.prefix.now 0 x.index bytes) s sister.new.self (drop (at + 32 - at) (drop at s)) c.loop-level.level
    c.beside.result (omega arith) (search rules) c.loop-level.invariant c.beside.ensures (sister.ensures.after ∙ c.node-in-loop-level.ensures)

pub returns : goal.returns
returns c =
    let x = c.args in
    let last : c.loop-level.level ≡ 7 = omega arith in
    let laid = rw last at c.loop-level.invariant in
    rw c.copy_from_slice-2.ensures.after (proof_whole x.prefix.now x.span.now x.«data».now x.index c.loop-level.proof c.loop-level-test.array_long laid)
