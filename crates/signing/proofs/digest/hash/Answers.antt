-- The parts are absorbed in turn.
use mathlib.Core.List.{[], ◌++◌}
use Rattle.octets.proofs.Bytes.{bytes_append, bytes_known}
use Rattle.keccak.proofs.Theorems.{holds_new, holds_absorb, holds_finish}
use Rattle.signing.proofs.digest.hash.Goals as goal

pub returns : goal.returns
returns c =
    let known = bytes_append c.args.first.now c.args.second.now (bytes_known c.args.first.now (λ i. (c.type_inv.first i).fits)) (bytes_known c.args.second.now (λ i. (c.type_inv.second i).fits)) in
    let begun = holds_absorb c.new.result c.absorb.result [] c.args.first.now (holds_new c.new.result c.new.ensures) c.absorb.ensures in
    holds_finish c.absorb-2.result (c.args.first.now ++ c.args.second.now) c.finish.result known (holds_absorb c.absorb.result c.absorb-2.result c.args.first.now c.args.second.now begun c.absorb-2.ensures) c.finish.ensures
