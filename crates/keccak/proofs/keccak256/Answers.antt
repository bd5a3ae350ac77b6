-- `keccak::keccak256` meets its contract.
use mathlib.Core.List.{[]}
use Rattle.octets.proofs.Bytes.{bytes_known}
use Rattle.keccak.proofs.Theorems.{holds_new, holds_absorb, holds_finish}
use Rattle.keccak.proofs.keccak256.Goals as goal

pub returns : goal.returns
returns c =
    holds_finish c.absorb.result c.args.message.now c.finish.result (bytes_known c.args.message.now (λ i. (c.type_inv.message i).fits))
    (holds_absorb c.new.result c.absorb.result [] c.args.message.now (holds_new c.new.result c.new.ensures) c.absorb.ensures) c.finish.ensures
