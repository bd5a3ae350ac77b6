-- `tree::hash` meets its contract: the prefix and the two parts, absorbed one after the other, are the message.
use mathlib.Core.Path.{ap, ◌∙◌}
use mathlib.Core.List.{[], ◌++◌, append_assoc}
use Rattle.octets.proofs.Bytes.{bytes_known, bytes_append}
use Rattle.keccak.specs.Hash.{keccak256}
use Rattle.keccak.proofs.Theorems.{holds_new, holds_absorb, holds_finish}
use Rattle.tree.proofs.hash.Goals as goal

pub returns : goal.returns
returns c =
    let x = c.args in
    let p = x.prefix.now in
    let a = x.first.now in
    let b = x.second.now in
    let kp = bytes_known p (λ i. (c.type_inv.prefix i).fits) in
    let ka = bytes_known a (λ i. (c.type_inv.first i).fits) in
    let kb = bytes_known b (λ i. (c.type_inv.second i).fits) in
    let h₁ = holds_absorb c.new.result c.absorb.result [] p (holds_new c.new.result c.new.ensures) c.absorb.ensures in
    let h₂ = holds_absorb c.absorb.result c.absorb-2.result p a h₁ c.absorb-2.ensures in
    let h₃ = holds_absorb c.absorb-2.result c.absorb-3.result (p ++ a) b h₂ c.absorb-3.ensures in
    holds_finish c.absorb-3.result (p ++ a ++ b) c.finish.result (bytes_append (p ++ a) b (bytes_append p a kp ka) kb) h₃ c.finish.ensures
    ∙ ap keccak256 (append_assoc p a b)
