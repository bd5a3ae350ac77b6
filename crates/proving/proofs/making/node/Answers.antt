-- `proving::making::node` meets its contract: all that is left of the data from the node on, with zeros behind it, begins with its stretch.
use mathlib.Core.Path.{◌≡◌, ap, ◌∙◌}
use Prim.Native.Nat.{ℕ, ◌-◌, ◌*◌, ◌^◌, ◌%◌, min}
use native.Mathlib.Omega.{arith}
use lib.ListN.{length, take, drop}
use lib.Pow.{shl_exact}
use Rattle.merkle.specs.Tree.{width, root}
use Rattle.merkle.proofs.Stretch.{pad_from}
use Rattle.tree.proofs.Within.{root_within}
use Rattle.proving.proofs.making.node.Goals as goal

pub returns : goal.returns
returns c =
    let x = c.args in
    let p = x.prefix.now in
    let d = x.«data».now in
    let w : (32 * 2 ^ x.level) % 2 ^ 64 ≡ width x.level = shl_exact 6 x.level 64 (omega arith) (omega arith) in
    let start : c.min-start.result ≡ min (length d) (x.n * width x.level) = c.min-start.ensures ∙ ap (λ (k : ℕ). min (length d) (x.n * k)) w in
    c.root_of.ensures
    ∙ root_within p x.level (take (length d - c.min-start.result) (drop c.min-start.result d)) c.requires.0
    ∙ ap (root p x.level) (pad_from 4096 (x.n * width x.level) (width x.level) d c.min-start.result c.requires.1 start)
