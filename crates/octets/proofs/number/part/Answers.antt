use mathlib.Core.Path.{◌∙◌}
use mathlib.Core.Logic.{◌⊎◌, inl, inr}
use Prim.Native.Nat.{◌+◌, ◌<◌}
use native.Mathlib.Omega.{arith}
use lib.ListN.{length}
use Rattle.octets.proofs.Words
use Rattle.octets.proofs.number.part.Goals as goal

pub returns-in_err-get : goal.returns-in_err-get
returns-in_err-get g c =
    let a = c.args in
    let past : (length a.s.now < a.at) ⊎ (length a.s.now < length a.s.now) → length a.s.now < a.at + g.row.N = λ d. elim d [ inl h ↦ omega arith | inr h ↦ omega arith ] in
    c.from_residual.ensures ∙ Words.part_not g.row.N a.s.now a.at (past c.in_err-get.ensures.lookup.0)

pub returns : goal.returns
returns g c =
    let rest = c.in_ok-get.ensures.lookup.0 in
    c.copied.ensures ∙ Words.first_part g.row.N c.args.s.now c.args.at c.in_ok-get.field-0.now c.first_chunk.result rest.0 rest.2 c.first_chunk.ensures.cases
