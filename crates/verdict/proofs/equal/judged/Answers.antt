-- `verdict::equal::judged` meets its contract.
use Rattle.std.proofs.Common.{ap, sym, ◌∙◌}
use Rattle.verdict.specs.Equal.{judged_by}
use Rattle.verdict.proofs.equal.judged.Goals as goal

pub returns-then-eq : goal.returns-then-eq
returns-then-eq g c = ap judged_by (sym c.if-eq.true ∙ c.eq.ensures)

pub returns-else-eq : goal.returns-else-eq
returns-else-eq g c = ap judged_by (sym c.if-eq.false ∙ c.eq.ensures)
