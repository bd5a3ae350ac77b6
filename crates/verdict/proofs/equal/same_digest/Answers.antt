-- `verdict::equal::same_digest` meets its contract: std's `==` of two digests asks what `same` asks.
use Rattle.std.proofs.Common.{◌∙◌}
use Rattle.verdict.proofs.Told.{compared}
use Rattle.verdict.proofs.equal.same_digest.Goals as goal

pub returns : goal.returns
returns c = c.eq.ensures ∙ compared c.args.a.now c.args.b.now
