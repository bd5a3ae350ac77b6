-- The number is told as a depth up to 16, and as none past it.
use mathlib.Core.Path.{ap, ◌∙◌}
use Rattle.filing.specs.Least.{rising}
use Rattle.filing.proofs.Counting
use Rattle.filing.proofs.least.rising_depth.Goals as goal

pub returns-then-least-le16 : goal.returns-then-least-le16
returns-then-least-le16 c = Counting.depth_told c.least_depth-least.result c.if-least-le16.true ∙ ap rising c.least_depth-least.ensures

pub returns-else-least-le16 : goal.returns-else-least-le16
returns-else-least-le16 c = Counting.none_told c.least_depth-least.result c.if-least-le16.false ∙ ap rising c.least_depth-least.ensures
