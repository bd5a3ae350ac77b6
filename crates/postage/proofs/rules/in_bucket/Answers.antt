-- Both numbers are read where they stand. (The check finds this alone; of a wrong one it would only give up.)
use Rattle.postage.specs.Rules.{in_bucket}
use Rattle.postage.proofs.rules.in_bucket.Goals as goal

pub returns : goal.returns
unfolding in_bucket
returns c = rw (c.read.ensures, c.from.ensures, c.read-2.ensures)
