-- Of the bytes that are there, or of zeros, std makes the number.
use mathlib.Core.Path.{◌∙◌}
use Rattle.octets.proofs.Words
use Rattle.octets.proofs.number.read_little64.Goals as goal

pub returns : goal.returns
returns c = c.from_le_bytes.ensures ∙ Words.little_read 7 c.args.s.now c.args.at c.unwrap_or.result c.part.result c.unwrap_or.ensures c.part.ensures
