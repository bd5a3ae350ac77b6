-- Each half is the definition's.
use Rattle.digits.specs.Field.{hex}
use Rattle.digits.proofs.spelling.hex_of.Goals as goal

pub returns : goal.returns
unfolding hex
returns c = cc
