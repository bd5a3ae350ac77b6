-- The text ends within the buffer.
use native.Mathlib.Omega.{arith}
use Rattle.listing.proofs.Puts
use Rattle.listing.proofs.text.list.Goals as goal

pub returns-clause-upper_bound : goal.returns-clause-upper_bound
returns-clause-upper_bound c = Puts.put_inside (omega arith) c.put_text.ensures.put
