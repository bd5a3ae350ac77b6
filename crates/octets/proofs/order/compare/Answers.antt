-- std's order of two strings is the byte order.
use native.Mathlib.Omega.{arith}
use Rattle.octets.proofs.Ordered
use Rattle.octets.proofs.order.compare.Goals as goal

pub returns : goal.returns
returns c = grind (arith, Ordered.order_is_std)
