-- Four fields, one behind the other.
use mathlib.Core.Path.{refl}
use native.Mathlib.Omega.{arith}
use Rattle.listing.specs.Line.{space, line}
use Rattle.listing.proofs.Puts
use Rattle.listing.proofs.line.put_levels.Goals as goal

pub returns-clause-put : goal.returns-clause-put
unfolding line
returns-clause-put c =
    Puts.number_then space c.from.ensures (omega arith) c.number.ensures.put
    (Puts.number_then space c.from-2.ensures (omega arith) c.number-2.ensures.put
    (Puts.number_then space refl (omega arith) c.number-3.ensures.put c.number-4.ensures.put))
