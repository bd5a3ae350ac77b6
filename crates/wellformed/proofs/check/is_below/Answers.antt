-- Slots of 40 bytes stand as their numbers do.
use mathlib.Core.Path.{ap, ◌∙◌}
use native.Mathlib.Omega.{arith}
use Rattle.std.specs.Ordering.{is_lt}
use Rattle.octets.proofs.Bytes.{bytes_known}
use Rattle.wellformed.proofs.Tests
use Rattle.wellformed.proofs.check.is_below.Goals as goal

pub returns : goal.returns
returns c =
    let a = c.args.first.now in
    let b = c.args.second.now in
    c.is_lt.ensures ∙ ap is_lt c.compare.ensures ∙ Tests.slots_below a b (omega arith) (omega arith) (bytes_known a c.fits-first) (bytes_known b c.fits-second)
