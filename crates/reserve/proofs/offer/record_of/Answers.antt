-- The three parts, one behind the other.
use mathlib.Core.Path.{refl}
use lib.ListN.{replicate}
use Rattle.reserve.proofs.Stamped
use Rattle.reserve.proofs.offer.record_of.Goals as goal

pub returns : goal.returns
returns c =
    Stamped.record_put c.args.address.now c.args.stamp.now c.requires.0 c.requires.1 (replicate 145 0) _ _ _ refl c.put.ensures c.put-2.ensures c.put-3.ensures
