-- What was read lies within the space.
use Rattle.std.proofs.Common.{sym}
use Rattle.std.proofs.lemmas.List.{length-take-le}
use Rattle.streams.proofs.read_all.Goals as goal

pub returns : goal.returns
returns g c = (c.fill.ensures.0, sym (length-take-le _ _ c.fill.ensures.0))
