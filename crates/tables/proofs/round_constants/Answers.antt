-- `tables::round_constants` meets its contract, by computing and not by a search: of a wrong constant a search would find no end.
use mathlib.Core.Path.{refl}
use Rattle.tables.proofs.round_constants.Goals as goal

pub returns : goal.returns
returns c = refl
