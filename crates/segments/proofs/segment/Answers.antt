-- `segments::segment` meets its contract.
use Rattle.std.proofs.Common.{◌*◌}
use Rattle.merkle.proofs.Stretch.{stretch_is}
use Rattle.segments.proofs.segment.Goals as goal

pub returns-clause-result_value : goal.returns-clause-result_value
returns-clause-result_value c =
    stretch_is (32 * c.args.index) 32 c.args.«data».now c.segment_start-start.result c.min-end.result c.segment_start-start.ensures c.min-end.ensures
