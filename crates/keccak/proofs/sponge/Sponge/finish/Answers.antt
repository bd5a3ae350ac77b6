-- `keccak::Sponge::finish` meets its contract.
use mathlib.Core.Path.{ap, ◌∙◌}
use Rattle.permutation.specs.Permutation.{permute}
use Rattle.keccak.specs.Sponge.{digest_of, finished}
use Rattle.keccak.proofs.Step.{padded_lanes}
use Rattle.keccak.proofs.sponge.Sponge.finish.Goals as goal

pub returns : goal.returns
unfolding finished
returns c =
    c.digest.ensures
    ∙ ap digest_of (c.permute.ensures ∙ ap permute (padded_lanes c.usable-s.result _ c.placed.ensures))
    ∙ ap finished c.usable-s.ensures.0
