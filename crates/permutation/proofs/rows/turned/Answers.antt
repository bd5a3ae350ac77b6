-- The lane is turned by its own offset, at each of the 25 places by computing.
use mathlib.Core.Path.{◌≡◌, ◌∙◌}
use lib.Bits.{xor_lt}
use Rattle.std.specs.Int.{w64, rotate_left}
use Rattle.permutation.proofs.Rounds.{brought, turned_by, turned_lane}
use Rattle.permutation.proofs.rows.turned.Goals as goal

pub returns : goal.returns
returns c =
    let g = c.args in
    let made : c.rotate_left.result ≡ rotate_left w64 (brought g.a g.d g.x g.y) (turned_by g.x g.y) = c.rotate_left.ensures in
    made ∙ turned_lane g.a g.d g.x g.y c.requires.0 c.requires.1 (xor_lt 64 _ _ c.element_fits.fits c.element_fits2.fits)
