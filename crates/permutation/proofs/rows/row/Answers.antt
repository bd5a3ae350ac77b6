use Rattle.permutation.specs.Steps.{rho, pi}
use Rattle.permutation.specs.Rows.{mixed}
use Rattle.permutation.proofs.Rounds.{row_is}
use Rattle.permutation.proofs.rows.row.Goals as goal

pub returns : goal.returns
returns g c =
    row_is (pi (rho (mixed c.args.a c.args.d))) g.row.Y c.requires _ _ _ _ _
    c.turned-b0.ensures c.turned-b1.ensures c.turned-b2.ensures c.turned-b3.ensures c.turned-b4.ensures
