use mathlib.Core.Path.{◌≡◌, refl, ap, ◌∙◌}
use mathlib.Core.List.{List}
use Prim.Native.Nat.{ℕ}
use native.Mathlib.Omega.{arith}
use lib.ListN.{get_or}
use Rattle.tables.specs.Rules.{RC}
use Rattle.tables.proofs.Tabulated.{tab_at}
use Rattle.permutation.specs.Permutation.{rounds, permute}
use Rattle.permutation.proofs.Rounds.{one_more}
use Rattle.permutation.proofs.permute.Goals as goal

pub loop-rc-init : goal.loop-rc-init
unfolding rounds
loop-rc-init c = refl

pub loop-rc-preserved : goal.loop-rc-preserved
loop-rc-preserved c =
    let l = c.loop-rc in
    one_more l.rc-index _ c.args.start l.a _
    (ap (λ (s : List ℕ). get_or s l.rc-index 0) c.round_constants-rc-items.ensures ∙ tab_at RC 24 l.rc-index (omega (arith, c.loop-rc-test.true)))
    l.invariant c.round-b.ensures

pub returns : goal.returns
unfolding permute
returns c =
    let e : c.loop-rc.rc-index ≡ 24 = omega (arith, c.loop-rc-test.false, c.loop-rc.auto.rc-index-end) in
    c.loop-rc.invariant ∙ ap (λ (n : ℕ). rounds n c.args.start) e
