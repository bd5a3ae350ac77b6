-- `tree::root` meets its contract.
use Rattle.std.proofs.Common.{◌≡◌, ◌-◌, length, min, ap, ◌∙◌, arith}
use Rattle.merkle.specs.Tree.{width}
use Rattle.merkle.proofs.Stretch.{root_segment, root_level}
use Rattle.merkle.proofs.Zeros.{zeros_fewer, second_lacks}
use Rattle.tree.proofs.+root.Goals as goal

pub returns-then-level-eq0 : goal.returns-then-level-eq0
returns-then-level-eq0 t c = c.padded.ensures ∙ root_segment c.args.prefix.now c.args.level c.args.part.now c.if-level-eq0.true

pub root-right-requires : goal.root-right-requires
root-right-requires t c =
    let x = c.args in
    let r = c.requires in
    let half : c.min.result ≡ min (length x.part.now) (width (x.level - 1)) = c.min.ensures ∙ ap (min (length x.part.now)) c.width.ensures in
    let back = c.split_at.ensures.back in
    let lacks = second_lacks x.level x.part.now c.min.result c.if-level-eq0.false r.level_bound.1 half in (
      omega arith,
      ((omega arith, rw back lacks.0), rw back (zeros_fewer x.prefix.now _ _ x.zeros.now lacks.1 r.zero_roots)),
    )

pub returns : goal.returns
returns t c =
    let x = c.args in
    let half : c.min.result ≡ min (length x.part.now) (width (x.level - 1)) = c.min.ensures ∙ ap (min (length x.part.now)) c.width.ensures in
    c.hash.ensures
    ∙ rw (c.root-left.ensures, c.root-right.ensures, c.split_at.ensures.front, c.split_at.ensures.back) (root_level x.prefix.now x.level x.part.now c.min.result c.if-level-eq0.false half)
