use mathlib.Core.Path.{◌≡◌, ◌∙◌, ap}
use native.Mathlib.Omega.{arith}
use native.Mathlib.Nat.{add-sub_cancel_left}
use Prim.Native.Nat.{ℕ, ◌+◌, ◌*◌}
use lib.ListN.{take, drop}
use Rattle.nearing.specs.Near.{near_in}
use Rattle.filing.proofs.Packing
use Rattle.filing.proofs.keep.pack.Goals as goal
use Rattle.filing.proofs.keep.pack.Goals.{then-from-near, else-from-near}

pub loop-i-preserved : goal.loop-i-preserved
loop-i-preserved c =
    let a = c.args in
    let i = c.loop-i.i in
    let s = c.loop-i.book in
    let near : c.near.result ≡ near_in s (take 145 (drop (48 + 145 * i) s)) = c.near.ensures ∙ ap (λ (n : ℕ). near_in s (take n (drop (48 + 145 * i) s))) (add-sub_cancel_left (48 + 145 * i) 145) in (
      elim c.if-from-near.branch [ then-from-near w ↦ omega arith | else-from-near w ↦ omega arith ],
      c.if-from-near.auto.book ∙ c.loop-i.invariant.1,
      λ was count h k p.
          elim c.if-from-near.branch [
            | then-from-near w ↦
                rw (w.book-is, w.front-is)
                (Packing.packed_in was count a.depth k s i c.loop-i.front (c.loop-i.invariant.2 was count h k p) (omega arith)
                c.near.result near w.lower.new.s (omega (arith, w.if-from-near.true)) (omega arith) w.lower.ensures)
            | else-from-near w ↦
                rw (w.book-is, w.front-is)
                (Packing.packed_out was count a.depth k s i c.loop-i.front (c.loop-i.invariant.2 was count h k p) (omega arith) c.near.result near (omega (arith, w.if-from-near.false)))
          ],
    )

pub returns : goal.returns
returns c =
    let a = c.args in
    let end : c.loop-i.i ≡ a.to = omega arith in
    (omega arith, λ was count h k p. rw end at (c.loop-i.invariant.2 was count h k p))
