use Prim.Native.Nat.{ℕ, ◌+◌}
use mathlib.Core.Path.{sym, ap, ◌∙◌}
use native.Mathlib.Omega.{arith}
use lib.Bits.{bit_xor}
use lib.Count.{leading_le}
use Rattle.octets.proofs.Bytes.{bytes_known}
use Rattle.nearness.proofs.Words
use Rattle.nearness.proofs.near.shared_bits.Goals as goal

pub overflow_add-result : goal.overflow_add-result
overflow_add-result c = omega (arith, leading_le 64 (bit_xor c.read.result c.read-in-loop-at.result))

pub returns-then-apart-ne0 : goal.returns-then-apart-ne0
returns-then-apart-ne0 c =
    let s = c.args in
    let ka = bytes_known s.first.now c.fits-first in
    let kb = bytes_known s.second.now c.fits-second in
    sym (c.loop-at.invariant.3 ∙ ap (λ (n : ℕ). c.loop-at.bits + n)
    (Words.shared_stops s.first.now s.second.now c.loop-at.at c.read.result c.read-in-loop-at.result (omega arith) (omega arith) ka kb c.read.ensures c.read-in-loop-at.ensures c.read.type_inv c.read-in-loop-at.type_inv c.if-apart-ne0.true))

pub loop-at-preserved : goal.loop-at-preserved
loop-at-preserved c =
    let s = c.args in
    let ka = bytes_known s.first.now c.fits-first in
    let kb = bytes_known s.second.now c.fits-second in
    let on = Words.shared_goes_on s.first.now s.second.now c.loop-at.at c.read.result c.read-in-loop-at.result (omega arith) (omega arith) ka kb c.read.ensures c.read-in-loop-at.ensures c.read.type_inv c.read-in-loop-at.type_inv c.if-apart-ne0.false in
    (omega arith, omega arith, omega arith, omega arith)

pub returns : goal.returns
returns c =
    let s = c.args in
    omega (arith, Words.shared_none s.first.now s.second.now c.loop-at.at (omega arith))
