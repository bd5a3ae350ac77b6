use mathlib.Core.Path.{◌≡◌, refl, sym, ap, ap₂, ◌∙◌}
use mathlib.Core.List.{List, []}
use Prim.Native.Nat.{ℕ}
use native.Mathlib.Omega.{arith}
use lib.ListN.{length, get_or, take, length-set}
use Rattle.octets.specs.Number.{little}
use Rattle.octets.proofs.Words.{little_std}
use Rattle.permutation.proofs.Rounds.{permute_length}
use Rattle.keccak.specs.Sponge.{sponge, absorbed, joined_parts}
use Rattle.keccak.proofs.Step.{word_full, word_next, word_bytes, joined_more}
use Rattle.keccak.proofs.sponge.Sponge.words.Goals as goal
use Rattle.keccak.proofs.sponge.Sponge.words.Goals.{then-place-eq-RATE, else-place-eq-RATE}

pub loop-word-init : goal.loop-word-init
unfolding absorbed joined_parts
loop-word-init c = (c.requires.0.in_block, c.requires.1, c.requires.0.lanes25, refl)

pub loop-word-preserved : goal.loop-word-preserved
loop-word-preserved c =
    let g = c.args in
    let l = c.loop-word in
    let i = l.word-index in
    let ws = g.words.now in
    let bs : List ℕ = get_or ws i [] in
    let long : length bs ≡ 8 = c.told-words i c.loop-word-test.true in
    let known = word_bytes ws i c.requires.2 in
    let read : c.from_le_bytes.result ≡ little bs = c.from_le_bytes.ensures ∙ little_std 7 bs long in
    let more = ap (absorbed g.self) (sym (joined_more ws i c.loop-word-test.true)) in
    elim c.if-place-eq-RATE.branch [
      | then-place-eq-RATE w ↦ (
        omega arith,
        omega arith,
        ap length (w.lanes-is ∙ w.permute-lanes.ensures) ∙ permute_length _,
        ap₂ sponge w.lanes-is w.place-is
            ∙ word_full l.lanes l.place _ g.self (joined_parts (take i ws)) bs l.invariant.2 l.invariant.0 l.invariant.1 long known read l.invariant.3
            w.permute-lanes.result w.if-place-eq-RATE.true w.permute-lanes.ensures
            ∙ more,
      )
      | else-place-eq-RATE w ↦ (
        omega (arith, w.if-place-eq-RATE.false),
        omega arith,
        ap length w.lanes-is ∙ length-set l.lanes _ _ ∙ l.invariant.2,
        ap₂ sponge w.lanes-is w.place-is
            ∙ word_next l.lanes l.place _ g.self (joined_parts (take i ws)) bs l.invariant.2 l.invariant.0 l.invariant.1 long known read l.invariant.3
            w.if-place-eq-RATE.false
            ∙ more,
      )
    ]
