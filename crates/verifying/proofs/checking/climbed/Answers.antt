use Rattle.std.proofs.Common.{◌≡◌, List, ◌++◌, ℕ, ◌+◌, ◌*◌, length, take, drop, sym, ap, ◌∙◌, append_assoc, arith, length-drop, length-append, add-one}
use Rattle.std.proofs.lemmas.Grind.{common_steps}
use Rattle.std.proofs.lemmas.List.{take_at, drop_at, drop-drop, take-append-drop}
use Rattle.merkle.specs.Proof.{sister_in, climbed}
use Rattle.verifying.proofs.checking.climbed.Goals as goal

-- what is read next of the sisters that are left is the level's, and leaves the others
next_sister : (level : ℕ) (proof sister left rest : List ℕ) → length sister ≡ 32 → left ≡ sister ++ rest → left ++ drop 256 proof ≡ drop (32 + 32 * level) proof
    → (sister ≡ sister_in proof level) × (rest ++ drop 256 proof ≡ drop (32 + 32 * (level + 1)) proof)
next_sister level proof sister left rest k e h =
    let joined : sister ++ (rest ++ drop 256 proof) ≡ drop (32 + 32 * level) proof = sym (append_assoc sister rest (drop 256 proof)) ∙ ap (λ (s : List ℕ). s ++ drop 256 proof) (sym e) ∙ h in
    let on : 32 + 32 * level + 32 ≡ 32 + 32 * (level + 1) = omega arith in (
      sym (take_at sister (rest ++ drop 256 proof) 32 k) ∙ ap (take 32) joined,
      sym (drop_at sister (rest ++ drop 256 proof) 32 k) ∙ ap (drop 32) joined ∙ drop-drop 32 (32 + 32 * level) proof ∙ ap (λ (n : ℕ). drop n proof) on,
    )

pub loop-level-init : goal.loop-level-init
unfolding climbed
loop-level-init c =
    let none : c.into_iter-level-iterator.result.count ≡ 0 = grind (arith, common_steps) in
    record {
      inside = omega arith;
      size = grind (arith, common_steps);
      rest = rw none (grind (arith, take-append-drop 224 (drop 32 c.args.proof.now), drop-drop 224 32 c.args.proof.now));
      node = rw none (grind (arith, common_steps));
    }

pub loop-level-preserved : goal.loop-level-preserved
unfolding climbed
loop-level-preserved c =
    let steps = c.in-Some.ensures.steps in
    let level = c.loop-level.level-iterator.count in
    let proof = c.args.proof.now in
    let k : length c.in-Some.sister.now ≡ 32 = steps.0.1.1 ∙ c.loop-level.invariant.size in
    let next = next_sister level proof c.in-Some.sister.now _ _ k steps.0.1.0 c.loop-level.invariant.rest in
    record {
      inside = omega (arith, ap length steps.0.1.0, ap length c.loop-level.invariant.rest, length-append {A = ℕ}, length-drop {A = ℕ});
      size = steps.0.0 ∙ c.loop-level.invariant.size;
      rest = rw steps.2 next.1;
      node = rw (steps.2, add-one) (c.above-node.ensures ∙ rw (steps.1, next.0, c.loop-level.invariant.node));
    }

pub returns : goal.returns
returns c =
    let steps = c.in-None.ensures.steps in
    let all : c.loop-level.level-iterator.count ≡ 7 = omega (arith, ap length c.loop-level.invariant.rest, length-append {A = ℕ}, length-drop {A = ℕ}) in
    c.loop-level.invariant.node ∙ rw all
