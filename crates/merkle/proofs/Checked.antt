-- Every message that the check of an honest proof hashes is among those that the chunk's address hashes.
use mathlib.Core.Path.{◌≡◌, refl, sym, ap, ap₂, subst, ◌∙◌}
use mathlib.Core.Logic.{⊎_elim}
use mathlib.Core.List.Memᴰ
use mathlib.Core.List.{List, ◌++◌, Memᴰ}
use Prim.Native.Nat.{ℕ, zero, suc, ◌+◌, ◌-◌, ◌*◌, ◌/◌, ◌%◌, ◌^◌, ◌<◌, ◌≤◌}
use native.Mathlib.Omega.{arith}
use lib.ListN.{length, take, drop}
use Rattle.merkle.specs.Tree.{pad_to, width, root_hashed, address_hashed}
use Rattle.merkle.specs.Proof.{side, paired, climb_hashed, check_hashed, proof_of}
use Rattle.merkle.proofs.Collide.{Among}
use Rattle.merkle.proofs.Roots.{joined, own_hashed, left_hashed, right_hashed, top_hashed, tree_hashed}
use Rattle.merkle.proofs.Climbs.{step}
use Rattle.merkle.proofs.Nodes.{part, left_part, right_part, pair_joined, half_index}
use Rattle.merkle.proofs.Honest.{honest_sister, honest_span, honest_climbed, honest_top, top_part}

-- what a node hashes is among what the node above it hashes
above_hashed : (prefix : List ℕ) (l n : ℕ) (bytes : List ℕ)
    → Among (root_hashed prefix l (part l n bytes)) (root_hashed prefix (suc l) (part (suc l) (n / 2) bytes))
above_hashed prefix l n bytes = by_side (n % 2) refl
  where
    above : List ℕ
    above = part (suc l) (n / 2) bytes

    by_side : (s : ℕ) → n % 2 ≡ s → Among (root_hashed prefix l (part l n bytes)) (root_hashed prefix (suc l) above)
    by_side zero e =
        let here : n ≡ 2 * (n / 2) = omega arith in
        let half : part l n bytes ≡ take (width l) above = ap (λ (k : ℕ). part l k bytes) here ∙ sym (left_part l (n / 2) bytes) in
        subst (λ (p : List ℕ). Among (root_hashed prefix l p) (root_hashed prefix (suc l) above)) (sym half) (left_hashed prefix l above)
    by_side (suc zero) e =
        let here : n ≡ 2 * (n / 2) + 1 = omega arith in
        let half : part l n bytes ≡ drop (width l) above = ap (λ (k : ℕ). part l k bytes) here ∙ sym (right_part l (n / 2) bytes) in
        subst (λ (p : List ℕ). Among (root_hashed prefix l p) (root_hashed prefix (suc l) above)) (sym half) (right_hashed prefix l above)
    by_side (suc (suc s)) e = absurd (omega arith)

module _ (prefix span chunk : List ℕ) (index : ℕ) (inside : index ≤ 127) where
  top_among : Among (root_hashed prefix 7 (part 7 (index / 2 ^ 7) (pad_to 4096 chunk))) (root_hashed prefix 7 (pad_to 4096 chunk))
  top_among =
      let family : List ℕ → Type 0 = λ p. Among (root_hashed prefix 7 p) (root_hashed prefix 7 (pad_to 4096 chunk)) in
      subst family (sym (top_part prefix span chunk index inside)) (λ m h. h)

  -- the node of level l above the segment asked for, k levels below the root
  way_hashed : (k l : ℕ) → k + l ≡ 7
      → Among (root_hashed prefix l (part l (index / 2 ^ l) (pad_to 4096 chunk))) (root_hashed prefix 7 (pad_to 4096 chunk))
  way_hashed zero l e =
      let seventh : l ≡ 7 = omega arith in
      let family : ℕ → Type 0 = λ n. Among (root_hashed prefix n (part n (index / 2 ^ n) (pad_to 4096 chunk))) (root_hashed prefix 7 (pad_to 4096 chunk)) in
      subst family (sym seventh) top_among
  way_hashed (suc k) l e = λ m h.
      let above = above_hashed prefix l (index / 2 ^ l) (pad_to 4096 chunk) m h in
      let named = subst (λ (n : ℕ). Memᴰ m (root_hashed prefix (suc l) (part (suc l) n (pad_to 4096 chunk)))) (half_index index l) above in
      way_hashed k (suc l) (omega arith) m named

  step_is : (l : ℕ) → l < 7
      → step prefix index (proof_of prefix span chunk index) l ≡ joined prefix l (part (suc l) (index / 2 ^ suc l) (pad_to 4096 chunk))
  step_is l h =
      ap₂ (paired (side index l)) (honest_climbed prefix span chunk index inside l (omega arith)) (honest_sister prefix span chunk index inside l h)
      ∙ pair_joined prefix l (index / 2 ^ l) (pad_to 4096 chunk)
      ∙ ap (λ (n : ℕ). joined prefix l (part (suc l) n (pad_to 4096 chunk))) (half_index index l)

  climb_among : (l : ℕ) → l ≤ 7 → Among (climb_hashed prefix index (proof_of prefix span chunk index) l) (root_hashed prefix 7 (pad_to 4096 chunk))
  unfolding climb_hashed
  climb_among zero h m k = absurd (Memᴰ.not-nil k)
  climb_among (suc l) h m k =
      let own = own_hashed prefix l (part (suc l) (index / 2 ^ suc l) (pad_to 4096 chunk)) in
      let held = way_hashed (6 - l) (suc l) (omega arith) _ own in
      ⊎_elim (λ e. Memᴰ.cast (e ∙ ap (λ (x : List ℕ). prefix ++ x) (step_is l h)) held) (climb_among l (omega arith) m) (Memᴰ.cases_cons k)

  pub check_among : length span ≡ 8 → Among (check_hashed prefix index (proof_of prefix span chunk index)) (address_hashed prefix span chunk)
  unfolding check_hashed
  check_among e m k =
      let found = honest_span prefix span chunk index inside e in
      let top = honest_top prefix span chunk index inside in
      ⊎_elim
      (λ same. Memᴰ.cast (same ∙ ap₂ (λ (s r : List ℕ). prefix ++ (s ++ r)) found top) (top_hashed prefix span chunk))
      (λ below. tree_hashed prefix span chunk m (climb_among 7 (omega arith) m below))
      (Memᴰ.cases_cons k)
