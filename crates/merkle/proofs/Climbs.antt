-- One rebuilt address, one proof: or a collision.
use mathlib.Core.Path.{◌≡◌, refl, sym, ap, ap₂, ◌∙◌}
use mathlib.Core.Logic.{◌⊎◌, inl}
use mathlib.Core.List.{List, ◌++◌, Memᴰ}
use Prim.Native.Nat.{ℕ, zero, suc, ◌+◌, ◌*◌, ◌<◌, ◌≤◌}
use native.Mathlib.Omega.{arith}
use lib.ListN.{length, take, drop, take-append-drop, length-drop}
use lib.Seq.{take-add, take_all, length-take-le}
use Rattle.keccak.specs.Collision.{Collision}
use Rattle.keccak.proofs.Theorems.{digest_length}
use Rattle.merkle.specs.Tree.{hash}
use Rattle.merkle.specs.Proof.{segment_in, sister_in, span_in, side, paired, climbed, rebuilt, climb_hashed, check_hashed}
use Rattle.merkle.proofs.Collide.{Among, behind_same, ◌>>=◌, first_same, second_same}

-- ---- the climb, one level at a time

pub climbed_zero : (prefix : List ℕ) (index : ℕ) (proof : List ℕ) → climbed prefix index proof 0 ≡ segment_in proof
unfolding climbed
climbed_zero prefix index proof = refl

-- what is hashed at level l
abbrev pub step : List ℕ → ℕ → List ℕ → ℕ → List ℕ
step prefix index proof l = paired (side index l) (climbed prefix index proof l) (sister_in proof l)

pub climbed_suc : (prefix : List ℕ) (index : ℕ) (proof : List ℕ) (l : ℕ)
    → climbed prefix index proof (suc l) ≡ hash prefix (step prefix index proof l)
unfolding climbed
climbed_suc prefix index proof l = refl

step_hashed : (prefix : List ℕ) (index : ℕ) (proof : List ℕ) (l : ℕ)
    → Memᴰ (prefix ++ step prefix index proof l) (climb_hashed prefix index proof (suc l))
unfolding climb_hashed
step_hashed prefix index proof l = Memᴰ.head refl

below_hashed : (prefix : List ℕ) (index : ℕ) (proof : List ℕ) (l : ℕ)
    → Among (climb_hashed prefix index proof l) (climb_hashed prefix index proof (suc l))
unfolding climb_hashed
below_hashed prefix index proof l m h = Memᴰ.tail h

-- ---- lengths

pub climbed_length : (prefix : List ℕ) (index : ℕ) (proof : List ℕ) (l : ℕ) → 32 ≤ length proof → length (climbed prefix index proof l) ≡ 32
unfolding climbed
climbed_length prefix index proof zero h = length-take-le 32 proof h
climbed_length prefix index proof (suc l) h = digest_length (prefix ++ step prefix index proof l)

sister_length : (proof : List ℕ) (l : ℕ) → length proof ≡ 264 → l < 7 → length (sister_in proof l) ≡ 32
sister_length proof l e h = length-take-le 32 (drop (32 + 32 * l) proof) (omega (arith, length-drop (32 + 32 * l) proof))

-- ---- one message, one node and one sister

paired_same : (s : ℕ) (node node' sister sister' : List ℕ) → length node ≡ length node' → length sister ≡ length sister'
    → paired s node sister ≡ paired s node' sister' → (node ≡ node') × (sister ≡ sister')
paired_same zero node node' sister sister' hn hs e = (first_same node node' sister sister' hn e, second_same node node' sister sister' hn e)
paired_same (suc s) node node' sister sister' hn hs e = (second_same sister sister' node node' hs e, first_same sister sister' node node' hs e)

-- ---- one node, one segment and the same sisters below it

climb_same : (prefix : List ℕ) (index : ℕ) (a b : List ℕ) (hashed : List (List ℕ)) → length a ≡ 264 → length b ≡ 264
    → (l : ℕ) → l ≤ 7 → Among (climb_hashed prefix index a l) hashed → Among (climb_hashed prefix index b l) hashed
    → climbed prefix index a l ≡ climbed prefix index b l → (take (32 + 32 * l) a ≡ take (32 + 32 * l) b) ⊎ Collision hashed
climb_same prefix index a b hashed la lb zero h wa wb e = inl (sym (climbed_zero prefix index a) ∙ e ∙ climbed_zero prefix index b)
climb_same prefix index a b hashed la lb (suc l) h wa wb e =
    let node-a = climbed prefix index a l in
    let node-b = climbed prefix index b l in
    let one-node-length = climbed_length prefix index a l (omega arith) ∙ sym (climbed_length prefix index b l (omega arith)) in
    let one-sister-length = sister_length a l la h ∙ sym (sister_length b l lb h) in
    let more : 32 + 32 * suc l ≡ (32 + 32 * l) + 32 = omega arith in
    do
      let one_digest = sym (climbed_suc prefix index a l) ∙ e ∙ climbed_suc prefix index b l
      same ← behind_same prefix hashed (step prefix index a l) (step prefix index b l) (wa _ (step_hashed prefix index a l)) (wb _ (step_hashed prefix index b l)) one_digest
      let both = paired_same (side index l) node-a node-b (sister_in a l) (sister_in b l) one-node-length one-sister-length same
      below ← climb_same prefix index a b hashed la lb l (omega arith)
          (λ m k. wa m (below_hashed prefix index a l m k)) (λ m k. wb m (below_hashed prefix index b l m k)) both.0
      let joined = ap₂ ◌++◌ below both.1
      inl (ap (λ (n : ℕ). take n a) more ∙ take-add (32 + 32 * l) 32 a ∙ joined ∙ sym (ap (λ (n : ℕ). take n b) more ∙ take-add (32 + 32 * l) 32 b))

-- ---- one address, one proof

top_hashed : (prefix : List ℕ) (index : ℕ) (proof : List ℕ)
    → Memᴰ (prefix ++ (span_in proof ++ climbed prefix index proof 7)) (check_hashed prefix index proof)
unfolding check_hashed
top_hashed prefix index proof = Memᴰ.head refl

climb_hashed_lem : (prefix : List ℕ) (index : ℕ) (proof : List ℕ) → Among (climb_hashed prefix index proof 7) (check_hashed prefix index proof)
unfolding check_hashed
climb_hashed_lem prefix index proof m h = Memᴰ.tail h

pub rebuilt_is : (prefix : List ℕ) (index : ℕ) (proof : List ℕ)
    → rebuilt prefix index proof ≡ hash prefix (span_in proof ++ climbed prefix index proof 7)
unfolding rebuilt
rebuilt_is prefix index proof = refl

tail_length : (proof : List ℕ) → length proof ≡ 264 → length (drop 256 proof) ≡ 8
tail_length proof e = length-drop 256 proof ∙ omega arith

span_whole : (proof : List ℕ) → length proof ≡ 264 → span_in proof ≡ drop 256 proof
span_whole proof e = take_all 8 (drop 256 proof) (omega (arith, tail_length proof e))

pub proof_same : (prefix : List ℕ) (index : ℕ) (a b : List ℕ) (hashed : List (List ℕ)) → length a ≡ 264 → length b ≡ 264
    → Among (check_hashed prefix index a) hashed → Among (check_hashed prefix index b) hashed
    → rebuilt prefix index a ≡ rebuilt prefix index b → (a ≡ b) ⊎ Collision hashed
proof_same prefix index a b hashed la lb wa wb e =
    let top-a = climbed prefix index a 7 in
    let top-b = climbed prefix index b 7 in
    let length-a = ap length (span_whole a la) ∙ tail_length a la in
    let length-b = ap length (span_whole b lb) ∙ tail_length b lb in
    let one-length : length (span_in a) ≡ length (span_in b) = length-a ∙ sym length-b in
    do
      let one_digest = sym (rebuilt_is prefix index a) ∙ e ∙ rebuilt_is prefix index b
      same ← behind_same prefix hashed (span_in a ++ top-a) (span_in b ++ top-b) (wa _ (top_hashed prefix index a)) (wb _ (top_hashed prefix index b)) one_digest
      front ← climb_same prefix index a b hashed la lb 7 (omega arith)
          (λ m k. wa m (climb_hashed_lem prefix index a m k)) (λ m k. wb m (climb_hashed_lem prefix index b m k))
          (second_same (span_in a) (span_in b) top-a top-b one-length same)
      let back = sym (span_whole a la) ∙ first_same (span_in a) (span_in b) top-a top-b one-length same ∙ span_whole b lb
      inl (sym (take-append-drop 256 a) ∙ ap₂ ◌++◌ front back ∙ take-append-drop 256 b)
