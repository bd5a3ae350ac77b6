-- Node n of level l of some bytes: the two nodes below it, and the node beside it.
use mathlib.Core.Path.{◌≡◌, refl, sym, ap, ap₂, ◌∙◌}
use mathlib.Core.List.{List, ◌++◌}
use Prim.Native.Nat.{ℕ, zero, suc, ◌+◌, ◌*◌, ◌/◌, ◌%◌, ◌^◌, ◌≤◌}
use native.Mathlib.Nat.{pow-suc, div-div-eq-div-mul}
use native.Mathlib.Omega.{arith}
use lib.ListN.{length, take, drop, length-drop}
use lib.Seq.{take-take, drop-drop, length-take-le}
use Rattle.std.proofs.lemmas.List.{drop-take}
use Rattle.keccak.proofs.Theorems.{digest_length}
use Rattle.merkle.specs.Tree.{width, hash, root}
use Rattle.merkle.specs.Proof.{paired, node, beside}
use Rattle.merkle.proofs.Halves.{width_suc, root_suc, root_length}
use Rattle.merkle.proofs.Roots.{joined}

-- the bytes under node n of level l
abbrev pub part : ℕ → ℕ → List ℕ → List ℕ
part l n bytes = take (width l) (drop (n * width l) bytes)

pub left_part : (l n : ℕ) (bytes : List ℕ) → take (width l) (part (suc l) n bytes) ≡ part l (2 * n) bytes
left_part l n bytes =
    let at : n * width (suc l) ≡ 2 * n * width l = ap (λ (w : ℕ). n * w) (width_suc l) ∙ omega arith in
    take-take (width l) (width (suc l)) (drop (n * width (suc l)) bytes) (omega (arith, width_suc l))
    ∙ ap (λ (k : ℕ). take (width l) (drop k bytes)) at

pub right_part : (l n : ℕ) (bytes : List ℕ) → drop (width l) (part (suc l) n bytes) ≡ part l (2 * n + 1) bytes
right_part l n bytes =
    let at : n * width (suc l) + width l ≡ (2 * n + 1) * width l = ap (λ (w : ℕ). n * w + width l) (width_suc l) ∙ omega arith in
    ap (λ (w : ℕ). drop (width l) (take w (drop (n * width (suc l)) bytes))) (width_suc l)
    ∙ drop-take (width l) (width l) (drop (n * width (suc l)) bytes)
    ∙ ap (take (width l)) (drop-drop (width l) (n * width (suc l)) bytes ∙ ap (λ (k : ℕ). drop k bytes) at)

-- a node and the node beside it, in their order, are the message of the node above
pub pair_joined : (prefix : List ℕ) (l n : ℕ) (bytes : List ℕ)
    → paired (n % 2) (node prefix l n bytes) (node prefix l (beside n) bytes) ≡ joined prefix l (part (suc l) (n / 2) bytes)
pair_joined prefix l n bytes = by_side (n % 2) refl
  where
    nodes : ℕ → ℕ → List ℕ
    nodes a b = node prefix l a bytes ++ node prefix l b bytes

    halves : nodes (2 * (n / 2)) (2 * (n / 2) + 1) ≡ joined prefix l (part (suc l) (n / 2) bytes)
    halves = ap₂ (λ (a b : List ℕ). root prefix l a ++ root prefix l b) (sym (left_part l (n / 2) bytes)) (sym (right_part l (n / 2) bytes))

    by_side : (s : ℕ) → n % 2 ≡ s → paired s (node prefix l n bytes) (node prefix l (beside n) bytes) ≡ joined prefix l (part (suc l) (n / 2) bytes)
    by_side zero e =
        let here : n ≡ 2 * (n / 2) = omega arith in
        let there : beside n ≡ 2 * (n / 2) + 1 = omega arith in
        ap₂ nodes here there ∙ halves
    by_side (suc zero) e =
        let here : n ≡ 2 * (n / 2) + 1 = omega arith in
        let there : beside n ≡ 2 * (n / 2) = omega arith in
        ap₂ nodes there here ∙ halves
    by_side (suc (suc s)) e = absurd (omega arith)

pub pair_up : (prefix : List ℕ) (l n : ℕ) (bytes : List ℕ)
    → hash prefix (paired (n % 2) (node prefix l n bytes) (node prefix l (beside n) bytes)) ≡ node prefix (suc l) (n / 2) bytes
pair_up prefix l n bytes = ap (hash prefix) (pair_joined prefix l n bytes) ∙ sym (root_suc prefix l (part (suc l) (n / 2) bytes))

-- the index at the level above
pub half_index : (index l : ℕ) → index / 2 ^ l / 2 ≡ index / 2 ^ suc l
half_index index l = div-div-eq-div-mul index (2 ^ l) 2 ∙ ap (λ (d : ℕ). index / d) (sym (pow-suc 2 l))

-- a segment that lies inside has its 32 bytes; above the segments a node is a digest
pub segment_length : (prefix : List ℕ) (n : ℕ) (bytes : List ℕ) → n * 32 + 32 ≤ length bytes → length (node prefix 0 n bytes) ≡ 32
segment_length prefix n bytes h =
    root_length prefix 0 (part 0 n bytes) (length-take-le 32 (drop (n * 32) bytes) (omega (arith, length-drop (n * 32) bytes)))

pub node_length : (prefix : List ℕ) (l n : ℕ) (bytes : List ℕ) → length (node prefix (suc l) n bytes) ≡ 32
node_length prefix l n bytes = ap length (root_suc prefix l (part (suc l) n bytes)) ∙ digest_length (prefix ++ joined prefix l (part (suc l) n bytes))
