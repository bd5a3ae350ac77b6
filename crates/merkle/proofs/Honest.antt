-- The honest proof: its length, what a check finds in it, and the nodes that it leads to.
use mathlib.Core.Path.{◌≡◌, refl, sym, ap, ap₂, ◌∙◌}
use mathlib.Core.List.{List, ◌++◌, append_assoc}
use Prim.Native.Nat.{ℕ, zero, suc, ◌+◌, ◌*◌, ◌/◌, ◌^◌, ◌<◌, ◌≤◌}
use native.Mathlib.Nat.{add-zero, add-suc, suc-add, div-one, le_of_suc-le-suc, zero-add}
use native.Mathlib.Omega.{arith}
use lib.ListN.{length, take, drop, length-append}
use lib.Seq.{take_at, drop_at, take_all, drop-append-add}
use Rattle.merkle.specs.Tree.{pad_to, hash, root, address_of}
use Rattle.merkle.specs.Proof.{segment_in, sister_in, span_in, side, paired, climbed, rebuilt, node, beside, sisters, proof_of}
use Rattle.merkle.proofs.Halves.{pad_length}
use Rattle.merkle.proofs.Roots.{address_is}
use Rattle.merkle.proofs.Climbs.{climbed_zero, climbed_suc, rebuilt_is}
use Rattle.merkle.proofs.Nodes.{part, pair_up, half_index, segment_length, node_length}

drop_past : (a b : List ℕ) (n k : ℕ) → length a ≡ n → drop (n + k) (a ++ b) ≡ drop k b
drop_past a b n k e = ap (λ (m : ℕ). drop (m + k) (a ++ b)) (sym e) ∙ drop-append-add a b k

-- the sister at level l
abbrev pub sister : List ℕ → ℕ → List ℕ → ℕ → List ℕ
sister prefix index bytes l = node prefix l (beside (index / 2 ^ l)) bytes

module _ (prefix : List ℕ) (index : ℕ) (bytes : List ℕ) (whole : length bytes ≡ 4096) (inside : index ≤ 127) where
  sister_length : (l : ℕ) → length (sister prefix index bytes l) ≡ 32
  sister_length zero = segment_length prefix (beside (index / 1)) bytes (omega arith)
  sister_length (suc l) = node_length prefix l (beside (index / 2 ^ suc l)) bytes

  sisters_length : (l n : ℕ) → length (sisters prefix index bytes l n) ≡ 32 * n
  unfolding sisters
  sisters_length l zero = refl
  sisters_length l (suc n) =
      length-append (sister prefix index bytes l) (sisters prefix index bytes (suc l) n)
      ∙ ap₂ ◌+◌ (sister_length l) (sisters_length (suc l) n) ∙ omega arith

  -- sister k of those from level l on, whatever comes behind them
  sisters_at : (rest : List ℕ) (n l k : ℕ) → k < n
      → take 32 (drop (32 * k) (sisters prefix index bytes l n ++ rest)) ≡ sister prefix index bytes (l + k)
  unfolding sisters
  sisters_at rest zero l k h = absurd (omega arith)
  sisters_at rest (suc n) l zero h =
      ap (take 32) (append_assoc (sister prefix index bytes l) (sisters prefix index bytes (suc l) n) rest)
      ∙ take_at (sister prefix index bytes l) (sisters prefix index bytes (suc l) n ++ rest) 32 (sister_length l)
      ∙ ap (sister prefix index bytes) (sym (add-zero l))
  sisters_at rest (suc n) l (suc k) h =
      let here = sister prefix index bytes l in
      let later = sisters prefix index bytes (suc l) n in
      let at : 32 * suc k ≡ 32 + 32 * k = omega arith in
      ap (take 32) (ap₂ drop at (append_assoc here later rest) ∙ drop_past here (later ++ rest) 32 (32 * k) (sister_length l))
      ∙ sisters_at rest n (suc l) k (le_of_suc-le-suc h)
      ∙ ap (sister prefix index bytes) (suc-add l k ∙ sym (add-suc l k))

-- the 4,096 bytes, the segment asked for, and the seven sisters
abbrev full : List ℕ → List ℕ
full chunk = pad_to 4096 chunk

abbrev segment : List ℕ → List ℕ → ℕ → List ℕ
segment prefix chunk index = node prefix 0 index (full chunk)

abbrev seven : List ℕ → List ℕ → ℕ → List ℕ
seven prefix chunk index = sisters prefix index (full chunk) 0 7

module _ (prefix span chunk : List ℕ) (index : ℕ) (inside : index ≤ 127) where
  segment_here : length (segment prefix chunk index) ≡ 32
  segment_here = segment_length prefix index (full chunk) (omega (arith, pad_length 4096 chunk))

  seven_length : length (seven prefix chunk index) ≡ 224
  seven_length = sisters_length prefix index (full chunk) (pad_length 4096 chunk) inside 0 7

  front_length : length (segment prefix chunk index ++ seven prefix chunk index) ≡ 256
  front_length = length-append (segment prefix chunk index) (seven prefix chunk index) ∙ ap₂ ◌+◌ segment_here seven_length

  -- ---- the length, and what a check finds

  pub honest_is : proof_of prefix span chunk index ≡ (segment prefix chunk index ++ seven prefix chunk index) ++ span
  unfolding proof_of
  honest_is = sym (append_assoc (segment prefix chunk index) (seven prefix chunk index) span)

  pub honest_length : length span ≡ 8 → length (proof_of prefix span chunk index) ≡ 264
  honest_length e =
      ap length honest_is ∙ length-append (segment prefix chunk index ++ seven prefix chunk index) span ∙ ap₂ ◌+◌ front_length e

  honest_segment : segment_in (proof_of prefix span chunk index) ≡ segment prefix chunk index
  unfolding proof_of
  honest_segment = take_at (segment prefix chunk index) (seven prefix chunk index ++ span) 32 segment_here

  pub honest_sister : (l : ℕ) → l < 7 → sister_in (proof_of prefix span chunk index) l ≡ sister prefix index (full chunk) l
  unfolding proof_of
  honest_sister l h =
      ap (take 32) (drop_past (segment prefix chunk index) (seven prefix chunk index ++ span) 32 (32 * l) segment_here)
      ∙ sisters_at prefix index (full chunk) (pad_length 4096 chunk) inside span 7 0 l h
      ∙ ap (sister prefix index (full chunk)) (zero-add l)

  pub honest_span : length span ≡ 8 → span_in (proof_of prefix span chunk index) ≡ span
  honest_span e =
      ap (λ (p : List ℕ). take 8 (drop 256 p)) honest_is
      ∙ ap (take 8) (drop_at (segment prefix chunk index ++ seven prefix chunk index) span 256 front_length)
      ∙ take_all 8 span (omega arith)

  -- ---- where it leads

  pub honest_climbed : (l : ℕ) → l ≤ 7 → climbed prefix index (proof_of prefix span chunk index) l ≡ node prefix l (index / 2 ^ l) (full chunk)
  honest_climbed zero h =
      climbed_zero prefix index (proof_of prefix span chunk index) ∙ honest_segment
      ∙ ap (λ (n : ℕ). node prefix 0 n (full chunk)) (sym (div-one index))
  honest_climbed (suc l) h =
      climbed_suc prefix index (proof_of prefix span chunk index) l
      ∙ ap₂ (λ (a b : List ℕ). hash prefix (paired (side index l) a b)) (honest_climbed l (omega arith)) (honest_sister l h)
      ∙ pair_up prefix l (index / 2 ^ l) (full chunk)
      ∙ ap (λ (n : ℕ). node prefix (suc l) n (full chunk)) (half_index index l)

  -- node 0 of level 7 is the root
  pub top_part : part 7 (index / 2 ^ 7) (full chunk) ≡ full chunk
  top_part =
      let first : index / 2 ^ 7 ≡ 0 = omega arith in
      ap (λ (n : ℕ). part 7 n (full chunk)) first ∙ take_all 4096 (full chunk) (omega (arith, pad_length 4096 chunk))

  pub honest_top : climbed prefix index (proof_of prefix span chunk index) 7 ≡ root prefix 7 (full chunk)
  honest_top = honest_climbed 7 (omega arith) ∙ ap (root prefix 7) top_part

  pub honest_rebuilt : length span ≡ 8 → rebuilt prefix index (proof_of prefix span chunk index) ≡ address_of prefix span chunk
  honest_rebuilt e =
      rebuilt_is prefix index (proof_of prefix span chunk index)
      ∙ ap₂ (λ (s r : List ℕ). hash prefix (s ++ r)) (honest_span e) honest_top
      ∙ sym (address_is prefix span chunk)
