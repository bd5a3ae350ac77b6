-- A piece put in among pieces of one width.
use mathlib.Core.Path.{◌≡◌, sym, ap, ap₂, ◌∙◌}
use mathlib.Core.List.{List, ◌∷◌, ◌++◌, append_assoc}
use Prim.Native.Nat.{ℕ, ◌+◌, ◌-◌, ◌*◌, ◌≤◌}
use native.Mathlib.Omega.{arith}
use lib.ListN.{length, take, drop, length-drop}
use lib.Seq.{length-take-le}
use Rattle.octets.specs.Pieces.{pieces}
use Rattle.octets.proofs.Pieces.{pieces_take, pieces_drop, pieces_append, pieces_ahead, pieces_front, pieces_one}
use Rattle.moving.specs.Moving.{inserted}
use Rattle.moving.proofs.Edits.{inserted_fits}

module _ (w : ℕ) where
  -- a piece put in at place j of the first e
  pub pieces_inserted : (s p : List ℕ) (j e : ℕ) → j ≤ e → w * e + w ≤ length s → length p ≡ w
      → pieces w (e + 1) (inserted s (w * j) (w * e) p) ≡ take j (pieces w e s) ++ (p ∷ drop j (pieces w e s))
  pieces_inserted s p j e h k lp =
      let d = e - j in
      let total : e ≡ j + d = omega arith in
      let wide : w * e ≡ w * j + w * d = ap (◌*◌ w) total ∙ omega arith in
      let front = take (w * j) s in
      let moved = take (w * e - w * j) (drop (w * j) s) in
      let rest = drop (w * e + length p) s in
      let width : w * e - w * j ≡ w * d = omega arith in
      let long : w * d ≤ length (drop (w * j) s) = simp length-drop (omega arith) in
      let lm : length moved ≡ w * d = ap (λ (m : ℕ). length (take m (drop (w * j) s))) width ∙ length-take-le (w * d) (drop (w * j) s) long in
      let lf : length front ≡ w * j = length-take-le (w * j) s (omega arith) in
      let whole : inserted s (w * j) (w * e) p ≡ front ++ (p ++ (moved ++ rest)) =
      inserted_fits s (w * j) (w * e) p (omega arith) (omega arith) ∙ simp append_assoc in
      let number : e + 1 ≡ j + (1 + d) = omega arith in
      let first : pieces w j front ≡ take j (pieces w e s) = pieces_front w j s (omega arith) ∙ sym (pieces_take w j e s h) in
      let last : pieces w d (moved ++ rest) ≡ drop j (pieces w e s) =
      pieces_ahead w d moved rest lm
      ∙ ap (λ (m : ℕ). pieces w d (take m (drop (w * j) s))) width
      ∙ pieces_front w d (drop (w * j) s) long
      ∙ sym (ap (λ (m : ℕ). drop j (pieces w m s)) total ∙ pieces_drop w j d s) in
      ap (pieces w (e + 1)) whole
      ∙ ap (λ (m : ℕ). pieces w m (front ++ (p ++ (moved ++ rest)))) number
      ∙ pieces_append w j (1 + d) front (p ++ (moved ++ rest)) lf
      ∙ ap₂ ◌++◌ first (pieces_append w 1 d p (moved ++ rest) (omega arith) ∙ ap₂ ◌++◌ (pieces_one w p lp) last)
