-- The sample written pair by pair.
use mathlib.Core.Path.{◌≡◌, refl, sym, ap, ◌∙◌}
use mathlib.Core.List.{List, [], ◌∷◌, ◌++◌, append_assoc, append-nil}
use Prim.Native.Nat.{ℕ, ◌+◌, ◌-◌, ◌*◌, ◌≤◌, ◌<◌}
use native.Mathlib.Omega.{arith}
use lib.ListN.{length, take, drop, length-append, length-drop}
use Rattle.std.proofs.lemmas.List.{take_rest}
use lib.Seq.{take_all, take_at, drop_at, drop-drop, length-take-le}
use Rattle.moving.specs.Moving.{over, placed}
use Rattle.octets.specs.Pieces.{pieces}
use Rattle.moving.proofs.Edits.{placed_fits, length_over, length_placed}
use Rattle.octets.proofs.Pieces.{pieces_none, pieces_last}
use Rattle.sample.specs.Sample.{address_first, written}

written_nil : written [] ≡ []
unfolding written
written_nil = refl

written_append : (l m : List (List ℕ)) → written (l ++ m) ≡ written l ++ written m
unfolding written
written_append [] m = refl
written_append (p ∷ l) m = ap (λ (t : List ℕ). address_first p ++ t) (written_append l m) ∙ sym (append_assoc (address_first p) (written l) (written m))

written_one : (p : List ℕ) → written (p ∷ []) ≡ address_first p
unfolding written
written_one p = append-nil (address_first p)

-- all up to the end of what is put at `at`
take_put : (s : List ℕ) (at : ℕ) (v : List ℕ) → at + length v ≤ length s → take (at + length v) (over s at v) ≡ take at s ++ v
unfolding over
take_put s at v h =
    let k : length (take at s) ≡ at = length-take-le at s (omega arith) in
    take_at (take at s ++ v) (drop (at + length v) s) (at + length v) (length-append (take at s) v ∙ ap (λ (n : ℕ). n + length v) k)

-- one more pair: its address from `i` pairs on, then its anchored address
written_more : (sample best pair : List ℕ) (i : ℕ) → length sample ≡ 1024 → length pair ≡ 64 → i < 16 → pair ≡ take 64 (drop (64 * i) best)
    → take (64 * i) sample ≡ written (pieces 64 i best)
    → take (64 * (i + 1)) (placed (placed sample (64 * i) (drop 32 pair)) (64 * i + 32) (take 32 pair)) ≡ written (pieces 64 (i + 1) best)
written_more sample best pair i ls lp h cut e =
    let at = 64 * i in
    let address = drop 32 pair in
    let anchored = take 32 pair in
    let la : length address ≡ 32 = omega (arith, length-drop 32 pair, lp) in
    let lc : length anchored ≡ 32 = length-take-le 32 pair (omega (arith, lp)) in
    let once = over sample at address in
    let lo : length once ≡ 1024 = length_over sample at address (omega arith) ∙ ls in
    let fits : placed sample at address ≡ once = placed_fits sample at address (omega arith) in
    let again : placed once (at + 32) anchored ≡ over once (at + 32) anchored = placed_fits once (at + 32) anchored (omega arith) in
    let end : 64 * (i + 1) ≡ at + 32 + length anchored = omega arith in
    let middle : at + 32 ≡ at + length address = omega arith in
    ap (λ (t : List ℕ). take (64 * (i + 1)) (placed t (at + 32) anchored)) fits
    ∙ ap (take (64 * (i + 1))) again
    ∙ ap (λ (n : ℕ). take n (over once (at + 32) anchored)) end
    ∙ take_put once (at + 32) anchored (omega arith)
    ∙ ap (λ (t : List ℕ). t ++ anchored) (ap (λ (n : ℕ). take n once) middle ∙ take_put sample at address (omega arith) ∙ ap (λ (t : List ℕ). t ++ address) e)
    ∙ append_assoc (written (pieces 64 i best)) address anchored
    ∙ ap (λ (t : List ℕ). written (pieces 64 i best) ++ t) (sym (written_one pair))
    ∙ sym (ap written (pieces_last 64 i best ∙ ap (λ (p : List ℕ). pieces 64 i best ++ (p ∷ [])) (sym cut)) ∙ written_append (pieces 64 i best) (pair ∷ []))

-- the pairs from place i on are still to be written
pub record Laid (best sample left : List ℕ) (width i : ℕ) : Type 0 where
  pub wide : width ≡ 64
  pub ahead : left ≡ drop (64 * i) best
  pub reached : i ≤ 16
  pub long : length sample ≡ 1024
  pub so_far : take (64 * i) sample ≡ written (pieces 64 i best)

module _ (best : List ℕ) (room : length best ≡ 1024) where
  pub laid_starts : (sample left : List ℕ) (width i : ℕ) → length sample ≡ 1024 → left ≡ best → width ≡ 64 → i ≡ 0 → Laid best sample left width i
  laid_starts sample left width i ls e f at = record {
    wide = f;
    ahead = rw at e;
    reached = omega arith;
    long = ls;
    so_far = rw at (sym (ap written (pieces_none 64 best) ∙ written_nil));
  }

  module _ (sample left : List ℕ) (width i : ℕ) (w : Laid best sample left width i) where
    pub laid_out : length left < width → sample ≡ written (pieces 64 16 best)
    laid_out short =
        let end : i ≡ 16 = omega (arith, room, w.wide, w.reached, ap length w.ahead ∙ length-drop (64 * i) best) in
        sym (take_all (64 * i) sample (omega (arith, w.long))) ∙ w.so_far ∙ ap (λ (n : ℕ). written (pieces 64 n best)) end

    module _ (pair later : List ℕ) (cut : left ≡ pair ++ later) (size : length pair ≡ width) where
      inside : i < 16
      inside = omega (arith, room, w.wide, size, ap length w.ahead ∙ length-drop (64 * i) best, ap length cut ∙ length-append pair later)

      pub laid_more : (place wide further : ℕ) (once twice : List ℕ) → place ≡ i → wide ≡ width → further ≡ i + 1
          → once ≡ placed sample (64 * place) (take (length pair - 32) (drop 32 pair)) → twice ≡ placed once (64 * place + 32) (take 32 pair)
          → Laid best twice later wide further
      laid_more place wide further once twice here same at e f =
          let past : 64 * i + 64 ≡ 64 * further = omega arith in
          let first : once ≡ placed sample (64 * i) (drop 32 pair) = e ∙ rw (here, take_rest pair 32) in
          let second : twice ≡ placed once (64 * i + 32) (take 32 pair) = f ∙ rw here in
          let out : twice ≡ placed (placed sample (64 * i) (drop 32 pair)) (64 * i + 32) (take 32 pair) = second ∙ rw first in
          let next : pair ≡ take 64 (drop (64 * i) best) = sym (take_at pair later 64 (size ∙ w.wide)) ∙ ap (take 64) (sym cut ∙ w.ahead) in
          record {
            wide = same ∙ w.wide;
            ahead = sym (drop_at pair later 64 (size ∙ w.wide)) ∙ ap (drop 64) (sym cut ∙ w.ahead) ∙ drop-drop 64 (64 * i) best ∙ ap (λ (n : ℕ). drop n best) past;
            reached = omega (arith, inside);
            long = ap length second ∙ length_placed once (64 * i + 32) (take 32 pair) ∙ ap length first ∙ length_placed sample (64 * i) (drop 32 pair) ∙ w.long;
            so_far = rw at (ap (take (64 * (i + 1))) out ∙ written_more sample best pair i w.long (size ∙ w.wide) inside next w.so_far);
          }
