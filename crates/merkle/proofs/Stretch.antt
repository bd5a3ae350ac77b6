-- A stretch of the data, which may be cut short by the data's end, and the same stretch with zeros behind the data.
use mathlib.Core.Path.{◌≡◌, refl, sym, ap, ◌∙◌}
use mathlib.Core.List.{List, [], ◌∷◌, ◌++◌}
use Prim.Native.Nat.{ℕ, zero, suc, ◌+◌, ◌-◌, ◌≤◌, min}
use native.Mathlib.Nat.{le_of_eq, le_of_suc-le-suc}
use native.Mathlib.Numerals.{sub-one}
use native.Mathlib.Omega.{arith}
use lib.ListN.{length, take, drop, replicate, length-drop}
use lib.Seq.{take_all}
use Rattle.merkle.specs.Tree.{pad_to, width, hash, root}
use Rattle.merkle.proofs.Halves.{pad_take, pad_drop, pad_first, cut_take, cut_drop, width_suc, root_cut}

-- w bytes from `at` on, where both ends stop at the end of the data
pub stretch_is : (at w : ℕ) (s : List ℕ) (start end : ℕ) → start ≡ min (length s) at → end ≡ min (length s) (start + w)
    → take (end - start) (drop start s) ≡ take w (drop at s)
stretch_is at w s start end es ee =
    let d : drop start s ≡ drop at s = ap (λ (n : ℕ). drop n s) es ∙ cut_drop at s in
    let n : end - start ≡ min (length (drop at s)) w = omega (arith, length-drop at s) in
    ap (take (end - start)) d ∙ ap (λ (k : ℕ). take k (drop at s)) n ∙ cut_take w (drop at s)

-- a stretch of n bytes that were made up with zeros is that stretch of what was there, made up with zeros
pub pad_stretch : (n at w : ℕ) (s : List ℕ) → at + w ≤ n → take w (drop at (pad_to n s)) ≡ pad_to w (take w (drop at s))
pad_stretch n at w s h =
    let e : n ≡ at + (w + (n - at - w)) = omega arith in
    ap (λ (k : ℕ). take w (drop at (pad_to k s))) e
    ∙ ap (take w) (pad_drop at (w + (n - at - w)) s)
    ∙ pad_take w (n - at - w) (drop at s)

-- the same from all that is left of the data there, the end coming first or not
pub pad_from : (n at w : ℕ) (s : List ℕ) (start : ℕ) → at + w ≤ n → start ≡ min (length s) at
    → pad_to w (take (length s - start) (drop start s)) ≡ take w (drop at (pad_to n s))
pad_from n at w s start h e =
    ap (pad_to w) (take_all (length s - start) (drop start s) (le_of_eq (length-drop start s)) ∙ ap (λ (k : ℕ). drop k s) e ∙ cut_drop at s)
    ∙ sym (pad_stretch n at w s h ∙ pad_first w (drop at s))

-- a part that is cut to n bytes, or at its end where that comes first
pub pad_cut : (n : ℕ) (s : List ℕ) (end : ℕ) → end ≡ min (length s) n → pad_to n (take end s) ≡ pad_to n s
pad_cut n s end e =
    ap (λ (k : ℕ). pad_to n (take k s)) e ∙ ap (pad_to n) (cut_take n s) ∙ pad_first n s

-- a part laid over as many zeros as it should have bytes
pub pad_laid : (n : ℕ) (s : List ℕ) → length s ≤ n → s ++ drop (length s) (replicate n 0) ≡ pad_to n s
unfolding pad_to
pad_laid zero [] h = refl
pad_laid zero (b ∷ s) h = absurd (omega arith)
pad_laid (suc n) [] h = ap (λ (t : List ℕ). 0 ∷ t) (pad_laid n [] (omega arith))
pad_laid (suc n) (b ∷ s) h = ap (λ (t : List ℕ). b ∷ t) (pad_laid n s (le_of_suc-le-suc h))

-- ---- one level of the tree, as the code takes it

pub root_segment : (prefix : List ℕ) (level : ℕ) (s : List ℕ) → level ≡ 0 → pad_to 32 s ≡ root prefix level (pad_to (width level) s)
unfolding root
root_segment prefix level s e = ap (λ (l : ℕ). root prefix l (pad_to (width l) s)) (sym e)

pub width_below : (level : ℕ) → (level ≡ 0 → ⊥) → width level ≡ width (level - 1) + width (level - 1)
width_below zero h = absurd (h refl)
width_below (suc l) h = rw sub-one (width_suc l)

pub root_level : (prefix : List ℕ) (level : ℕ) (s : List ℕ) (cut : ℕ) → (level ≡ 0 → ⊥) → cut ≡ min (length s) (width (level - 1))
    → hash prefix (root prefix (level - 1) (pad_to (width (level - 1)) (take cut s)) ++ root prefix (level - 1) (pad_to (width (level - 1)) (drop cut s)))
    ≡ root prefix level (pad_to (width level) s)
root_level prefix zero s cut h e = absurd (h refl)
root_level prefix (suc l) s cut h e = rw sub-one (sym (root_cut prefix l s cut (e ∙ rw sub-one)))
