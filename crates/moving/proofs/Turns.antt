-- What one turn of a loop that moves bytes does.
use mathlib.Core.Path.{◌≡◌, sym, ap, ◌∙◌}
use mathlib.Core.List.{List, ◌++◌, append_assoc, append-nil}
use Prim.Native.Nat.{ℕ, suc, ◌+◌, ◌-◌, ◌≤◌, ◌<◌}
use native.Mathlib.Nat.{add-sub_of_le, sub_self}
use native.Mathlib.Numerals.{add-one}
use native.Mathlib.Omega.{arith}
use lib.ListN.{length, get_or, take, drop, set, take-append-drop, length-take, length-drop, get_or-append}
use lib.Seq.{paste, paste-suc, drop-paste, take-length, get_or-drop, get_or-take, take-suc, set_at, drop-cons, length-take-le}
use Rattle.octets.proofs.Parts.{part_length}
use Rattle.moving.specs.Moving.{over}

-- storing upward: t is the buffer at the loop's head, with the first i bytes of v in it

more : (s : List ℕ) (at : ℕ) (v : List ℕ) (i x : ℕ) → at + length v ≤ length s → i < length v → x ≡ get_or v i 0
    → set (paste s at v i) (at + i) x ≡ paste s at v (i + 1)
more s at v i x h k e = rw (e, add-one) (paste-suc s at v i 0 (omega arith) k)

pub put_all : (s : List ℕ) (at : ℕ) (v : List ℕ) (i : ℕ) → i ≡ length v → paste s at v i ≡ over s at v
unfolding over
put_all s at v i e = rw (e, take-length)

-- behind what is stored all is as it was
past : (s : List ℕ) (at : ℕ) (v : List ℕ) (i k : ℕ) → at + i ≤ length s → i ≤ length v → at + i ≤ k → get_or (paste s at v i) k 0 ≡ get_or s k 0
past s at v i k h hv hk =
    let e : (at + i) + (k - (at + i)) ≡ k = add-sub_of_le hk in
    ap (λ (n : ℕ). get_or (paste s at v i) n 0) (sym e)
    ∙ sym (get_or-drop (at + i) (paste s at v i) (k - (at + i)) 0)
    ∙ ap (λ (l : List ℕ). get_or l (k - (at + i)) 0) (drop-paste s at v i (omega arith) hv)
    ∙ get_or-drop (at + i) s (k - (at + i)) 0
    ∙ ap (λ (n : ℕ). get_or s n 0) e

pub lower_more : (t s : List ℕ) (from to n i : ℕ) → t ≡ paste s to (take n (drop from s)) i → to ≤ from → from + n ≤ length s → i < n
    → set t (to + i) (get_or t (from + i) 0) ≡ paste s to (take n (drop from s)) (i + 1)
lower_more t s from to n i e h k m =
    let v = take n (drop from s) in
    let r : length v ≡ n = part_length s from n k in
    let x : get_or v i 0 ≡ get_or s (from + i) 0 = rw (get_or-take n (drop from s) i 0 m, get_or-drop from s i 0) in
    rw e (more s to v i _ (omega arith) (omega arith) (past s to v i (from + i) (omega arith) (omega arith) (omega arith) ∙ sym x))

-- storing downward: what stood from i up to `end`, n further up

abbrev pub up : List ℕ → ℕ → ℕ → ℕ → List ℕ
up s end n i = take (i + n) s ++ take (end - i) (drop i s) ++ drop (end + n) s

pub up_none : (s : List ℕ) (end n : ℕ) → s ≡ up s end n end
up_none s end n = rw (sub_self end, append-nil (take (end + n) s)) (sym (take-append-drop (end + n) s))

up_read : (s : List ℕ) (end n i j : ℕ) → j < i → i + n ≤ length s → get_or (up s end n i) j 0 ≡ get_or s j 0
up_read s end n i j h k =
    let e : length (take (i + n) s) ≡ i + n = length-take-le (i + n) s k in
    rw (append_assoc, get_or-append (take (i + n) s) (take (end - i) (drop i s) ++ drop (end + n) s) 0 j (omega arith), get_or-take (i + n) s j 0 (omega arith))

up_step : (s : List ℕ) (end n j : ℕ) → j < end → end + n ≤ length s → set (up s end n (j + 1)) (j + n) (get_or (up s end n (j + 1)) j 0) ≡ up s end n j
up_step s end n j h k =
    let e1 : j + 1 + n ≡ suc (j + n) = omega arith in
    let e2 : end - j ≡ suc (end - (j + 1)) = omega arith in
    rw (up_read s end n (j + 1) j (omega arith) (omega arith), e1, e2, add-one j, take-suc s (j + n) 0 (omega arith), drop-cons s j 0 (omega arith))
    (simp append_assoc (set_at (take (j + n) s) _ _ (get_or s j 0) (j + n) (length-take-le (j + n) s (omega arith))))

pub raise_more : (t s : List ℕ) (end n i : ℕ) → t ≡ up s end n i → 0 < i → i ≤ end → end + n ≤ length s
    → set t (i - 1 + n) (get_or t (i - 1) 0) ≡ up s end n (i - 1)
raise_more t s end n i q p h k =
    let e : i ≡ i - 1 + 1 = omega arith in
    rw q (ap (λ (m : ℕ). set (up s end n m) (i - 1 + n) (get_or (up s end n m) (i - 1) 0)) e ∙ up_step s end n (i - 1) (omega arith) k)

pub raise_all : (s : List ℕ) (end n i : ℕ) → i ≤ end → end + n ≤ length s → up s end n i ≡ over s (i + n) (take (end - i) (drop i s))
unfolding over
raise_all s end n i h k =
    let e : end + n ≡ i + n + length (take (end - i) (drop i s)) = simp (length-take, length-drop) (omega arith) in
    ap (λ (m : ℕ). take (i + n) s ++ take (end - i) (drop i s) ++ drop m s) e
