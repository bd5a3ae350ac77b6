-- Laws of pieces, over the width.
use mathlib.Core.Path.{◌≡◌, refl, sym, ap, ap₂, ◌∙◌}
use mathlib.Core.List.{List, [], ◌∷◌, ◌++◌, append-nil}
use Prim.Native.Nat.{ℕ, zero, suc, ◌+◌, ◌-◌, ◌*◌, ◌≤◌, ◌<◌}
use native.Mathlib.Nat.{add-zero, zero-add, suc-add, mul-zero}
use native.Mathlib.Omega.{arith}
use lib.ListN.{length, get_or, take, drop, take-append-drop, length-drop}
use lib.Seq.{drop-length, take_all, take-append-le, drop-append-le, drop-drop, length-take-le, take-add}
use Rattle.octets.specs.Pieces.{pieces}

module _ (w : ℕ) where
  pub pieces_none : (s : List ℕ) → pieces w 0 s ≡ []
  unfolding pieces
  pieces_none s = refl

  pub pieces_more : (n : ℕ) (s : List ℕ) → pieces w (suc n) s ≡ take w s ∷ pieces w n (drop w s)
  unfolding pieces
  pieces_more n s = refl

  pub length_pieces : (n : ℕ) (s : List ℕ) → length (pieces w n s) ≡ n
  unfolding pieces
  length_pieces zero s = refl
  length_pieces (suc n) s = ap suc (length_pieces n (drop w s))

  -- piece i, from 0
  pub piece_at : (n : ℕ) (s : List ℕ) (i : ℕ) → i < n → get_or (pieces w n s) i [] ≡ take w (drop (w * i) s)
  unfolding pieces
  piece_at zero s i h = absurd (omega arith)
  piece_at (suc n) s zero h = rw (mul-zero w)
  piece_at (suc n) s (suc i) h =
      let e : w + w * i ≡ w * suc i = omega arith in
      piece_at n (drop w s) i (omega arith) ∙ rw (drop-drop (w * i) w s, e)

  pub pieces_take : (k n : ℕ) (s : List ℕ) → k ≤ n → take k (pieces w n s) ≡ pieces w k s
  unfolding pieces
  pieces_take zero n s h = refl
  pieces_take (suc k) zero s h = absurd (omega arith)
  pieces_take (suc k) (suc n) s h = ap (λ (l : List (List ℕ)). take w s ∷ l) (pieces_take k n (drop w s) (omega arith))

  pub pieces_drop : (k n : ℕ) (s : List ℕ) → drop k (pieces w (k + n) s) ≡ pieces w n (drop (w * k) s)
  pieces_drop zero n s = rw (zero-add n, mul-zero w)
  pieces_drop (suc k) n s =
      let e : w + w * k ≡ w * suc k = omega arith in
      ap (λ (m : ℕ). drop (suc k) (pieces w m s)) (suc-add k n)
      ∙ ap (drop (suc k)) (pieces_more (k + n) s)
      ∙ pieces_drop k n (drop w s)
      ∙ ap (pieces w n) (drop-drop (w * k) w s ∙ ap (λ (m : ℕ). drop m s) e)

  -- piece i, and those behind it
  pub pieces_from : (i n : ℕ) (s : List ℕ) → i < n → drop i (pieces w n s) ≡ take w (drop (w * i) s) ∷ drop (i + 1) (pieces w n s)
  pieces_from i n s h =
      let e : n ≡ i + suc (n - (i + 1)) = omega arith in
      let f : n ≡ i + 1 + (n - (i + 1)) = omega arith in
      let g : w * i + w ≡ w * (i + 1) = omega arith in
      ap (λ (m : ℕ). drop i (pieces w m s)) e
      ∙ pieces_drop i (suc (n - (i + 1))) s
      ∙ pieces_more (n - (i + 1)) (drop (w * i) s)
      ∙ ap (λ (l : List (List ℕ)). take w (drop (w * i) s) ∷ l)
      (ap (pieces w (n - (i + 1))) (drop-drop w (w * i) s ∙ ap (λ (m : ℕ). drop m s) g)
      ∙ sym (ap (λ (m : ℕ). drop (i + 1) (pieces w m s)) f ∙ pieces_drop (i + 1) (n - (i + 1)) s))

  pub pieces_append : (a b : ℕ) (x y : List ℕ) → length x ≡ w * a → pieces w (a + b) (x ++ y) ≡ pieces w a x ++ pieces w b y
  pieces_append zero b [] y h = ap (λ (m : ℕ). pieces w m y) (zero-add b) ∙ ap (λ (l : List (List ℕ)). l ++ pieces w b y) (sym (pieces_none []))
  pieces_append zero b (c ∷ x) y h = absurd (omega arith)
  pieces_append (suc a) b x y h =
      let k : w ≤ length x = omega arith in
      let j : length (drop w x) ≡ w * a = simp length-drop (omega arith) in
      ap (λ (m : ℕ). pieces w m (x ++ y)) (suc-add a b)
      ∙ pieces_more (a + b) (x ++ y)
      ∙ ap₂ (λ (p : List ℕ) (l : List (List ℕ)). p ∷ l) (take-append-le w x y k) (ap (pieces w (a + b)) (drop-append-le w x y k) ∙ pieces_append a b (drop w x) y j)
      ∙ ap (λ (l : List (List ℕ)). l ++ pieces w b y) (sym (pieces_more a x))

  -- bytes behind the pieces do not matter
  pub pieces_ahead : (a : ℕ) (x y : List ℕ) → length x ≡ w * a → pieces w a (x ++ y) ≡ pieces w a x
  pieces_ahead a x y h =
      ap (λ (m : ℕ). pieces w m (x ++ y)) (sym (add-zero a)) ∙ pieces_append a 0 x y h ∙ ap (λ (l : List (List ℕ)). pieces w a x ++ l) (pieces_none y) ∙ append-nil (pieces w a x)

  pub pieces_front : (n : ℕ) (s : List ℕ) → w * n ≤ length s → pieces w n (take (w * n) s) ≡ pieces w n s
  pieces_front n s h =
      sym (pieces_ahead n (take (w * n) s) (drop (w * n) s) (length-take-le (w * n) s h)) ∙ ap (pieces w n) (take-append-drop (w * n) s)

  pub pieces_one : (p : List ℕ) → length p ≡ w → pieces w 1 p ≡ p ∷ []
  pieces_one p h = pieces_more 0 p ∙ ap₂ (λ (q : List ℕ) (l : List (List ℕ)). q ∷ l) (take_all w p (omega arith)) (pieces_none (drop w p))

  pub pieces_last : (n : ℕ) (s : List ℕ) → pieces w (n + 1) s ≡ pieces w n s ++ (take w (drop (w * n) s) ∷ [])
  pieces_last n s =
      let l = pieces w (n + 1) s in
      let e : take (n + 1) l ≡ l = take_all (n + 1) l (omega (arith, length_pieces (n + 1) s)) in
      let f : drop (n + 1) l ≡ [] = ap (λ (m : ℕ). drop m l) (sym (length_pieces (n + 1) s)) ∙ drop-length l in
      sym e ∙ take-add n 1 l ∙ ap₂ ◌++◌ (pieces_take n (n + 1) s (omega arith)) (ap (take 1) (pieces_from n (n + 1) s (omega arith)))
