-- Laws of edits.
use mathlib.Core.Path.{◌≡◌, refl, sym, ap, ◌∙◌}
use mathlib.Core.Bool.{Bool, true, false, cond, ◌&&◌}
use mathlib.Core.List.{List, [], ◌∷◌, ◌++◌, append_assoc, append-nil}
use Prim.Native.Nat.{ℕ, ◌+◌, ◌-◌, ◌≤◌, ◌<◌}
use native.Mathlib.Nat.{add-zero}
use native.Mathlib.Omega.{arith}
use lib.Dec.{leb}
use lib.ListN.{length, take, drop, take-append-drop, length-append, length-take, length-drop}
use lib.Seq.{paste, take-length, length-take-le, take-append-le, take-take, drop-drop, drop_at, take-append_seam, drop-append-add, take-add}
use borrow.Author.Tests.{le-leb, lt-leb, leb-true}
use borrow.Rule.Slice.PartMut.{put_mid, take_put}
use Rattle.std.proofs.lemmas.Slice.{put_mid-paste, drop-put_mid}
use Rattle.octets.proofs.Parts.{part_length}
use Rattle.moving.specs.Moving.{over, placed, lowered, raised, inserted}

-- what is written, and what is around it

module _ (s : List ℕ) (at : ℕ) (v : List ℕ) where
  pub length_over : at + length v ≤ length s → length (over s at v) ≡ length s
  unfolding over
  length_over h = simp (length-append, length-take, length-drop) (omega arith)

  pub drop_over : (n : ℕ) → at + length v ≤ n → at ≤ length s → drop n (over s at v) ≡ drop n s
  unfolding over
  drop_over n h k =
      let head = take at s ++ v in
      let t : length head ≡ at + length v = simp (length-append, length-take-le at s k) in
      let e : length head + (n - (at + length v)) ≡ n = omega arith in
      let f : at + length v + (n - (at + length v)) ≡ n = omega arith in
      rw (← e, drop-append-add head (drop (at + length v) s) (n - (at + length v)), drop-drop, f, e)

-- a part put where it stands
pub over_self : (s : List ℕ) (at n : ℕ) → at + n ≤ length s → over s at (take n (drop at s)) ≡ s
unfolding over
over_self s at n h = rw (part_length s at n h, ← take-add at n s) (take-append-drop (at + n) s)

pub over_nil : (s : List ℕ) (at : ℕ) → over s at [] ≡ s
unfolding over
over_nil s at = rw (append-nil, add-zero) (take-append-drop at s)

-- the middle of three parts
pub over_middle : (p q r v : List ℕ) → length v ≡ length q → over (p ++ q ++ r) (length p) v ≡ p ++ v ++ r
unfolding over
over_middle p q r v e =
    let ends : length (p ++ q) ≡ length p + length v = simp length-append (omega arith) in
    rw (drop_at (p ++ q) r (length p + length v) ends, append_assoc p q r, take-append_seam p (q ++ r))

-- as std says it: of a part that is lent and written, and of a stretch that is copied

pub over_put : (s : List ℕ) (at k : ℕ) (v w : List ℕ) → w ≡ v → k ≡ length v → put_mid at k s w ≡ over s at v
unfolding over
over_put s at k v w e f = put_mid-paste at k s w v (length v) e (sym f) refl ∙ rw take-length

pub over_copied : (s : List ℕ) (from to n k : ℕ) → k ≡ n → from + n ≤ length s → paste s to (drop from s) k ≡ over s to (take n (drop from s))
unfolding over
over_copied s from to n k e h = rw (e, part_length s from n h)

-- the edits: where they fit, where they do not, and what holds either way

either : (P : List ℕ → Type 0) (b : Bool) (t s : List ℕ) → (b ≡ true → P t) → P s → P (cond b t s)
either P true t s h k = h refl
either P false t s h k = k

fitting : (P : List ℕ → Type 0) (a b c d : ℕ) (t s : List ℕ) → (a ≤ b → c ≤ d → P t) → P s → P (cond (leb a b && leb c d) t s)
fitting P a b c d t s h k = go (leb a b) (leb c d) (leb-true a b) (leb-true c d)
  where
    go : (p q : Bool) → (p ≡ true → a ≤ b) → (q ≡ true → c ≤ d) → P (cond (p && q) t s)
    go true true f g = h (f refl) (g refl)
    go true false f g = k
    go false q f g = k

module _ (s : List ℕ) (at : ℕ) (v : List ℕ) where
  pub placed_fits : at + length v ≤ length s → placed s at v ≡ over s at v
  unfolding placed
  placed_fits h = rw (le-leb _ _ h)

  pub placed_not : length s < at + length v → placed s at v ≡ s
  unfolding placed
  placed_not h = rw (lt-leb _ _ h)

  pub length_placed : length (placed s at v) ≡ length s
  unfolding placed
  length_placed = either (λ l. length l ≡ length s) (leb (at + length v) (length s)) (over s at v) s (λ h. length_over s at v (leb-true _ _ h)) refl

-- a part that is written is placed, and of two writes of it the last holds
pub put_placed : (s : List ℕ) (at k : ℕ) (w : List ℕ) → k ≡ length w → at + length w ≤ length s → put_mid at k s w ≡ placed s at w
put_placed s at k w e h = over_put s at k w w refl e ∙ sym (placed_fits s at w h)

pub put_twice : (s : List ℕ) (at k : ℕ) (x y : List ℕ) → length x ≡ k → at + k ≤ length s → put_mid at k (put_mid at k s x) y ≡ put_mid at k s y
put_twice s at k x y e h =
    let front : take at (put_mid at k s x) ≡ take at s = take_put at k s x (omega arith) in
    let back : drop k (drop at (put_mid at k s x)) ≡ drop k (drop at s) =
    drop-drop k at (put_mid at k s x) ∙ drop-put_mid at k s x (at + k) (omega arith) (omega arith) e ∙ sym (drop-drop k at s) in
    λ i. front i ++ (y ++ back i)

-- and a write of nothing changes nothing
pub put_none : (s : List ℕ) (at k : ℕ) (w : List ℕ) → k ≡ 0 → length w ≡ 0 → put_mid at k s w ≡ s
put_none s at k [] e h = ap (λ m. take at s ++ drop m (drop at s)) e ∙ take-append-drop at s
put_none s at k (x ∷ w) e h = absurd (omega arith)

module _ (s : List ℕ) (from to n : ℕ) where
  pub lowered_fits : to ≤ from → from + n ≤ length s → lowered s from to n ≡ over s to (take n (drop from s))
  unfolding lowered
  lowered_fits h k = rw (le-leb _ _ h, le-leb _ _ k)

  pub lowered_level : from ≤ to → lowered s from to n ≡ s
  unfolding lowered
  lowered_level h =
      fitting (λ l. l ≡ s) to from (from + n) (length s) (over s to (take n (drop from s))) s
      (λ f g. let e : to ≡ from = omega arith in rw e (over_self s from n g))
      refl

  pub lowered_not : to ≤ from → length s < from + n → lowered s from to n ≡ s
  unfolding lowered
  lowered_not h k = rw (le-leb _ _ h, lt-leb _ _ k)

  pub length_lowered : length (lowered s from to n) ≡ length s
  unfolding lowered
  length_lowered =
      let v = take n (drop from s) in
      fitting (λ l. length l ≡ length s) to from (from + n) (length s) (over s to v) s
      (λ f g. length_over s to v (omega (arith, part_length s from n g)))
      refl

module _ (s : List ℕ) (at end n : ℕ) where
  pub raised_fits : at ≤ end → end + n ≤ length s → raised s at end n ≡ over s (at + n) (take (end - at) (drop at s))
  unfolding raised
  raised_fits h k = rw (le-leb _ _ h, le-leb _ _ k)

  pub raised_down : end < at → raised s at end n ≡ s
  unfolding raised
  raised_down h = rw (lt-leb _ _ h)

  pub raised_not : at ≤ end → length s < end + n → raised s at end n ≡ s
  unfolding raised
  raised_not h k = rw (le-leb _ _ h, lt-leb _ _ k)

module _ (s : List ℕ) (at end : ℕ) (v : List ℕ) where
  pub inserted_fits : at ≤ end → end + length v ≤ length s → inserted s at end v ≡ take at s ++ v ++ take (end - at) (drop at s) ++ drop (end + length v) s
  unfolding inserted
  inserted_fits h k = rw (le-leb _ _ h, le-leb _ _ k)

  pub inserted_down : end < at → inserted s at end v ≡ s
  unfolding inserted
  inserted_down h = rw (lt-leb _ _ h)

  pub inserted_not : at ≤ end → length s < end + length v → inserted s at end v ≡ s
  unfolding inserted
  inserted_not h k = rw (le-leb _ _ h, lt-leb _ _ k)

  opened : at ≤ end → end + length v ≤ length s
      → over (over s (at + length v) (take (end - at) (drop at s))) at v ≡ take at s ++ v ++ take (end - at) (drop at s) ++ drop (end + length v) s
  unfolding over
  opened h k =
      let moved = take (end - at) (drop at s) in
      let behind = drop (end + length v) s in
      let head = take (at + length v) s in
      let e : at + length v + length moved ≡ end + length v = simp (length-take, length-drop) (omega arith) in
      let hp : length head ≡ at + length v = length-take-le (at + length v) s (omega arith) in
      rw (e, append_assoc head moved behind, take-append-le at head (moved ++ behind) (omega arith), take-take at (at + length v) s (omega arith), drop_at head (moved ++ behind) (at + length v) hp)
      (sym (append_assoc (take at s ++ v) moved behind))

  -- a gap opened at `at`, and v put there
  pub inserted_raised : at ≤ end → end + length v ≤ length s → placed (raised s at end (length v)) at v ≡ inserted s at end v
  inserted_raised h k =
      let moved = take (end - at) (drop at s) in
      let count : length moved ≡ end - at = part_length s at (end - at) (omega arith) in
      let whole : length (over s (at + length v) moved) ≡ length s = length_over s (at + length v) moved (omega arith) in
      rw (raised_fits s at end (length v) h k, placed_fits (over s (at + length v) moved) at v (omega arith), inserted_fits h k) (opened h k)

  pub length_inserted : length (inserted s at end v) ≡ length s
  unfolding inserted
  length_inserted =
      fitting (λ l. length l ≡ length s) at end (end + length v) (length s) (take at s ++ v ++ take (end - at) (drop at s) ++ drop (end + length v) s) s
      (λ f g. simp (length-append, length-take, length-drop) (omega arith))
      refl
