-- Text put behind text.
use mathlib.Core.Path.{◌≡◌, sym, ap, ◌∙◌}
use mathlib.Core.List.{List, [], ◌∷◌, ◌++◌, append_assoc}
use Prim.Native.Nat.{ℕ, suc, ◌+◌, ◌≤◌, ◌<◌}
use native.Mathlib.Nat.{add_assoc}
use native.Mathlib.Numerals.{add-one}
use native.Mathlib.Omega.{arith}
use lib.ListN.{length, take, drop, set, length-append, length-set}
use lib.Seq.{take_at, length-take-le, set_split, append_snoc}
use Rattle.moving.specs.Moving.{over, placed}
use Rattle.moving.proofs.Edits.{drop_over, length_over, placed_fits}
use Rattle.digits.specs.Field.{decimal}
use Rattle.listing.specs.declared.field.Text.{Text}
use Rattle.listing.specs.Put.{Put, Added}

-- two edits, the second where the first ends, are one
pub over_then : (s : List ℕ) (at : ℕ) (v w : List ℕ) → at ≤ length s → over (over s at v) (at + length v) w ≡ over s at (v ++ w)
unfolding over
over_then s at v w h =
    let e : length (take at s ++ v) ≡ at + length v = simp (length-append, length-take-le at s h) in
    rw (take_at (take at s ++ v) (drop (at + length v) s) (at + length v) e, drop_over s at v (at + length v + length w) (omega arith) h, length-append v w, append_assoc (take at s) v w, add_assoc at (length v) (length w))

-- one byte
over_one : (s : List ℕ) (i x : ℕ) → i < length s → set s i x ≡ over s i (x ∷ [])
unfolding over
over_one s i x h = rw (set_split s i x h, add-one i) (sym (append_snoc (take i s) x (drop (suc i) s)))

-- a field, and the byte that ends it
pub field_put : (s : List ℕ) (at : ℕ) (f : List ℕ) (x : ℕ) → at + length f < length s
    → Put s at (f ++ (x ∷ [])) (set (placed s at f) (at + length f) x) (at + length f + 1)
field_put s at f x h =
    let size : length (over s at f) ≡ length s = length_over s at f (omega arith) in
    let one : set (placed s at f) (at + length f) x ≡ over (over s at f) (at + length f) (x ∷ []) =
    rw (placed_fits s at f (omega arith)) (over_one (over s at f) (at + length f) x (omega arith)) in
    record {
      bytes = one ∙ over_then s at f (x ∷ []) (omega arith);
      next = simp length-append (omega arith);
      size = simp length-set (ap length (placed_fits s at f (omega arith)) ∙ size);
    }

-- text behind text
pub put_rest : (w : List ℕ) {s v t : List ℕ} {at b : ℕ} → at ≤ length s → Put s at v t b → over t b w ≡ over s at (v ++ w)
put_rest w {s} {v} {t} {at} {b} h p = rw (p.bytes, p.next) (over_then s at v w h)

pub put_then : {s v w t u : List ℕ} {at b e : ℕ} → at ≤ length s → Put s at v t b → Put t b w u e → Put s at (v ++ w) u e
put_then {s} {v} {w} {t} {u} {at} {b} {e} h p q =
    record {
      bytes = q.bytes ∙ put_rest w h p;
      next = simp length-append (omega (arith, p.next, q.next));
      size = q.size ∙ p.size;
    }

-- the same of a text in its buffer
pub added_then : {s t u : Text} {v w : List ℕ} → s.at ≤ length s.out.now → Added s v t → Added t w u → Added s (v ++ w) u
added_then h p q = record { put = put_then h p.put q.put; buffer = q.buffer ∙ p.buffer }

-- a field, then what is behind it
pub field_then : (f g : List ℕ) (x : ℕ) {s t u : Text} {w : List ℕ} → f ≡ g → s.at ≤ length s.out.now → Added s (f ++ (x ∷ [])) t → Added t w u → Added s (g ++ (x ∷ w)) u
field_then f g x {s} {t} {u} {w} same h p q = rw (same, append_assoc g (x ∷ []) w) at (added_then h p q)

pub number_then : {n m : ℕ} (x : ℕ) {s t u : Text} {w : List ℕ} → n ≡ m → s.at ≤ length s.out.now → Added s (decimal n ++ (x ∷ [])) t → Added t w u
    → Added s (decimal m ++ (x ∷ w)) u
number_then {n} {m} x same = field_then (decimal n) (decimal m) x (ap decimal same)

-- where a field ends
pub put_within : (f : List ℕ) (x n : ℕ) {s t : List ℕ} {at b : ℕ} → length f ≤ n → Put s at (f ++ (x ∷ [])) t b → b ≤ at + (n + 1)
put_within f x n h p = omega (arith, p.next, length-append f (x ∷ []))

-- and that it ends within the buffer
pub put_inside : {s v t : List ℕ} {at b : ℕ} → at ≤ length s → Put s at v t b → b ≤ length t
unfolding over
put_inside {s} {v} {t} {at} {b} h p =
    omega (arith, p.next, simp (length-append, length-take-le at s h) at (ap length p.bytes))
