-- The pass that moves the records inside a depth to the front.
use mathlib.Core.Path.{◌≡◌, refl, sym, ap, ◌∙◌}
use mathlib.Core.List.{List, [], ◌∷◌, ◌++◌, append_assoc, append-nil}
use Prim.Native.Nat.{ℕ, ◌+◌, ◌*◌, ◌≤◌, ◌<◌}
use native.Mathlib.Omega.{arith}
use lib.ListN.{length, get_or, take, drop, length-append}
use lib.Seq.{length-take-le, take-take, take_at, drop-drop}
use Rattle.moving.specs.Moving.{over, lowered}
use Rattle.octets.specs.Pieces.{pieces}
use Rattle.octets.proofs.Parts.{part_length, part_of_take}
use Rattle.moving.proofs.Edits.{drop_over, lowered_fits, length_lowered}
use Rattle.octets.proofs.Pieces.{length_pieces}
use Rattle.settling.specs.Book.{inside}
use Rattle.settling.proofs.Inside.{inside_nil}
use Rattle.settling.proofs.Places.{inside_next_in, inside_next_out}
use Rattle.records.specs.Record.{slot, near_of}
use Rattle.book.specs.Layout.{overlay_in, laid}
use Rattle.book.specs.Shape.{shape_in}
use Rattle.nearing.specs.Near.{near_in}
use Rattle.nearing.proofs.Nearing.{near_in_lem}
use Rattle.filing.specs.Keep.{inside_in, Packed}
use Rattle.book.proofs.Laid.{laid_nil, laid_one, laid_append}
use Rattle.book.proofs.Cuts.{record_there}

-- up to the end of what is written
pub over_front : (s : List ℕ) (at : ℕ) (v : List ℕ) (n : ℕ) → n ≡ at + length v → at ≤ length s → take n (over s at v) ≡ take at s ++ v
unfolding over
over_front s at v n e h = take_at (take at s ++ v) (drop (at + length v) s) n (length-append (take at s) v ∙ ap (λ (m : ℕ). m + length v) (length-take-le at s h) ∙ sym e)

pub packed_start : (s : List ℕ) (count depth : ℕ) → Packed s count depth s 0 0
packed_start s count depth =
    let none : inside (shape_in s) depth [] ≡ [] = inside_nil (shape_in s) depth in
    record {
      front = rw (none, laid_nil) (sym (append-nil (take 48 s)));
      yet = refl;
      kept = rw none;
      size = refl;
    }

module _ (was : List ℕ) (count depth : ℕ) (room : 48 + 145 * count ≤ length was) (s : List ℕ) (i j : ℕ) (w : Packed was count depth s i j) where
  head_length : length (take 48 was) ≡ 48
  head_length = length-take-le 48 was (omega arith)

  same_head : take 48 s ≡ take 48 was
  same_head =
      sym (take-take 48 (48 + 145 * j) s (omega arith)) ∙ ap (take 48) w.front
      ∙ take_at (take 48 was) (laid (inside_in was count depth i)) 48 head_length

  same_overlay : overlay_in s ≡ overlay_in was
  same_overlay = overlay_of s ∙ ap (λ (t : List ℕ). drop 8 (take 40 t)) same_head ∙ sym (overlay_of was)
    where
      overlay_of : (t : List ℕ) → overlay_in t ≡ drop 8 (take 40 (take 48 t))
      overlay_of t = sym (part_of_take 8 32 t) ∙ ap (drop 8) (sym (take-take 40 48 t (omega arith)))

  module _ (inlist : i < count) (n : ℕ) (near : n ≡ near_in s (take 145 (drop (48 + 145 * i) s))) where
    records : List (List ℕ)
    records = pieces 145 count (drop 48 was)

    there : take 145 (drop (48 + 145 * i) s) ≡ get_or records i []
    unfolding records
    there = ap (take 145) w.yet ∙ record_there was count i inlist

    in_records : i < length records
    unfolding records
    in_records = omega (arith, inlist, length_pieces 145 count (drop 48 was))

    near_there : n ≡ near_of (overlay_in was) (slot (get_or records i []))
    near_there =
        let size : length s ≡ length was = w.size in
        near ∙ near_in_lem s (take 145 (drop (48 + 145 * i) s)) (omega arith) (part_length s (48 + 145 * i) 145 (omega arith))
        ∙ (λ k. near_of (same_overlay k) (slot (there k)))

    yet_next : drop (48 + 145 * (i + 1)) s ≡ drop (48 + 145 * (i + 1)) was
    yet_next =
        let e : 48 + 145 * (i + 1) ≡ 48 + 145 * i + 145 = omega arith in
        rw (e, ← drop-drop 145 (48 + 145 * i) s, ← drop-drop 145 (48 + 145 * i) was, w.yet)

    -- the record goes
    pub packed_out : n < depth → Packed was count depth s (i + 1) j
    unfolding records
    packed_out h =
        let e : inside_in was count depth (i + 1) ≡ inside_in was count depth i = inside_next_out (shape_in was) [] depth records i in_records (rw (← near_there) h) in
        record { front = rw e w.front; yet = yet_next; kept = rw e w.kept; size = w.size }

    -- the record stays
    pub packed_in : (t : List ℕ) → depth ≤ n → j ≤ i → t ≡ lowered s (48 + 145 * i) (48 + 145 * j) 145 → Packed was count depth t (i + 1) (j + 1)
    unfolding records
    packed_in t h below et =
        let r = take 145 (drop (48 + 145 * i) s) in
        let size : length s ≡ length was = w.size in
        let e : inside_in was count depth (i + 1) ≡ inside_in was count depth i ++ (r ∷ []) =
        inside_next_in (shape_in was) [] depth records i in_records (rw (← near_there) h) ∙ ap (λ (x : List ℕ). inside_in was count depth i ++ (x ∷ [])) (sym there) in
        let long : length r ≡ 145 = part_length s (48 + 145 * i) 145 (omega arith) in
        let moved : t ≡ over s (48 + 145 * j) r = et ∙ lowered_fits s (48 + 145 * i) (48 + 145 * j) 145 (omega arith) (omega arith) in
        record {
          front =
              rw (moved, e)
              (over_front s (48 + 145 * j) r (48 + 145 * (j + 1)) (omega arith) (omega arith)
              ∙ ap (λ (x : List ℕ). x ++ r) w.front
              ∙ append_assoc (take 48 was) (laid (inside_in was count depth i)) r
              ∙ ap (λ (x : List ℕ). take 48 was ++ x) (sym (laid_append (inside_in was count depth i) (r ∷ []) ∙ ap (λ (x : List ℕ). laid (inside_in was count depth i) ++ x) (laid_one r))));
          yet = rw moved (drop_over s (48 + 145 * j) r (48 + 145 * (i + 1)) (omega arith) (omega arith)) ∙ yet_next;
          kept = rw (e, length-append) (ap (λ (k : ℕ). k + 1) w.kept);
          size = ap length et ∙ length_lowered s (48 + 145 * i) (48 + 145 * j) 145 ∙ size;
        }
