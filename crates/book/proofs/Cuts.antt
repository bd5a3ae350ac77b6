-- A book's records: pieces of 145 bytes, behind the header.
use mathlib.Core.Path.{◌≡◌, refl, sym, ap, ◌∙◌}
use mathlib.Core.List.{List, [], ◌∷◌}
use Prim.Native.Nat.{ℕ, zero, suc, ◌+◌, ◌-◌, ◌*◌, ◌/◌, ◌≤◌, ◌<◌}
use native.Mathlib.Nat.{add-sub_cancel_left}
use native.Mathlib.Decide.{dec_le}
use native.Mathlib.Omega.{arith}
use lib.ListN.{length, get_or, take, drop, length-drop, drop_of_length-le}
use lib.Seq.{drop-drop, take-take, take-nil, take_all, length-take-le}
use Rattle.std.proofs.Common.{min}
use Rattle.std.specs.Simd.{first_chunks}
use Rattle.octets.specs.Bytes.{Bytes}
use Rattle.octets.specs.Pieces.{pieces}
use Rattle.octets.proofs.Bytes.{bytes_take, bytes_drop}
use Rattle.octets.proofs.Pieces.{pieces_none, pieces_more, length_pieces, piece_at, pieces_front}
use Rattle.octets.proofs.Parts.{part_length}
use Rattle.settling.specs.Meaning.{Each}
use Rattle.book.specs.Layout.{count_in, records_in}
use Rattle.book.proofs.Laid.{Sized}

pub each_sized : (n : ℕ) (s : List ℕ) → 145 * n ≤ length s → Each Sized (pieces 145 n s)
unfolding pieces
each_sized zero s h = tt
each_sized (suc n) s h =
    let e : length (drop 145 s) ≡ length s - 145 = length-drop 145 s in
    (length-take-le 145 s (omega arith), each_sized n (drop 145 s) (omega arith))

pub each_bytes : (n : ℕ) (s : List ℕ) → Bytes s → Each Bytes (pieces 145 n s)
unfolding pieces
each_bytes zero s h = tt
each_bytes (suc n) s h = (bytes_take 145 s h, each_bytes n (drop 145 s) (bytes_drop 145 s h))

-- a book's records are as many as its header says
pub counted : (s : List ℕ) → length (records_in s) ≡ count_in s
counted s = length_pieces 145 (count_in s) (drop 48 s)

-- pieces, as std cuts a slice into arrays
pub pieces_chunks : (w n : ℕ) (s : List ℕ) → first_chunks w n s ≡ pieces w n s
unfolding pieces
pieces_chunks w zero s = refl
pieces_chunks w (suc n) s = ap (λ (l : List (List ℕ)). take w s ∷ l) (pieces_chunks w n (drop w s))

-- the records behind a header, as they are cut out of a book
pub records_cut : (s : List ℕ) (n : ℕ) → 48 + 145 * n ≤ length s
    → first_chunks 145 (length (take (145 * n) (drop 48 s)) / 145) (take (145 * n) (drop 48 s)) ≡ pieces 145 n (drop 48 s)
records_cut s n h =
    let e : length (take (145 * n) (drop 48 s)) / 145 ≡ n = rw (part_length s 48 (145 * n) (omega arith)) (omega arith) in
    rw e (pieces_chunks 145 n (take (145 * n) (drop 48 s)) ∙ pieces_front 145 n (drop 48 s) (omega (arith, length-drop 48 s)))

-- the n records of a book, and one of them
module _ (s : List ℕ) (n i : ℕ) where
  pub record_there : i < n → take 145 (drop (48 + 145 * i) s) ≡ get_or (pieces 145 n (drop 48 s)) i []
  record_there h = sym (piece_at 145 n (drop 48 s) i h ∙ ap (take 145) (drop-drop (145 * i) 48 s))

  -- its first k bytes, as code takes them
  pub record_part : (k : ℕ) → i < n → k ≤ 145 → take (48 + 145 * i + k - (48 + 145 * i)) (drop (48 + 145 * i) s) ≡ take k (get_or (pieces 145 n (drop 48 s)) i [])
  record_part k h w = rw (← record_there h, take-take k 145 (drop (48 + 145 * i) s) w, add-sub_cancel_left (48 + 145 * i) k)

  -- record i, and those behind it
  pub records_from : i < n
      → pieces 145 (n - i) (drop (48 + 145 * i) s) ≡ take 145 (drop (48 + 145 * i) s) ∷ pieces 145 (n - (i + 1)) (drop (48 + 145 * (i + 1)) s)
  records_from h =
      let e : n - i ≡ suc (n - (i + 1)) = omega arith in
      let f : 48 + 145 * i + 145 ≡ 48 + 145 * (i + 1) = omega arith in
      rw (e, pieces_more 145 (n - (i + 1)), drop-drop 145 (48 + 145 * i) s, f)

  -- none from n on
  pub records_none : n ≤ i → pieces 145 (n - i) (drop (48 + 145 * i) s) ≡ []
  records_none h = let e : n - i ≡ 0 = omega arith in rw (e, pieces_none 145)

-- so many bytes of a book from a place on, or what is left of them, as code cuts them
pub cut : (s : List ℕ) (at k from to : ℕ) → from ≡ min (length s) at → to ≡ min (length s) (at + k) → take (to - from) (drop from s) ≡ take k (drop at s)
cut s at k from to e f = by (dec_le at (length s)) (dec_le (at + k) (length s))
  where
    by : Dec (at ≤ length s) → Dec (at + k ≤ length s) → take (to - from) (drop from s) ≡ take k (drop at s)
    by (no h) q = rw (drop_of_length-le s {i = from} (omega arith), drop_of_length-le s {i = at} (omega arith), take-nil {A = ℕ} (to - from), take-nil {A = ℕ} k)
    by (yes h) (yes q) = let g : to - from ≡ k = omega arith in let i : from ≡ at = omega arith in rw (g, i)
    by (yes h) (no q) =
        let i : from ≡ at = omega arith in
        rw i (take_all (to - at) (drop at s) (omega (arith, length-drop at s)) ∙ sym (take_all k (drop at s) (omega (arith, length-drop at s))))
