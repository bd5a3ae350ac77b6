-- The bytes of a book whose records were packed: behind those that stay zeros, then the new depth and count.
use mathlib.Core.Path.{◌≡◌, sym, ap, ◌∙◌}
use mathlib.Core.Bool.{true, false}
use mathlib.Core.List.{List, ◌++◌, append_assoc}
use Prim.Native.Nat.{ℕ, ◌+◌, ◌-◌, ◌*◌, ◌≤◌, min}
use native.Mathlib.Omega.{arith}
use lib.ListN.{length, take, drop, set, replicate, length-append, length-set, length-drop, length-replicate}
use lib.Seq.{take_all}
use Rattle.octets.specs.Number.{bytes_of}
use Rattle.moving.specs.Moving.{over, placed}
use Rattle.octets.specs.Pieces.{pieces}
use Rattle.moving.proofs.Edits.{placed_fits, length_placed}
use Rattle.settling.specs.Book.{inside}
use Rattle.settling.proofs.Cases.{Limit, within, beyond, limit}
use Rattle.settling.proofs.Inside.{inside_less, each_inside}
use Rattle.book.specs.Shape.{shape_in}
use Rattle.book.specs.Layout.{count_in, records_in, laid}
use Rattle.book.proofs.Cuts.{counted, each_sized}
use Rattle.book.proofs.Laid.{Sized, length_laid}
use Rattle.filing.specs.Keep.{inside_in, Packed, refilled, refiled, kept_bytes, staying}
use Rattle.filing.specs.Whole.{whole}

-- the stores keep the length
pub same_size : (t u v : List ℕ) (at n depth : ℕ) (w : List ℕ) → u ≡ placed t at (replicate n 0) → v ≡ placed (set u 7 depth) 44 w → length v ≡ length t
same_size t u v at n depth w eu ev = ap length ev ∙ length_placed (set u 7 depth) 44 w ∙ simp length-set (ap length eu ∙ length_placed t at (replicate n 0))

-- a place behind the last record is the last one's
front_of : (s : List ℕ) (i n : ℕ) → n ≡ count_in s → take (min i n) (records_in s) ≡ take i (records_in s)
front_of s i n e = go (limit i n)
  where
    go : Limit i n → take (min i n) (records_in s) ≡ take i (records_in s)
    go (within h) = let f : min i n ≡ i = omega arith in rw f
    go (beyond h) = take_all (min i n) (records_in s) (omega (arith, counted s)) ∙ sym (take_all i (records_in s) (omega (arith, counted s)))

module _ (s : List ℕ) (count : ℕ) (same : count ≡ count_in s) (room : 48 + 145 * count ≤ length s) (depth : ℕ) where
  stay : List (List ℕ)
  stay = inside (shape_in s) depth (records_in s)

  pub same_inside : (i : ℕ) → inside_in s count depth i ≡ inside (shape_in s) depth (take i (records_in s))
  same_inside i = ap (λ (n : ℕ). inside (shape_in s) depth (take i (pieces 145 n (drop 48 s)))) same

  same_all : inside_in s count depth count ≡ stay
  unfolding stay
  same_all = same_inside count ∙ ap (inside (shape_in s) depth) (take_all count (records_in s) (omega (arith, counted s)))

  module _ (t : List ℕ) (j : ℕ) (p : Packed s count depth t count j) where
    kept : j ≡ length stay
    kept = p.kept ∙ ap length same_all

    fewer : j ≤ count
    unfolding stay
    fewer = omega (arith, kept, inside_less (shape_in s) depth (records_in s), counted s)

    long : length (laid stay) ≡ 145 * length stay
    unfolding stay
    long =
        let k : length (drop 48 s) ≡ length s - 48 = length-drop 48 s in
        length_laid stay (each_inside (shape_in s) Sized depth (records_in s) (each_sized (count_in s) (drop 48 s) (omega arith)))

    cleared : (u : List ℕ) → u ≡ placed t (48 + 145 * j) (replicate (145 * (count - j)) 0) → u ≡ refilled s stay
    unfolding over
    cleared u eu =
        let gone = replicate {A = ℕ} (145 * (count - j)) 0 in
        let n : length gone ≡ 145 * (count - j) = length-replicate {A = ℕ} (145 * (count - j)) 0 in
        let e : 48 + 145 * j + length gone ≡ 48 + 145 * count = omega (arith, n, fewer) in
        let size : length t ≡ length s = p.size in
        let f : 48 + length (laid stay ++ gone) ≡ 48 + 145 * count = simp length-append (omega (arith, n, fewer, long, kept)) in
        let rest : count_in s - length stay ≡ count - j = omega (arith, kept, same) in
        eu ∙ placed_fits t (48 + 145 * j) gone (omega (arith, e, size, room))
        ∙ rw (e, p.yet, p.front, same_all, rest, placed_fits s 48 (laid stay ++ gone) (omega (arith, f, room)), f) (simp append_assoc)

    pub packed_bytes : (u v : List ℕ) → u ≡ placed t (48 + 145 * j) (replicate (145 * (count - j)) 0) → v ≡ placed (set u 7 depth) 44 (bytes_of 4 j) → v ≡ refiled s depth
    unfolding stay refiled
    packed_bytes u v eu ev = ev ∙ (λ i. placed (set (cleared u eu i) 7 depth) 44 (bytes_of 4 (kept i)))

-- where the bytes hold what their header counts, and where not
module _ (s : List ℕ) (i depth : ℕ) where
  module _ (e : whole s ≡ true) where
    pub stays : (n m r : ℕ) → n ≡ count_in s → m ≡ min i n → r ≡ length (inside (shape_in s) depth (take m (records_in s))) → r ≡ staying s i depth
    unfolding staying
    stays n m r en em er = rw e (er ∙ ap (λ (l : List (List ℕ)). length (inside (shape_in s) depth l)) (ap (λ (k : ℕ). take k (records_in s)) em ∙ front_of s i n en))

    pub kept_bytes_lem : refiled s depth ≡ kept_bytes s depth
    unfolding kept_bytes
    kept_bytes_lem = rw e

  module _ (e : whole s ≡ false) where
    pub none_stays : 0 ≡ staying s i depth
    unfolding staying
    none_stays = rw e

    pub same_bytes : s ≡ kept_bytes s depth
    unfolding kept_bytes
    same_bytes = rw e
