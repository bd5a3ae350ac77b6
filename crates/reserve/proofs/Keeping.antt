-- The bytes of a book whose depth rose are those of the book at that depth, with the records inside it.
use mathlib.Core.Path.{◌≡◌, sym, ap, ◌∙◌}
use mathlib.Core.Bool.{true}
use mathlib.Core.List.{List, ◌++◌, append_assoc}
use Prim.Native.Nat.{ℕ, ◌+◌, ◌-◌, ◌*◌, ◌≤◌}
use native.Mathlib.Omega.{arith}
use lib.ListN.{length, take, set, replicate, length-append, length-set, length-replicate, replicate-append-replicate}
use Rattle.octets.specs.Number.{bytes_of}
use Rattle.moving.specs.Moving.{over}
use Rattle.octets.proofs.Numbers.{length_bytes_of}
use Rattle.moving.proofs.Edits.{placed_fits, length_placed}
use Rattle.settling.specs.Book.{inside}
use Rattle.settling.proofs.Inside.{inside_less, each_inside}
use Rattle.book.specs.Shape.{shape_in}
use Rattle.book.specs.Layout.{count_in, records_in, laid}
use Rattle.book.specs.Book.{Book}
use Rattle.book.proofs.Cuts.{counted}
use Rattle.book.proofs.Laid.{Sized, length_laid}
use Rattle.book.proofs.Headed.{set_depth, over_count, over_middle, head, zeros, write_good}
use Rattle.filing.specs.Whole.{whole}
use Rattle.filing.specs.Keep.{refilled, refiled, kept_bytes, staying}
use Rattle.filing.proofs.Wholeness.{whole_here}
use Rattle.reserve.specs.Edit.{Stands}
use Rattle.reserve.proofs.Standing.{stands_bytes, stands_head, stands_length}

module _ (s : List ℕ) (b : Book) (d : ℕ) (w : Stands s b d (records_in s)) (depth : ℕ) where
  stay : List (List ℕ)
  stay = inside (shape_in s) depth (records_in s)

  n : ℕ
  n = length (records_in s)

  fewer : length stay ≤ n
  unfolding stay n
  fewer = inside_less (shape_in s) depth (records_in s)

  fits : n ≤ b.capacity
  unfolding n
  fits = w.count

  same : count_in s ≡ n
  unfolding n
  same = sym (counted s)

  size : length s ≡ 48 + 145 * b.capacity
  size = stands_length w

  pub there : whole s ≡ true
  there = whole_here s (omega (arith, same, fits, w.most)) (omega (arith, same, fits, size))

  sized : length (laid stay) ≡ 145 * length stay
  unfolding stay
  sized = length_laid stay (each_inside (shape_in s) Sized depth (records_in s) w.records)

  cleared : refilled s stay ≡ head b d n ++ (laid stay ++ zeros b (length stay))
  unfolding n
  cleared =
      let gone = replicate {A = ℕ} (145 * (count_in s - length stay)) 0 in
      let k : length gone ≡ 145 * (count_in s - length stay) = length-replicate {A = ℕ} (145 * (count_in s - length stay)) 0 in
      let whole : length (laid stay ++ gone) ≡ 145 * n = simp length-append (omega (arith, k, sized, fewer, same)) in
      let z : 145 * (count_in s - length stay) + 145 * (b.capacity - n) ≡ 145 * (b.capacity - length stay) = omega (arith, fewer, fits, same) in
      placed_fits s 48 (laid stay ++ gone) (omega (arith, whole, size, fits))
      ∙ ap (λ (x : List ℕ). over x 48 (laid stay ++ gone)) (stands_bytes w)
      ∙ over_middle (head b d n) (laid (records_in s)) (laid stay ++ gone) (zeros b n) 48 (stands_head w d n) (length_laid (records_in s) w.records ∙ sym whole)
      ∙ ap (λ (x : List ℕ). head b d n ++ x) (append_assoc (laid stay) gone (zeros b n))
      ∙ ap (λ (x : List ℕ). head b d n ++ (laid stay ++ x)) (rw (← z) (replicate-append-replicate {A = ℕ} (145 * (count_in s - length stay)) (145 * (b.capacity - n)) 0))

  filed : refiled s depth ≡ head b depth (length stay) ++ (laid stay ++ zeros b (length stay))
  unfolding stay refiled
  filed =
      let body = laid stay ++ zeros b (length stay) in
      let long : length (refilled s stay) ≡ length s = length_placed s 48 _ in
      let room : 44 + length (bytes_of 4 (length stay)) ≤ length (set (refilled s stay) 7 depth) = simp length-set (omega (arith, long, size, length_bytes_of 4 (length stay))) in
      placed_fits (set (refilled s stay) 7 depth) 44 (bytes_of 4 (length stay)) room
      ∙ ap (λ (x : List ℕ). over (set x 7 depth) 44 (bytes_of 4 (length stay))) cleared
      ∙ ap (λ (x : List ℕ). over x 44 (bytes_of 4 (length stay))) (set_depth 0 b.starting d b.overlay b.capacity n body depth)
      ∙ over_count 0 b.starting depth b.overlay b.capacity n body w.overlay (length stay)

  pub kept_stands : Stands (kept_bytes s depth) b depth (inside (shape_in s) depth (records_in s))
  unfolding stay kept_bytes
  kept_stands =
      record {
        bytes = rw there (filed ∙ sym (write_good b depth stay));
        overlay = w.overlay;
        records = each_inside (shape_in s) Sized depth (records_in s) w.records;
        count = omega (arith, fewer, fits);
        most = w.most;
      }

  pub kept_before : (i : ℕ) → staying s i depth ≡ length (inside (shape_in s) depth (take i (records_in s)))
  unfolding staying
  kept_before i = rw there
