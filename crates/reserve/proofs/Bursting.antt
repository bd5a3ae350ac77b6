-- The bytes of a book that becomes overfull: state and depth are stored, then the count, then zeros over every record.
use mathlib.Core.Path.{◌≡◌, refl, sym, ap, ◌∙◌}
use mathlib.Core.List.{List, [], ◌++◌, append-nil}
use Prim.Native.Nat.{ℕ, ◌+◌, ◌-◌, ◌*◌, ◌≤◌}
use native.Mathlib.Omega.{arith}
use lib.ListN.{length, set, replicate, length-append, length-set, length-replicate}
use borrow.Author.Tests.{le-leb}
use Rattle.octets.specs.Number.{bytes_of}
use Rattle.moving.specs.Moving.{over, placed}
use Rattle.octets.proofs.Numbers.{length_bytes_of}
use Rattle.moving.proofs.Edits.{placed_fits}
use Rattle.settling.specs.Book.{overfull}
use Rattle.book.specs.Layout.{laid}
use Rattle.book.specs.Book.{Book, in_state, write}
use Rattle.editing.specs.Edit.{burst_bytes}
use Rattle.reserve.specs.Edit.{Stands}
use Rattle.book.proofs.Laid.{length_laid}
use Rattle.book.proofs.Headed.{header, length_header, set_flag, set_depth, over_count, over_middle, zeros, write_overfull}
use Rattle.reserve.proofs.Standing.{stands_bytes, stands_length}

module _ (s t u : List ℕ) (n : ℕ) (et : t ≡ placed (set (set s 5 1) 7 16) 44 (bytes_of 4 0)) (eu : u ≡ placed t 48 (replicate n 0)) where
  module _ (b : Book) (d : ℕ) (l : List (List ℕ)) (w : Stands s b d l) where
    body : List ℕ
    body = laid l ++ zeros b (length l)

    size : length s ≡ 48 + 145 * b.capacity
    size = stands_length w

    body_size : length body ≡ 145 * b.capacity
    unfolding body
    body_size =
        let c : length l ≤ b.capacity = w.count in
        simp (length-append, length-replicate) (omega (arith, length_laid l w.records))

    -- the new header, with k as its count
    burst_head : ℕ → List ℕ
    burst_head k = header 1 b.starting 16 b.overlay b.capacity k

    stored : set (set s 5 1) 7 16 ≡ burst_head (length l) ++ body
    unfolding body burst_head
    stored =
        ap (λ (x : List ℕ). set (set x 5 1) 7 16) (stands_bytes w)
        ∙ ap (λ (x : List ℕ). set x 7 16) (set_flag 0 b.starting d b.overlay b.capacity (length l) body 1)
        ∙ set_depth 1 b.starting d b.overlay b.capacity (length l) body 16

    counted : t ≡ burst_head 0 ++ body
    unfolding burst_head
    counted =
        let fits : 44 + length (bytes_of 4 0) ≤ length (set (set s 5 1) 7 16) = simp length-set (omega (arith, length_bytes_of 4 0, size)) in
        et ∙ placed_fits (set (set s 5 1) 7 16) 44 (bytes_of 4 0) fits
        ∙ ap (λ (x : List ℕ). over x 44 (bytes_of 4 0)) stored
        ∙ over_count 1 b.starting 16 b.overlay b.capacity (length l) body w.overlay 0

    head_size : length (burst_head 0) ≡ 48
    unfolding burst_head
    head_size = length_header 1 b.starting 16 b.overlay b.capacity 0 [] w.overlay

    module _ (e : n ≡ length s - 48) where
      records : n ≡ 145 * b.capacity
      records = omega (arith, size)

      fits : 48 + length (replicate {A = ℕ} n 0) ≤ length t
      fits = rw (counted, length-replicate) (simp length-append (omega (arith, body_size, head_size, records)))

      cleared : u ≡ burst_head 0 ++ (replicate n 0 ++ [])
      cleared =
          eu ∙ placed_fits t 48 (replicate n 0) fits
          ∙ ap (λ (x : List ℕ). over x 48 (replicate n 0)) (counted ∙ ap (λ (x : List ℕ). burst_head 0 ++ x) (sym (append-nil body)))
          ∙ over_middle (burst_head 0) body (replicate n 0) [] 48 head_size (body_size ∙ sym (length-replicate {A = ℕ} n 0 ∙ records))

      burst : u ≡ write (in_state b overfull)
      unfolding burst_head
      burst =
          let k : n ≡ 145 * (b.capacity - 0) = omega (arith, records) in
          cleared ∙ rw (append-nil, k) (sym (write_overfull b))

pub stands_burst : (s : List ℕ) (b : Book) (d : ℕ) (l : List (List ℕ)) → Stands s b d l → burst_bytes s ≡ write (in_state b overfull)
unfolding burst_bytes
stands_burst s b d l w =
    let there : 48 ≤ length s = omega (arith, stands_length w) in
    rw (le-leb 48 (length s) there) (burst s _ _ (length s - 48) refl refl b d l w refl)
