-- What is known of the bytes of a good book.
use mathlib.Core.Path.{◌≡◌, ap, ◌∙◌}
use mathlib.Core.List.{List, [], ◌++◌}
use Prim.Native.Nat.{ℕ, ◌+◌, ◌*◌, ◌≤◌}
use native.Mathlib.Omega.{arith}
use lib.ListN.{length, length-append, length-replicate}
use Rattle.book.specs.Layout.{count_in, laid}
use Rattle.book.specs.Book.{Book}
use Rattle.reserve.specs.Edit.{Stands}
use Rattle.book.proofs.Laid.{length_laid}
use Rattle.book.proofs.Headed.{length_header, count_there, head, zeros, write_good}

module _ {s : List ℕ} {b : Book} {d : ℕ} {l : List (List ℕ)} (w : Stands s b d l) where
  pub stands_bytes : s ≡ head b d (length l) ++ (laid l ++ zeros b (length l))
  stands_bytes = w.bytes ∙ write_good b d l

  pub stands_head : (e n : ℕ) → length (head b e n) ≡ 48
  stands_head e n = length_header 0 b.starting e b.overlay b.capacity n [] w.overlay

  pub stands_length : length s ≡ 48 + 145 * b.capacity
  stands_length =
      let u : length l ≤ b.capacity = w.count in
      rw stands_bytes (simp (length-append, length-replicate) (omega (arith, stands_head d (length l), length_laid l w.records)))

  pub stands_count : count_in s ≡ length l
  stands_count =
      let u : length l ≤ b.capacity = w.count in
      ap count_in stands_bytes ∙ count_there 0 b.starting d b.overlay b.capacity (length l) (laid l ++ zeros b (length l)) w.overlay (omega (arith, w.most))
