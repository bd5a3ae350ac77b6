-- A fresh book's bytes, written one part after another.
use mathlib.Core.Path.{◌≡◌, refl, sym, ap, ◌∙◌}
use mathlib.Core.List.{List, [], ◌∷◌, ◌++◌, append-nil}
use Prim.Native.Nat.{ℕ, ◌+◌, ◌*◌, ◌≤◌}
use native.Mathlib.Nat.{sub-zero}
use native.Mathlib.Omega.{arith}
use lib.ListN.{length, set, drop, replicate, length-append, replicate-append-replicate, drop_of_length-le}
use Rattle.octets.specs.Number.{bytes_of}
use Rattle.moving.specs.Moving.{over, placed}
use Rattle.octets.proofs.Numbers.{length_bytes_of}
use Rattle.moving.proofs.Edits.{placed_fits}
use Rattle.book.specs.Layout.{mark, laid}
use Rattle.book.specs.Book.{write}
use Rattle.opening.specs.Open.{fresh_book}
use Rattle.book.proofs.Headed.{over_middle}

-- a buffer is cleared whole where it is cleared as far as its end
pub cleared : (s a : List ℕ) (end : ℕ) → a ≡ replicate end 0 ++ drop end s → end ≡ length s → a ≡ replicate (length s) 0
cleared s a end e h =
    let none : drop end s ≡ [] = drop_of_length-le s {i = end} (omega (arith, h)) in
    e ∙ ap (λ (l : List ℕ). replicate end 0 ++ l) none ∙ append-nil (replicate end 0) ∙ ap (λ (n : ℕ). replicate {A = ℕ} n 0) h

-- the parts of a cleared buffer
parts : (n : ℕ) → replicate {A = ℕ} (48 + n) 0 ≡ replicate 8 0 ++ (replicate 32 0 ++ (replicate 4 0 ++ (replicate 4 0 ++ replicate n 0)))
parts n =
    let e : 48 + n ≡ 8 + (32 + (4 + (4 + n))) = omega arith in
    rw (replicate-append-replicate {A = ℕ} 4 n 0, replicate-append-replicate {A = ℕ} 4 (4 + n) 0, replicate-append-replicate {A = ℕ} 32 (4 + (4 + n)) 0, replicate-append-replicate {A = ℕ} 8 (32 + (4 + (4 + n))) 0, e)

-- the first 8 bytes
front : ℕ → List ℕ
front starting = mark ++ (0 ∷ 1 ∷ 0 ∷ starting ∷ starting ∷ [])

module _ (overlay : List ℕ) (capacity starting : ℕ) (o : length overlay ≡ 32) where
  abbrev behind : List ℕ
  behind = replicate 4 0 ++ (replicate 4 0 ++ replicate (145 * capacity) 0)

  marked : (s : List ℕ) → length s ≡ 48 + 145 * capacity
      → placed (replicate (length s) 0) 0 mark ≡ mark ++ (replicate 5 0 ++ (replicate 32 0 ++ behind))
  unfolding over
  marked s h =
      rw (h, parts (145 * capacity))
      (placed_fits (replicate 8 0 ++ (replicate 32 0 ++ behind)) 0 mark (omega arith))

  pub fresh_written : (s a b c d : List ℕ) → length s ≡ 48 + 145 * capacity
      → a ≡ replicate (length s) 0
      → b ≡ placed a 0 mark
      → c ≡ placed (set (set (set b 4 1) 6 starting) 7 starting) 8 overlay
      → d ≡ placed c 40 (bytes_of 4 capacity)
      → d ≡ write (fresh_book overlay capacity starting)
  unfolding write laid bytes_of front
  fresh_written s a b c d h p q r t =
      let first : b ≡ mark ++ (replicate 5 0 ++ (replicate 32 0 ++ behind)) = q ∙ ap (λ (l : List ℕ). placed l 0 mark) p ∙ marked s h in
      let second : c ≡ front starting ++ (overlay ++ behind) =
      r ∙ ap (λ (l : List ℕ). placed (set (set (set l 4 1) 6 starting) 7 starting) 8 overlay) first
      ∙ placed_fits (front starting ++ (replicate 32 0 ++ behind)) 8 overlay (omega arith)
      ∙ over_middle (front starting) (replicate 32 0) overlay behind 8 refl (sym o) in
      let width : length (bytes_of 4 capacity) ≡ 4 = length_bytes_of 4 capacity in
      let upto : length (front starting ++ overlay) ≡ 40 = omega arith in
      let room : 40 + length (bytes_of 4 capacity) ≤ length (front starting ++ (overlay ++ behind)) = simp length-append (omega arith) in
      let third : d ≡ front starting ++ (overlay ++ (bytes_of 4 capacity ++ (replicate 4 0 ++ replicate (145 * capacity) 0))) =
      t ∙ ap (λ (l : List ℕ). placed l 40 (bytes_of 4 capacity)) second
      ∙ placed_fits (front starting ++ (overlay ++ behind)) 40 (bytes_of 4 capacity) room
      ∙ over_middle (front starting ++ overlay) (replicate 4 0) (bytes_of 4 capacity) (replicate 4 0 ++ replicate (145 * capacity) 0) 40 upto (sym width) in
      third ∙ rw (sub-zero capacity)
