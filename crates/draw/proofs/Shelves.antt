-- What a shelf holds where nothing is wrong with it, and two such shelves beside one book.
use mathlib.Core.Path.{◌≡◌, refl, sym, ◌∙◌}
use mathlib.Core.Logic.{◌⊎◌, inl}
use mathlib.Core.List.{List, [], ◌∷◌, map}
use Prim.Native.Nat.{ℕ, suc}
use lib.ListN.{length}
use Rattle.keccak.specs.Collision.{Collision}
use Rattle.merkle.proofs.Collide.{Among, among_left, among_right, ◌>>=◌}
use Rattle.std.specs.Prelude.{Result, Ok, Err}
use Rattle.shelf.specs.declared.cell.CellError.{CellError}
use Rattle.shelf.specs.Cell.{own_address, pair_of, cell_hashed, cell_in}
use Rattle.shelf.specs.Read.{cell_answer}
use Rattle.shelf.proofs.Pairs.{span_length, pair_same}
use Rattle.shelf.proofs.Cells.{Whole, cell_sound}
use Rattle.draw.specs.declared.answer.DrawError.{DrawError}
use Rattle.draw.specs.Answer.{Done, of_cell, and_then}
use Rattle.draw.specs.Shelf.{cells_hashed, behind, cells_on, shelf_answer}

-- ---- nothing refused

pub both_done : (a b : Result (Unit {0}) DrawError) → and_then a b ≡ Done → (a ≡ Done) × (b ≡ Done)
both_done (Ok value) b e = (refl, e)
both_done (Err error) b e = cc

-- a cell's answer is Done where nothing is wrong with it
told_sound : (place : ℕ) (a : Result (Unit {0}) CellError) → of_cell place a ≡ Done → a ≡ Ok tt
told_sound place (Ok value) e = refl
told_sound place (Err error) e = cc

pub cell_done : (place : ℕ) (address s : List ℕ) → of_cell place (cell_answer address s) ≡ Done → Whole address s
cell_done place address s e = cell_sound address s (told_sound place (cell_answer address s) e)

-- each hashes to its record's address
pub shelf_done : (place : ℕ) (addresses : List (List ℕ)) (s : List ℕ) → shelf_answer place addresses s ≡ Done
    → map own_address (cells_on (length addresses) s) ≡ addresses
unfolding shelf_answer cells_on
shelf_done place [] s e = refl
shelf_done place (a ∷ later) s e =
    let both = both_done (of_cell place (cell_answer a s)) (shelf_answer (suc place) later (behind s)) e in
    let here = (cell_done place a s both.0).1 in
    let rest = shelf_done (suc place) later (behind s) both.1 in
    λ i. here i ∷ rest i

-- ---- two shelves

-- beside one book, two shelves give the same pairs, or a collision
pub shelves_same : (anchor : List ℕ) (place : ℕ) (addresses : List (List ℕ)) (s t : List ℕ) (hashed : List (List ℕ))
    → shelf_answer place addresses s ≡ Done → shelf_answer place addresses t ≡ Done
    → Among (cells_hashed anchor (cells_on (length addresses) s)) hashed → Among (cells_hashed anchor (cells_on (length addresses) t)) hashed
    → (map (pair_of anchor) (cells_on (length addresses) s) ≡ map (pair_of anchor) (cells_on (length addresses) t)) ⊎ Collision hashed
unfolding shelf_answer cells_on cells_hashed
shelves_same anchor place [] s t hashed e f ws wt = inl refl
shelves_same anchor place (a ∷ later) s t hashed e f ws wt =
    let es = both_done (of_cell place (cell_answer a s)) (shelf_answer (suc place) later (behind s)) e in
    let et = both_done (of_cell place (cell_answer a t)) (shelf_answer (suc place) later (behind t)) f in
    let cs = cell_done place a s es.0 in
    let ct = cell_done place a t et.0 in
    do
      here ← pair_same anchor (cell_in s) (cell_in t) hashed (span_length s cs.0) (span_length t ct.0)
          (λ m h. ws m (among_left _ _ m h)) (λ m h. wt m (among_left _ _ m h)) (cs.1 ∙ sym ct.1)
      rest ← shelves_same anchor (suc place) later (behind s) (behind t) hashed es.1 et.1
          (λ m h. ws m (among_right (cell_hashed anchor (cell_in s)) _ m h)) (λ m h. wt m (among_right (cell_hashed anchor (cell_in t)) _ m h))
      inl (λ i. here i ∷ rest i)
