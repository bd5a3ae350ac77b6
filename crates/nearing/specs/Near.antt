-- How near a record lies to a book's overlay.
use Rattle.std.specs.Prelude.{cond, ◌&&◌, List, ℕ, eqb, leb, length}
use Rattle.records.specs.Record.{slot, near_of}
use Rattle.book.specs.Layout.{overlay_in}

-- the bits, up to 16, that the record g shares with the overlay of the book s; 0 where s has no header or g is no record
unfoldable pub near_in : List ℕ → List ℕ → ℕ
near_in s g = cond (leb 48 (length s) && eqb (length g) 145) (near_of (overlay_in s) (slot g)) 0
