-- What a book is made over: the records of 145 bytes, their slots and rank, the overlay and the capacity.
use Rattle.std.specs.Prelude.{List, ℕ}
use Rattle.settling.specs.Rank.{Shape}
use Rattle.records.specs.Record.{slot, near_of}
use Rattle.records.specs.Rank.{beats}
use Rattle.records.specs.Order.{ranked}
use Rattle.book.specs.Layout.{overlay_in, capacity_in}

abbrev pub shape : List ℕ → ℕ → Shape (List ℕ)
shape overlay capacity = record { slot = slot; beats = beats; near = near_of overlay; capacity = capacity; top = 16; rank = ranked }

-- the shape that a book's header fixes
abbrev pub shape_in : List ℕ → Shape (List ℕ)
shape_in s = shape (overlay_in s) (capacity_in s)
