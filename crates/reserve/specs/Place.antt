-- Where a slot stands among the records of a book.
use Rattle.std.specs.Prelude.{List, [], ℕ}
use Rattle.settling.proofs.Places.{Place}
use Rattle.book.specs.Shape.{shape_in}
use Rattle.book.specs.Layout.{records_in}

-- the records before place i have lower slots than k, those from i on do not
abbrev pub PlaceIn : List ℕ → ℕ → ℕ → Type 0
PlaceIn s k i = Place (shape_in s) [] (records_in s) k i
