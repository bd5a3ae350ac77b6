-- The test that computes says what document 01's list says: `tested` in proofs/Tested.antt.
use Rattle.std.specs.Prelude.{◌≡◌, true, ◌↔◌, List, ℕ}
use Rattle.octets.specs.Bytes.{Bytes}
use Rattle.book.specs.Layout.{WellFormed}
use Rattle.wellformed.specs.Check.{well_formed}

abbrev pub Tested : Type 0
Tested = (s : List ℕ) → Bytes s → (well_formed s ≡ true) ↔ WellFormed s
