-- What a reader looks for in batches, readable alone.
use mathlib.Core.Path.{◌≡◌}
use mathlib.Core.Bool.{true}
use mathlib.Core.Logic.{◌↔◌}
use mathlib.Core.List.{List}
use Prim.Native.Nat.{ℕ}
use Rattle.batches.specs.Batch.{WellListed, well_listed}
use Rattle.batches.proofs.Listed.{well_listed_sound, well_listed_complete}

-- the test that the code makes is the sentence: whole records, each depth 17 to 40, each earlier id below each later one
pub test_is_sentence : (list : List ℕ) → (well_listed list ≡ true) ↔ WellListed list
test_is_sentence list = (well_listed_sound list, well_listed_complete list)
