-- What the functions inside this crate promise one another: a cell taken, the walk along the shelf. No promise of a public function speaks
-- of these.
use Rattle.std.specs.Prelude.{Result, Ok, Err, cond, List, ◌≡◌, ℕ, ◌+◌, ◌≤◌, ltb, length, take}
use Rattle.octets.specs.Pieces.{pieces}
use Rattle.shelf.specs.Cell.{pair_of, size_in, cell_in}
use Rattle.sample.specs.Sample.{entered}
use Rattle.draw.specs.declared.answer.DrawError.{DrawError}
use Rattle.draw.specs.declared.answer.DrawError.TheVariants.{TooFew}
use Rattle.draw.specs.declared.smallest.Smallest.{Smallest}
use Rattle.draw.specs.Answer.{Done, and_then}
use Rattle.draw.specs.Shelf.{shelf_answer}
use Rattle.draw.specs.Draw.{addresses_in, sixteen_drawn}

-- what is answered, whatever is handed back beside it
abbrev pub told : {T E : Type 0} → Result T E → Result (Unit {0}) E
told (Ok value) = Ok tt
told (Err error) = Err error

-- the pairs that are held, one after another
abbrev pub pairs_in : Smallest → List (List ℕ)
pairs_in smallest = pieces 64 smallest.held smallest.pairs

-- how long a sound cell at the head of `rest` is, and what its pair leaves among the smallest
pub record Taken (rest anchor : List ℕ) (before after : Smallest) (size : ℕ) : Type 0 where
  pub measured : size ≡ 10 + size_in rest
  pub there : size ≤ length rest
  pub kept : pairs_in after ≡ take 16 (entered (pair_of anchor (cell_in rest)) (pairs_in before))

-- what is answered past the book and the lengths
unfoldable pub walk_answer : List ℕ → List ℕ → List ℕ → Result (Unit {0}) DrawError
walk_answer book shelf anchor =
    and_then (shelf_answer 0 (addresses_in book) shelf) (cond (ltb (length (sixteen_drawn book shelf anchor)) 16) (Err TooFew) Done)
