-- The depth that a book rises to: "the least depth at which the remaining records, the new one counted, fit".
use Rattle.std.specs.Prelude.{cond, ◌&&◌, Option, Some, None, List, ◌∷◌, ℕ, suc, ◌-◌, eqb, leb, length}
use Rattle.settling.specs.Tally.{least_fit}
use Rattle.book.specs.Layout.{depth_in, records_in}
use Rattle.book.specs.Shape.{shape_in}
use Rattle.filing.specs.Whole.{whole}

-- above the depth of the book s, for its records and g; 17, one above the greatest depth, where s does not hold what its header counts or
-- g is no record
unfoldable pub least_in : List ℕ → List ℕ → ℕ
least_in s g = cond (eqb (length g) 145 && whole s) (least_fit (shape_in s) (16 - depth_in s) (suc (depth_in s)) (g ∷ records_in s)) 17

-- a depth that a book can rise to; past 16 there is none
abbrev pub rising : ℕ → Option ℕ
rising n = cond (leb n 16) (Some n) None
