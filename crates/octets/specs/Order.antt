-- The byte order of two strings.
use Rattle.std.specs.Prelude.{ℕ, cond, List, [], ◌∷◌, ltb}
use Rattle.std.specs.declared.cmp.Ordering.{Ordering}
use Rattle.std.specs.declared.cmp.Ordering.TheVariants.{Less, Equal, Greater}
use Rattle.std.specs.Ordering.{ordering_then}

-- how one number stands to another
abbrev pub number_order : ℕ → ℕ → Ordering
number_order x y = cond (ltb x y) Less (cond (ltb y x) Greater Equal)

-- the first byte that differs decides, and a string that ends first is the lesser
unfoldable pub byte_order : List ℕ → List ℕ → Ordering
byte_order [] [] = Equal
byte_order [] (y ∷ ys) = Less
byte_order (x ∷ xs) [] = Greater
byte_order (x ∷ xs) (y ∷ ys) = ordering_then (number_order x y) (byte_order xs ys)
