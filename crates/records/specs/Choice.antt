-- Of two records the one that ranks higher.
use Rattle.std.specs.Prelude.{cond, ◌&&◌, List, [], ℕ, eqb, length}
use Rattle.std.specs.declared.cmp.Ordering.{Ordering}
use Rattle.std.specs.declared.cmp.Ordering.TheVariants.{Less, Equal, Greater}
use Rattle.records.specs.Record.{slot}
use Rattle.records.specs.Rank.{beats}
use Rattle.records.specs.declared.rank.Choice.{Choice}
use Rattle.records.specs.declared.rank.Choice.TheVariants.{First, Second, Neither}

-- "Of two 145-byte records of one slot the library hands back the caller's record that ranks higher, the first if they are equal; for
-- other lengths or two slots, an empty part of the first."
unfoldable pub choice : List ℕ → List ℕ → Choice
choice a b =
    cond (eqb (length a) 145 && eqb (length b) 145 && eqb (slot a) (slot b))
    (cond (beats b a) Second First)
    Neither

-- the same, of records of one slot, by how they rank
abbrev pub preferred : Ordering → Choice
preferred Less = First
preferred Equal = First
preferred Greater = Second

abbrev pub chosen : Choice → List ℕ → List ℕ → List ℕ
chosen First a b = a
chosen Second a b = b
chosen Neither a b = []

-- the bytes handed back
unfoldable pub higher_of : List ℕ → List ℕ → List ℕ
higher_of a b = chosen (choice a b) a b

-- and whose they are: the empty part is the first's
abbrev pub owner : {P : Type 0} → Choice → P → P → P
owner First a b = a
owner Second a b = b
owner Neither a b = a

unfoldable pub place_of : {P : Type 0} → List ℕ → List ℕ → P → P → P
place_of a b first second = owner (choice a b) first second
