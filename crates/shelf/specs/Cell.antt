-- A chunk on the shelf, "span (8), length (2), data", and its pair.
use Rattle.std.specs.Prelude.{List, [], ◌++◌, ℕ, take, drop}
use Rattle.octets.specs.Number.{big}
use Rattle.merkle.specs.Tree.{address_of, address_hashed}

pub record Cell : Type 0 where
  pub span : List ℕ
  pub content : List ℕ

-- the address that its record must have
unfoldable pub own_address : Cell → List ℕ
own_address cell = address_of [] cell.span cell.content

-- the pair (anchored address, address) as the joined 64 bytes
unfoldable pub pair_of : List ℕ → Cell → List ℕ
pair_of anchor cell = address_of anchor cell.span cell.content ++ own_address cell

-- the messages that these two hash
unfoldable pub cell_hashed : List ℕ → Cell → List (List ℕ)
cell_hashed anchor cell = address_hashed [] cell.span cell.content ++ address_hashed anchor cell.span cell.content

-- ---- where it stands: at the head of what is left of the shelf

abbrev pub size_in : List ℕ → ℕ
size_in s = big (take 2 (drop 8 s))

unfoldable pub cell_in : List ℕ → Cell
cell_in s = record { span = take 8 s; content = take (size_in s) (drop 10 s) }
