-- Lengths of a cell's parts and of its pair; two chunks of one address make one pair.
use mathlib.Core.Path.{◌≡◌, sym, ap₂, ◌∙◌}
use mathlib.Core.Logic.{◌⊎◌, inl}
use mathlib.Core.List.{List, [], ◌++◌}
use Prim.Native.Nat.{ℕ, ◌+◌, ◌≤◌}
use native.Mathlib.Omega.{arith}
use lib.ListN.{length, length-append}
use lib.Seq.{length-take-le}
use Rattle.keccak.specs.Collision.{Collision}
use Rattle.merkle.specs.Tree.{pad_to, hash, root, address_of}
use Rattle.merkle.proofs.Theorems.{address_length}
use Rattle.merkle.proofs.Roots.{chunk_same, address_is}
use Rattle.merkle.proofs.Collide.{Among, among_left, ◌>>=◌}
use Rattle.shelf.specs.Cell.{Cell, own_address, pair_of, cell_hashed, cell_in}

pub own_length : (cell : Cell) → length (own_address cell) ≡ 32
unfolding own_address
own_length cell = address_length [] cell.span cell.content

pub pair_length : (anchor : List ℕ) (cell : Cell) → length (pair_of anchor cell) ≡ 64
unfolding pair_of
pair_length anchor cell =
    length-append (address_of anchor cell.span cell.content) (own_address cell) ∙ ap₂ ◌+◌ (address_length anchor cell.span cell.content) (own_length cell)

pub span_length : (s : List ℕ) → 10 ≤ length s → length (cell_in s).span ≡ 8
unfolding cell_in
span_length s h = length-take-le 8 s (omega arith)

-- ---- two chunks of one address

padded_same : (prefix span chunk span' chunk' : List ℕ) → span ≡ span' → pad_to 4096 chunk ≡ pad_to 4096 chunk' → address_of prefix span chunk ≡ address_of prefix span' chunk'
padded_same prefix span chunk span' chunk' e f =
    address_is prefix span chunk ∙ ap₂ (λ (s p : List ℕ). hash prefix (s ++ root prefix 7 p)) e f ∙ sym (address_is prefix span' chunk')

pub pair_same : (anchor : List ℕ) (c d : Cell) (hashed : List (List ℕ)) → length c.span ≡ 8 → length d.span ≡ 8
    → Among (cell_hashed anchor c) hashed → Among (cell_hashed anchor d) hashed → own_address c ≡ own_address d
    → (pair_of anchor c ≡ pair_of anchor d) ⊎ Collision hashed
unfolding own_address pair_of cell_hashed
pair_same anchor c d hashed lc ld wc wd e = do
  same ← chunk_same [] c.span c.content d.span d.content hashed (lc ∙ sym ld) (λ m h. wc m (among_left _ _ m h)) (λ m h. wd m (among_left _ _ m h)) e
  inl (ap₂ (λ (x y : List ℕ). x ++ y) (padded_same anchor c.span c.content d.span d.content same.0 same.1) e)
