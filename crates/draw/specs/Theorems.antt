-- What is proved of the draw, a sentence each. proofs/Theorems.antt proves each under the same name in small letters.
use Rattle.std.specs.Prelude.{◌≡◌, ◌⊎◌, ◌↔◌, ℕ, zero, suc, ◌+◌, ◌≤◌, ◌<◌, length, get_or}
use mathlib.Core.List.{List, [], ◌∷◌, ◌++◌, map, Memᴰ}
use Rattle.octets.specs.Bytes.{Bytes}
use Rattle.keccak.specs.Collision.{Collision}
use Rattle.book.specs.Layout.{state_in, count_in, WellFormed}
use Rattle.answers.specs.Number.{digest_or_zeros}
use Rattle.draw.specs.Answer.{Done, draw_number, draw_place}
use Rattle.shelf.specs.Cell.{own_address, size_in, cell_in}
use Rattle.draw.specs.Shelf.{behind}
use Rattle.sample.specs.Sample.{gathered, sixteen, Ascending, SixteenSmallest}
use Rattle.draw.specs.Draw.{addresses_in, cells_drawn, pairs_drawn, sixteen_drawn, draw_answer, drawn, sample_after, draw_hashed}

-- ---- each answer, and when it is given

-- what is left of the shelf where the cell of place i begins
unfoldable pub shelf_from : ℕ → List ℕ → List ℕ
shelf_from zero shelf = shelf
shelf_from (suc i) shelf = behind (shelf_from i shelf)

-- the cell at the head of `rest` is all there, with at most 4,096 bytes of data, and hashes to this address
pub record SoundCell (address rest : List ℕ) : Type 0 where
  pub headed : 10 ≤ length rest
  pub bounded : size_in rest ≤ 4096
  pub whole : 10 + size_in rest ≤ length rest
  pub own : own_address (cell_in rest) ≡ address

-- the cells of all places below i are sound
abbrev pub SoundBefore : List (List ℕ) → List ℕ → ℕ → Type 0
SoundBefore addresses shelf i = (j : ℕ) → j < i → SoundCell (get_or addresses j []) (shelf_from j shelf)

-- "23, 12, 24 .. 12 is given once a cell's length is read, before its data is sought": the shelf ends before the length is read, or
-- inside the data
pub data WrongCell (address rest : List ℕ) : ℕ → Type 0 where
  no_length : length rest < 10 → WrongCell address rest 23
  too_long : 10 ≤ length rest → 4096 < size_in rest → WrongCell address rest 12
  cut_short : 10 ≤ length rest → size_in rest ≤ 4096 → length rest < 10 + size_in rest → WrongCell address rest 23
  mismatch : 10 ≤ length rest → size_in rest ≤ 4096 → 10 + size_in rest ≤ length rest → (own_address (cell_in rest) ≡ address → ⊥) → WrongCell address rest 24

-- none stands in the list twice
abbrev pub Different : List (List ℕ) → Type 0
Different [] = Unit {0}
Different (p ∷ l) = (Memᴰ p l → ⊥) × Different l

pub record SixteenAmong (pairs : List (List ℕ)) : Type 0 where
  pub chosen : List (List ℕ)
  pub number : length chosen ≡ 16
  pub different : Different chosen
  pub among : (p : List ℕ) → Memᴰ p chosen → Memᴰ p pairs

-- nothing is refused before the shelf is read
pub record Ready (book anchor sample : List ℕ) : Type 0 where
  pub formed : WellFormed book
  pub good : state_in book ≡ 0
  pub anchored : length anchor ≡ 32
  pub output : length sample ≡ 1024

-- every record's cell is sound
pub record AllSound (book shelf anchor sample : List ℕ) : Type 0 where
  pub ready : Ready book anchor sample
  pub sound : SoundBefore (addresses_in book) shelf (count_in book)

-- document 01's table for the draw: each number, the place beside it, and when they are given
pub data DrawTable (book shelf anchor sample : List ℕ) : ℕ → ℕ → Type 0 where
  not_well_formed : (WellFormed book → ⊥) → DrawTable book shelf anchor sample 13 0
  already_overfull : WellFormed book → state_in book ≡ 1 → DrawTable book shelf anchor sample 14 0
  wrong_length :
      WellFormed book → state_in book ≡ 0 → (length anchor ≡ 32 → ⊥) ⊎ (length sample ≡ 1024 → ⊥) → DrawTable book shelf anchor sample 10 0
  wrong_cell :
      (n i : ℕ) → Ready book anchor sample → i < count_in book → SoundBefore (addresses_in book) shelf i
      → WrongCell (get_or (addresses_in book) i []) (shelf_from i shelf) n → DrawTable book shelf anchor sample n i
  bytes_left : AllSound book shelf anchor sample → 0 < length (shelf_from (count_in book) shelf) → DrawTable book shelf anchor sample 25 0
  too_few :
      AllSound book shelf anchor sample → length (shelf_from (count_in book) shelf) ≡ 0 → (SixteenAmong (pairs_drawn book shelf anchor) → ⊥)
      → DrawTable book shelf anchor sample 26 0
  done :
      AllSound book shelf anchor sample → length (shelf_from (count_in book) shelf) ≡ 0 → SixteenAmong (pairs_drawn book shelf anchor)
      → DrawTable book shelf anchor sample 0 0

-- A draw answers with a number and a place exactly when the table gives them.
abbrev pub DrawAnswers : Type 0
DrawAnswers =
    (book shelf anchor sample : List ℕ) (n p : ℕ) → Bytes book
    → ((draw_number (draw_answer book shelf anchor sample) ≡ n) × (draw_place (draw_answer book shelf anchor sample) ≡ p)) ↔ DrawTable book shelf anchor sample n p

-- ---- the sample is what document 01 says

-- Where a hash is drawn, the chunks on the shelf are the book's, record by record.
abbrev pub EachHashesToItsRecord : Type 0
EachHashesToItsRecord =
    (book shelf anchor sample : List ℕ) → draw_answer book shelf anchor sample ≡ Done → map own_address (cells_drawn book shelf) ≡ addresses_in book

-- Where a hash is drawn, the sample is sixteen different pairs, ascending, each of a record's chunk, and every pair not taken is larger
-- than all taken.
abbrev pub TheSixteenSmallest : Type 0
TheSixteenSmallest =
    (book shelf anchor sample : List ℕ) → draw_answer book shelf anchor sample ≡ Done
    → SixteenSmallest (pairs_drawn book shelf anchor) (sixteen_drawn book shelf anchor)

-- Those words leave no second choice, whatever the order of the pairs and however often one comes.
abbrev pub SixteenOnce : Type 0
SixteenOnce =
    (pairs others chosen picked : List (List ℕ)) → ((p : List ℕ) → Memᴰ p pairs ↔ Memᴰ p others)
    → SixteenSmallest pairs chosen → SixteenSmallest others picked → chosen ≡ picked

-- Each different pair counts once: those gathered ascend strictly, and are the pairs that there are.
abbrev pub EachDifferentPairOnce : Type 0
EachDifferentPairOnce =
    (pairs : List (List ℕ)) → Ascending (gathered [] pairs) × ((p : List ℕ) → Memᴰ p (gathered [] pairs) ↔ Memᴰ p pairs)

-- Neither the order of the pairs nor a repeat changes the sixteen, fewer of them too.
abbrev pub OrderDoesNotMatter : Type 0
OrderDoesNotMatter =
    (pairs others : List (List ℕ)) → ((p : List ℕ) → Memᴰ p pairs ↔ Memᴰ p others) → sixteen pairs ≡ sixteen others

-- ---- two draws

-- Two draws with one anchor, from books with the same record addresses and from any two shelves, give equal hashes, or two different
-- messages with one digest are among those that the two draws hashed.
abbrev pub OneAnchorOneHash : Type 0
OneAnchorOneHash =
    (book shelf sample book' shelf' sample' anchor : List ℕ) → addresses_in book ≡ addresses_in book'
    → draw_answer book shelf anchor sample ≡ Done → draw_answer book' shelf' anchor sample' ≡ Done
    → (digest_or_zeros (drawn book shelf anchor sample) ≡ digest_or_zeros (drawn book' shelf' anchor sample'))
    ⊎ Collision (draw_hashed book shelf anchor ++ draw_hashed book' shelf' anchor)

-- Two draws with equal hashes, from any books, shelves and anchors, took the same sixteen pairs in the same order, and left the same
-- 1,024 bytes, or two different messages with one digest are among those that the two draws hashed.
abbrev pub OneHashOneSample : Type 0
OneHashOneSample =
    (book shelf anchor sample book' shelf' anchor' sample' : List ℕ)
    → draw_answer book shelf anchor sample ≡ Done → draw_answer book' shelf' anchor' sample' ≡ Done
    → digest_or_zeros (drawn book shelf anchor sample) ≡ digest_or_zeros (drawn book' shelf' anchor' sample')
    → ((sixteen_drawn book shelf anchor ≡ sixteen_drawn book' shelf' anchor') × (sample_after book shelf anchor sample ≡ sample_after book' shelf' anchor' sample'))
    ⊎ Collision (draw_hashed book shelf anchor ++ draw_hashed book' shelf' anchor')
