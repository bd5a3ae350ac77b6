-- The batch list: records one after another, each id (32), owner (20), depth (1).
use Rattle.std.specs.Prelude.{◌≡◌, Bool, true, cond, ◌&&◌, List, [], ◌∷◌, ℕ, ◌*◌, ◌/◌, ◌%◌, ◌≤◌, ◌<◌, eqb, leb, length, get_or, take, drop}
use Rattle.std.specs.declared.cmp.Ordering.TheVariants.{Less}
use Rattle.std.specs.Ordering.{is_lt, is_eq}
use Rattle.octets.specs.Order.{byte_order}
use Rattle.octets.specs.Pieces.{pieces}

-- the one place where a record's length stands
abbrev pub record_length : ℕ
record_length = 53

-- the record that starts at a byte of the list
abbrev pub record_from : List ℕ → ℕ → List ℕ
record_from list at = take record_length (drop at list)

-- a batch's fields, in its record
abbrev pub id_of : List ℕ → List ℕ
id_of batch = take 32 batch

abbrev pub owner_of : List ℕ → List ℕ
owner_of batch = take 20 (drop 32 batch)

abbrev pub depth_of : List ℕ → ℕ
depth_of batch = get_or batch 52 0

-- ---- a list that is well formed, as a sentence

-- how many whole records there are
abbrev pub count : List ℕ → ℕ
count list = length list / record_length

-- record i, from 0
unfoldable pub batch_at : List ℕ → ℕ → List ℕ
batch_at list i = record_from list (i * record_length)

-- what every record must hold
pub record Fit (batch : List ℕ) : Type 0 where
  pub least : 17 ≤ depth_of batch
  pub most : depth_of batch ≤ 40

-- a record as it should be
pub record Whole (batch : List ℕ) : Type 0 where
  pub all_there : length batch ≡ record_length
  pub is_fit : Fit batch

-- whole records, each fit, strictly ascending by id; the list may be empty
pub record WellListed (list : List ℕ) : Type 0 where
  pub whole : length list % record_length ≡ 0
  pub all_fit : (i : ℕ) → i < count list → Fit (batch_at list i)
  pub ascending : (i j : ℕ) → i < j → j < count list → byte_order (id_of (batch_at list i)) (id_of (batch_at list j)) ≡ Less

-- a record with this id is in the list
abbrev pub Listed : List ℕ → List ℕ → Type 0
Listed list id = (i : ℕ) × (i < count list) × (id_of (batch_at list i) ≡ id)

-- ---- the same as a test

-- the whole records of a list
unfoldable pub records : List ℕ → List (List ℕ)
records list = pieces record_length (count list) list

unfoldable pub fit : List ℕ → Bool
fit batch = leb 17 (depth_of batch) && leb (depth_of batch) 40

-- the batch's id is below the next one's
abbrev pub precedes : List ℕ → List ℕ → Bool
precedes batch next = is_lt (byte_order (id_of batch) (id_of next))

-- and below that of the first of those that follow
unfoldable pub below : List ℕ → List (List ℕ) → Bool
below batch [] = true
below batch (next ∷ rest) = precedes batch next

unfoldable pub ordered : List (List ℕ) → Bool
ordered [] = true
ordered (batch ∷ rest) = fit batch && (below batch rest && ordered rest)

unfoldable pub well_listed : List ℕ → Bool
well_listed list = eqb (length list % record_length) 0 && ordered (records list)

-- ---- looking a batch up

-- the first of the batches with this id; no bytes where there is none
unfoldable pub find : List ℕ → List (List ℕ) → List ℕ
find id [] = []
find id (batch ∷ rest) = cond (is_eq (byte_order (id_of batch) id)) batch (find id rest)
