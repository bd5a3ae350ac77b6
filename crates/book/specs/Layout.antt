-- Where things stand in a book's bytes: "Length exactly 48 + 145 x capacity. Header: mark "RSV" (3), version 1 (2), state (1; 0 good,
-- 1 overfull), starting depth (1), depth (1), overlay (32), capacity (4), count (4)", then the records.
use Rattle.std.specs.Prelude.{List, [], ◌∷◌, ◌++◌, ◌≡◌, ℕ, ◌+◌, ◌-◌, ◌*◌, ◌≤◌, ◌<◌, length, get_or, take, drop, replicate}
use Rattle.octets.specs.Number.{big}
use Rattle.octets.specs.Pieces.{pieces}
use Rattle.nearness.specs.Bits.{shared_bits}
use Rattle.settling.specs.Meaning.{Each}
use Rattle.records.specs.Record.{slot, address_in, Fitting}

-- "RSV"
abbrev pub mark : List ℕ
mark = 0x52 ∷ 0x53 ∷ 0x56 ∷ []

abbrev pub mark_in : List ℕ → List ℕ
mark_in s = take 3 s

abbrev pub version_in : List ℕ → ℕ
version_in s = big (take 2 (drop 3 s))

abbrev pub state_in : List ℕ → ℕ
state_in s = get_or s 5 0

abbrev pub starting_in : List ℕ → ℕ
starting_in s = get_or s 6 0

abbrev pub depth_in : List ℕ → ℕ
depth_in s = get_or s 7 0

abbrev pub overlay_in : List ℕ → List ℕ
overlay_in s = take 32 (drop 8 s)

abbrev pub capacity_in : List ℕ → ℕ
capacity_in s = big (take 4 (drop 40 s))

abbrev pub count_in : List ℕ → ℕ
count_in s = big (take 4 (drop 44 s))

-- as many as the header counts
abbrev pub records_in : List ℕ → List (List ℕ)
records_in s = pieces 145 (count_in s) (drop 48 s)

-- record i of a book, from 0; no bytes where there is none
unfoldable pub record_in : List ℕ → ℕ → List ℕ
record_in s i = get_or (records_in s) i []

-- records one behind the other
unfoldable pub laid : List (List ℕ) → List ℕ
laid [] = []
laid (r ∷ l) = r ++ laid l

-- each slot below the next one's
unfoldable pub Rising : List (List ℕ) → Type 0
Rising [] = Unit {0}
Rising (r ∷ []) = Unit {0}
Rising (r ∷ q ∷ l) = (slot r < slot q) × Rising (q ∷ l)

-- document 01's list, every bound
pub record WellFormed (s : List ℕ) : Type 0 where
  pub marked : mark_in s ≡ mark
  pub version : version_in s ≡ 1
  pub state : state_in s ≤ 1
  -- "Length exactly 48 + 145 x capacity." "Capacity 16 to 65,536, count at most capacity"
  pub size : length s ≡ 48 + 145 * capacity_in s
  pub least : 16 ≤ capacity_in s
  pub most : capacity_in s ≤ 65536
  pub count : count_in s ≤ capacity_in s
  -- "depths 0 to 16, starting depth not above depth"
  pub started : starting_in s ≤ depth_in s
  pub depth : depth_in s ≤ 16
  -- "An overfull book has depth 16 and count 0."
  pub burst : state_in s ≡ 1 → (depth_in s ≡ 16) × (count_in s ≡ 0)
  -- "strictly ascending by slot"
  pub rising : Rising (records_in s)
  -- "each bucket agrees with its address, each index is below 2^24"
  pub fitting : Each Fitting (records_in s)
  -- "each address shares at least depth bits with the overlay"
  pub near : Each (λ r. depth_in s ≤ shared_bits (address_in r) (overlay_in s)) (records_in s)
  -- "all bytes after the last record are zero"
  pub cleared : drop (48 + 145 * count_in s) s ≡ replicate (145 * (capacity_in s - count_in s)) 0
