-- What is proved of the book in bytes, a sentence each. proofs/Theorems.antt proves each under the same name in small letters.
use Rattle.std.specs.Prelude.{◌≡◌, ◌↔◌, ℕ, suc, ◌≤◌, ◌<◌, min, length}
use Rattle.std.proofs.Math.Option.{some}
use mathlib.Core.List.{List, Memᴰ}
use Rattle.octets.specs.Bytes.{Bytes}
use Rattle.nearness.specs.Bits.{shared_bits}
use Rattle.settling.specs.History.{valid, settled}
use Rattle.settling.specs.Meaning.{Each, Given, Settles}
use Rattle.records.specs.Record.{slot, record_of, near_of}
use Rattle.book.specs.Shape.{shape}
use Rattle.book.specs.Layout.{state_in, depth_in, overlay_in, capacity_in, count_in, records_in, WellFormed}
use Rattle.book.specs.Book.{held_by, read}
use Rattle.reserve.specs.Stamps.{stamp_answer}
use Rattle.reserve.specs.Offer.{shape_of}
use Rattle.histories.specs.Histories.{Offer, ByteOffer, Openable, after, answer, heard, passing, opened, settled_bytes}

-- ---- histories from a fresh book, offers of any bytes among them

-- A fresh book that heard any offers is, byte for byte, what those that pass settle to, taken together.
abbrev pub Histories : Type 0
Histories =
    (overlay : List ℕ) (capacity starting : ℕ) (batches : List ℕ) (s : List Offer) → Openable overlay capacity starting → Each ByteOffer s
    → heard batches (opened overlay capacity starting) s ≡ settled_bytes overlay capacity starting batches s

-- Its state read by members: of all that pass, the highest rank of each slot, at the least depth from the starting depth on at which they
-- fit; or overfull.
abbrev pub HistoriesByMembers : Type 0
HistoriesByMembers =
    (overlay : List ℕ) (capacity starting : ℕ) (batches : List ℕ) (s : List Offer) → Openable overlay capacity starting → Each ByteOffer s
    → Settles (shape overlay capacity) starting (valid (passing batches) s) (read (heard batches (opened overlay capacity starting) s)).state

-- Two fresh books of one overlay, capacity and starting depth, under one batch list, end byte for byte equal, if each offer that passes
-- to one of them is an offer to the other: any order, any repeats, any refused ones.
abbrev pub SameMembersSameBytes : Type 0
SameMembersSameBytes =
    (overlay : List ℕ) (capacity starting : ℕ) (batches : List ℕ) (s t : List Offer) → Openable overlay capacity starting → Each ByteOffer s → Each ByteOffer t
    → ((o : Offer) (r : List ℕ) → passing batches o ≡ some r → Memᴰ o s → Memᴰ o t)
    → ((o : Offer) (r : List ℕ) → passing batches o ≡ some r → Memᴰ o t → Memᴰ o s)
    → heard batches (opened overlay capacity starting) s ≡ heard batches (opened overlay capacity starting) t

-- The header's count is the number of records that the offers settle to.
abbrev pub CountIsRecords : Type 0
CountIsRecords =
    (overlay : List ℕ) (capacity starting : ℕ) (batches : List ℕ) (s : List Offer) → Openable overlay capacity starting → Each ByteOffer s
    → count_in (heard batches (opened overlay capacity starting) s) ≡ length (held_by (settled (shape overlay capacity) starting (valid (passing batches) s)))

-- Every book on the way is well formed, so that the sentences below hold of it.
abbrev pub AlwaysWellFormed : Type 0
AlwaysWellFormed =
    (overlay : List ℕ) (capacity starting : ℕ) (batches : List ℕ) (s : List Offer) → Openable overlay capacity starting → Each ByteOffer s
    → WellFormed (heard batches (opened overlay capacity starting) s)

-- ---- one offer to any bytes, also to a book that no history leads to

-- document 01's table: each number, and when it is given
pub data Table (batches book : List ℕ) (o : Offer) : ℕ → Type 0 where
  not_well_formed : (WellFormed book → ⊥) → Table batches book o 13
  already_overfull : WellFormed book → state_in book ≡ 1 → Table batches book o 14
  stamp_refused :
      (n : ℕ) → WellFormed book → state_in book ≡ 0 → stamp_answer batches o.address o.stamp o.account ≡ n → (n ≡ 0 → ⊥) → Table batches book o n
  settles :
      (n : ℕ) → WellFormed book → state_in book ≡ 0 → stamp_answer batches o.address o.stamp o.account ≡ 0
      → Given (shape_of (read book)) (read book).state (record_of o.address o.stamp) n → Table batches book o n

-- An offer hands back a number exactly when the table gives it.
abbrev pub Answers : Type 0
Answers = (batches book : List ℕ) (o : Offer) (n : ℕ) → Bytes book → ByteOffer o → (answer batches book o ≡ n) ↔ Table batches book o n

-- A number from 10 up changes nothing; 0, 2 and 3 change the book.
abbrev pub RefusedChangesNothing : Type 0
RefusedChangesNothing = (batches book : List ℕ) (o : Offer) → Bytes book → ByteOffer o → (10 ≤ answer batches book o) ↔ (after batches book o ≡ book)

-- 21 exactly when this very record is held, in a good book, and its stamp passes.
pub record VeryRecordHeld (batches book : List ℕ) (o : Offer) : Type 0 where
  pub formed : WellFormed book
  pub good : state_in book ≡ 0
  pub stamped : stamp_answer batches o.address o.stamp o.account ≡ 0
  pub held : Memᴰ (record_of o.address o.stamp) (records_in book)

abbrev pub VeryRecord : Type 0
VeryRecord = (batches book : List ℕ) (o : Offer) → Bytes book → ByteOffer o → (answer batches book o ≡ 21) ↔ VeryRecordHeld batches book o

-- The theory knows a record by its slot. How near a slot is, is how many bits the address shares with the overlay, up to 16, for every
-- record whose stamp passes: so 'inside' and 'outside', here and in the sentences above, speak of the address.
abbrev pub NearnessOfSlots : Type 0
NearnessOfSlots =
    (overlay batches : List ℕ) (o : Offer) → ByteOffer o → stamp_answer batches o.address o.stamp o.account ≡ 0
    → near_of overlay (slot (record_of o.address o.stamp)) ≡ min 16 (shared_bits o.address overlay)

-- 20 exactly when the address shares fewer bits with the overlay than the depth of a good book, and the stamp passes.
pub record BelowDepth (batches book : List ℕ) (o : Offer) : Type 0 where
  pub formed : WellFormed book
  pub good : state_in book ≡ 0
  pub stamped : stamp_answer batches o.address o.stamp o.account ≡ 0
  pub below : shared_bits o.address (overlay_in book) < depth_in book

abbrev pub OutsideTheDepth : Type 0
OutsideTheDepth = (batches book : List ℕ) (o : Offer) → Bytes book → ByteOffer o → (answer batches book o ≡ 20) ↔ BelowDepth batches book o

-- An overfull book stays as it is, byte for byte, whatever it hears.
abbrev pub OverfullForEver : Type 0
OverfullForEver = (batches book : List ℕ) (s : List Offer) → WellFormed book → state_in book ≡ 1 → heard batches book s ≡ book

-- Room is used, also room that a rise freed: in any good book with fewer records than its capacity, an offer that passes, inside the
-- depth and of a slot that none holds, is added at the same depth.
pub record Roomy (batches book : List ℕ) (o : Offer) : Type 0 where
  pub formed : WellFormed book
  pub good : state_in book ≡ 0
  pub stamped : stamp_answer batches o.address o.stamp o.account ≡ 0
  pub inside : depth_in book ≤ shared_bits o.address (overlay_in book)
  pub vacant : (r : List ℕ) → Memᴰ r (records_in book) → slot r ≡ slot (record_of o.address o.stamp) → ⊥
  pub room : count_in book < capacity_in book

pub record AddedTo (batches book : List ℕ) (o : Offer) : Type 0 where
  pub number : answer batches book o ≡ 0
  pub formed : WellFormed (after batches book o)
  pub depth : depth_in (after batches book o) ≡ depth_in book
  pub count : count_in (after batches book o) ≡ suc (count_in book)
  pub held : Memᴰ (record_of o.address o.stamp) (records_in (after batches book o))
  pub still : (r : List ℕ) → Memᴰ r (records_in book) → Memᴰ r (records_in (after batches book o))

abbrev pub RoomIsUsed : Type 0
RoomIsUsed = (batches book : List ℕ) (o : Offer) → Bytes book → ByteOffer o → Roomy batches book o → AddedTo batches book o
