-- Bytes and values: which values a book can have, and how well-formed bytes and such values stand for each other.
use Rattle.std.specs.Prelude.{◌≡◌, List, ℕ, ◌≤◌, length}
use Rattle.octets.specs.Bytes.{Bytes}
use Rattle.nearness.specs.Bits.{shared_bits}
use Rattle.settling.specs.Meaning.{Each}
use Rattle.records.specs.Record.{address_in, Fitting}
use Rattle.book.specs.Layout.{count_in, Rising, WellFormed}
use Rattle.book.specs.Book.{Book, depth_of, held_by, read, write}

-- document 01's bounds, of a value
pub record Lawful (b : Book) : Type 0 where
  pub size : length b.overlay ≡ 32
  pub bytes : Bytes b.overlay
  pub least : 16 ≤ b.capacity
  pub most : b.capacity ≤ 65536
  pub count : length (held_by b.state) ≤ b.capacity
  pub started : b.starting ≤ depth_of b.state
  pub depth : depth_of b.state ≤ 16
  pub rising : Rising (held_by b.state)
  pub fitting : Each Fitting (held_by b.state)
  pub near : Each (λ r. depth_of b.state ≤ shared_bits (address_in r) b.overlay) (held_by b.state)

-- What is proved; proofs/Roundtrip.antt proves each under the same name in small letters.

-- a well-formed book is what its own reading writes
abbrev pub WriteRead : Type 0
WriteRead = (s : List ℕ) → Bytes s → WellFormed s → write (read s) ≡ s

-- a lawful value is what is read of its writing
abbrev pub ReadWrite : Type 0
ReadWrite = (b : Book) → Lawful b → read (write b) ≡ b

-- what is read of a well-formed book is lawful
abbrev pub ReadLawful : Type 0
ReadLawful = (s : List ℕ) → Bytes s → WellFormed s → Lawful (read s)

-- what is written of a lawful value is a well-formed book, in bytes
abbrev pub WriteWellFormed : Type 0
WriteWellFormed = (b : Book) → Lawful b → WellFormed (write b) × Bytes (write b)

-- the header's count is the number of records
abbrev pub CountRecords : Type 0
CountRecords = (s : List ℕ) → WellFormed s → count_in s ≡ length (held_by (read s).state)
