-- A record is its 145 bytes: batch id (32), bucket (4), index (4), time (8), address (32), signature (65). The slot is batch id, bucket
-- and index.
use Rattle.std.specs.Prelude.{List, ◌++◌, ℕ, ◌/◌, ◌^◌, ◌<◌, ◌≡◌, length, take, drop}
use Rattle.octets.specs.Bytes.{Bytes}
use Rattle.octets.specs.Number.{big, bytes_of}
use Rattle.nearness.specs.Bits.{shared_bits}

-- the slot as one big-endian number: byte order of slots is order of these
abbrev pub slot : List ℕ → ℕ
slot r = big (take 40 r)

abbrev pub bucket_in : List ℕ → ℕ
bucket_in r = big (take 4 (drop 32 r))

abbrev pub index_in : List ℕ → ℕ
index_in r = big (take 4 (drop 36 r))

abbrev pub time_in : List ℕ → List ℕ
time_in r = take 8 (drop 40 r)

abbrev pub address_in : List ℕ → List ℕ
address_in r = take 32 (drop 48 r)

abbrev pub signature_in : List ℕ → List ℕ
signature_in r = take 65 (drop 80 r)

-- the first 16 bits of an address
abbrev pub bucket_of : List ℕ → ℕ
bucket_of address = big (take 2 address)

-- The bits, up to 16, that slot k shares with the overlay: the slot's bucket stands in its bytes before the last four, and in a
-- well-formed record it is the address's first 16 bits.
unfoldable pub near_of : List ℕ → ℕ → ℕ
near_of overlay k = shared_bits (bytes_of 2 (k / 2 ^ 32)) (take 2 overlay)

-- the record of a chunk's address and its stamp, whose 113 bytes are batch id, bucket, index, time and signature
abbrev pub record_of : List ℕ → List ℕ → List ℕ
record_of address stamp = take 48 stamp ++ (address ++ drop 48 stamp)

-- what document 01 asks of each record of a book: its bucket agrees with its address, its index is below 2^24
pub record Fitting (r : List ℕ) : Type 0 where
  pub size : length r ≡ 145
  pub bytes : Bytes r
  pub bucket : bucket_in r ≡ bucket_of (address_in r)
  pub index : index_in r < 2 ^ 24
