-- A stamp, 113 bytes: batch id (32), bucket (4), index (4), time (8), signature (65).
use Rattle.std.specs.Prelude.{◌≡◌, List, ℕ, ◌-◌, ◌^◌, length, take, drop}
use Rattle.octets.specs.Bytes.{Bytes}
use Rattle.octets.specs.Number.{big_at}

abbrev pub stamp_length : ℕ
stamp_length = 113

abbrev pub batch_in : List ℕ → List ℕ
batch_in stamp = take 32 stamp

abbrev pub bucket_in : List ℕ → ℕ
bucket_in stamp = big_at 4 stamp 32

abbrev pub index_in : List ℕ → ℕ
index_in stamp = big_at 4 stamp 36

abbrev pub time_in : List ℕ → ℕ
time_in stamp = big_at 8 stamp 40

abbrev pub signature_in : List ℕ → List ℕ
signature_in stamp = take 65 (drop 48 stamp)

-- batch id, bucket, index
abbrev pub slot_in : List ℕ → List ℕ
slot_in stamp = take 40 stamp

-- the first 16 bits of a chunk's address
abbrev pub bucket_of : List ℕ → ℕ
bucket_of address = big_at 2 address 0

-- a stamp in its address's bucket
pub record Bucketed (address stamp : List ℕ) : Type 0 where
  pub is_bytes : Bytes address
  pub address_whole : length address ≡ 32
  pub stamp_whole : length stamp ≡ stamp_length
  pub own_bucket : bucket_in stamp ≡ bucket_of address

-- how many slots each bucket has in a batch of this depth
unfoldable pub slots_of : ℕ → ℕ
slots_of depth = 2 ^ (depth - 16)
