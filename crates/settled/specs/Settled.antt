-- The settled examples of document 01 that are proved from the definitions: a field an example, in its words and order.
use Rattle.std.specs.Prelude.{◌≡◌, List, [], ◌∷◌, ◌++◌, ℕ, length, replicate, Ok}
use Rattle.octets.specs.Number.{bytes_of}
use Rattle.keccak.specs.Hash.{block_count}
use Rattle.merkle.specs.Segment.{segment_count, segment_of}
use Rattle.nearness.specs.Near.{nearness_of}
use Rattle.postage.specs.Stamp.{bucket_of}
use Rattle.postage.specs.Rules.{stamp_number, checked}

-- 32 bytes, of which the first is x and the others are zero
abbrev pub from : ℕ → List ℕ
from x = x ∷ replicate 31 0

-- an address whose first bytes are 12 34
abbrev pub address : List ℕ
address = 0x12 ∷ 0x34 ∷ replicate 30 0

-- a list of one batch, of depth 17, and its owner
abbrev pub owner : List ℕ
owner = replicate 20 0x22

abbrev pub batches : List ℕ
batches = replicate 32 0x11 ++ (owner ++ (17 ∷ []))

-- a stamp of that batch for bucket 4660
abbrev pub stamp : ℕ → List ℕ
stamp index = replicate 32 0x11 ++ (bytes_of 4 4660 ++ (bytes_of 4 index ++ replicate 73 0))

-- Messages and data count by their length alone, so these examples speak of all of that length.
pub record Settled : Type 0 where
  -- Padding blocks: 0 bytes one, 135 one, 136 two.
  pub padding_of_0 : (m : List ℕ) → length m ≡ 0 → block_count m ≡ 1
  pub padding_of_135 : (m : List ℕ) → length m ≡ 135 → block_count m ≡ 1
  pub padding_of_136 : (m : List ℕ) → length m ≡ 136 → block_count m ≡ 2
  -- Segments: 0 bytes 0; 32 bytes 1; 33 bytes 2; 1,337 bytes 42, the last of 25 bytes.
  pub segments_of_0 : segment_count 0 ≡ 0
  pub segments_of_32 : segment_count 32 ≡ 1
  pub segments_of_33 : segment_count 33 ≡ 2
  pub segments_of_1337 : segment_count 1337 ≡ 42
  pub last_of_1337 : (bytes : List ℕ) → length bytes ≡ 1337 → length (segment_of bytes 41) ≡ 25
  -- Shared bits of first bytes 0x80 and 0x00: 0; 0x12 and 0x00: 3; equal numbers: 256.
  pub shared_80_00 : nearness_of (from 0x80) (from 0x00) ≡ Ok 0
  pub shared_12_00 : nearness_of (from 0x12) (from 0x00) ≡ Ok 3
  pub shared_equal : (x : List ℕ) → length x ≡ 32 → nearness_of x x ≡ Ok 256
  -- Address bytes 12 34: bucket 4660. Batch depth 17: index 1 allowed, 2 gives 18.
  pub bucket_12_34 : bucket_of address ≡ 4660
  pub index_1_allowed : stamp_number (checked batches address (stamp 1) owner) ≡ 0
  pub index_2_past : stamp_number (checked batches address (stamp 2) owner) ≡ 18
