-- Document 01's settled examples of a seventeenth slot, and the book of its listing, on bytes: "Capacity 16, starting depth 0, overlay
-- zero". A field a fact, in its words and order.
use Rattle.std.specs.Prelude.{◌≡◌, List, [], ◌∷◌, ◌++◌, ℕ, zero, suc, replicate}
use Rattle.octets.specs.Number.{bytes_of}
use Rattle.postage.specs.Stamp.{bucket_of}
use Rattle.book.specs.Layout.{state_in, depth_in, count_in}
use Rattle.histories.specs.Histories.{Offer, after, answer, heard, opened}
use Rattle.listing.specs.Sheet.{example}
use Rattle.settled.specs.Settled as Settled
use Rattle.settled.specs.Settled.{owner}

-- the owner's batch, with a depth that gives every bucket 32 slots
unfoldable pub batches : List ℕ
batches = replicate 32 0x11 ++ (owner ++ (21 ∷ []))

-- an address with this first byte, its own for each number; all those of one first byte have one bucket
unfoldable pub address : ℕ → ℕ → List ℕ
address first number = first ∷ 0 ∷ number ∷ replicate 29 0

-- that batch's stamp for the address's bucket, the number its index, at time 1, with a signature of zeros
unfoldable pub stamp : ℕ → ℕ → List ℕ
stamp first number = replicate 32 0x11 ++ (bytes_of 4 (bucket_of (address first number)) ++ (bytes_of 4 number ++ (bytes_of 8 1 ++ replicate 65 0)))

-- the slot of that number, offered by the owner
unfoldable pub slot_at : ℕ → ℕ → Offer
slot_at first number = record { address = address first number; stamp = stamp first number; account = owner }

-- n slots with this first byte, numbered from `number` on
unfoldable pub slots : ℕ → ℕ → ℕ → List Offer
slots zero first number = []
slots (suc n) first number = slot_at first number ∷ slots n first (suc number)

-- no number occurs twice among sixteen, so that they are sixteen slots, and 16 is left for a seventeenth
unfoldable pub nine_and_seven : List Offer
nine_and_seven = slots 9 0x80 0 ++ slots 7 0x40 9

unfoldable pub eight_of_each : List Offer
eight_of_each = slots 8 0x80 0 ++ slots 8 0x40 8

unfoldable pub in_bucket0 : List Offer
in_bucket0 = slots 16 0x00 0

abbrev pub seventeenth : ℕ → Offer
seventeenth first = slot_at first 16

unfoldable pub fresh : List ℕ
fresh = opened (replicate 32 0) 16 0

-- the book that heard these, from a fresh one on
abbrev pub book_of : List Offer → List ℕ
book_of s = heard batches fresh s

-- the numbers that a book hands back, one after another
unfoldable pub answers : List ℕ → List Offer → List ℕ
answers book [] = []
answers book (o ∷ s) = answer batches book o ∷ answers (after batches book o) s

-- the listing's two offers: address bytes x y and zeros, in the batch of depth 17, with a signature of zeros
abbrev listed : ℕ → ℕ → ℕ → ℕ → Offer
listed x y index time =
    record {
      address = x ∷ y ∷ replicate 30 0;
      stamp = replicate 32 0x11 ++ (0 ∷ 0 ∷ x ∷ y ∷ [] ++ (bytes_of 4 index ++ (bytes_of 8 time ++ replicate 65 0)));
      account = owner;
    }

pub record SettledBooks : Type 0 where
  -- Sixteen slots with first byte 0x80 (nine) and 0x40 (seven): all are kept.
  pub nine_and_seven_kept : answers fresh nine_and_seven ≡ replicate 16 0
  pub nine_and_seven_count : count_in (book_of nine_and_seven) ≡ 16
  -- A seventeenth at 0x40 gives 0, depth 1, count 8.
  pub at_40_gives : answer batches (book_of nine_and_seven) (seventeenth 0x40) ≡ 0
  pub at_40_depth : depth_in (after batches (book_of nine_and_seven) (seventeenth 0x40)) ≡ 1
  pub at_40_count : count_in (after batches (book_of nine_and_seven) (seventeenth 0x40)) ≡ 8
  -- With eight of each and a seventeenth at 0x80: 2, depth 1, count 8.
  pub eight_of_each_kept : answers fresh eight_of_each ≡ replicate 16 0
  pub eight_of_each_count : count_in (book_of eight_of_each) ≡ 16
  pub at_80_gives : answer batches (book_of eight_of_each) (seventeenth 0x80) ≡ 2
  pub at_80_depth : depth_in (after batches (book_of eight_of_each) (seventeenth 0x80)) ≡ 1
  pub at_80_count : count_in (after batches (book_of eight_of_each) (seventeenth 0x80)) ≡ 8
  -- Seventeen slots in bucket 0: the last gives 3, and the book is overfull.
  pub bucket_0_kept : answers fresh in_bucket0 ≡ replicate 16 0
  pub bucket_0_count : count_in (book_of in_bucket0) ≡ 16
  pub last_gives : answer batches (book_of in_bucket0) (seventeenth 0x00) ≡ 3
  pub last_overfull : state_in (after batches (book_of in_bucket0) (seventeenth 0x00)) ≡ 1
  -- Offered address 80 00 .. 00, index 0, time 100, then address 12 34 00 .. 00, index 1, time 7: the book whose listing is printed.
  pub listed_book : heard Settled.batches fresh (listed 0x80 0x00 0 100 ∷ listed 0x12 0x34 1 7 ∷ []) ≡ example
