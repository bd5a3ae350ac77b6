-- That books and hashes agree, a sentence each, over what the contracts of `open`, `offer` and `draw` say of any input. proofs/Theorems.antt
-- proves each under the same name in small letters.
use Rattle.std.specs.Prelude.{◌≡◌, ◌⊎◌, ℕ, ◌+◌, ◌*◌, ◌≤◌, length}
use mathlib.Core.List.{List, [], ◌++◌, map, Memᴰ}
use Rattle.answers.specs.Number.{digest_or_zeros}
use Rattle.octets.specs.Bytes.{Bytes}
use Rattle.keccak.specs.Collision.{Collision}
use Rattle.merkle.specs.Tree.{address_of}
use Rattle.settling.specs.Meaning.{Each}
use Rattle.records.specs.Record.{address_in}
use Rattle.book.specs.Layout.{records_in}
use Rattle.opening.specs.Open.{open_answer, open_bytes, open_number}
use Rattle.histories.specs.Histories.{Offer, ByteOffer, heard}
use Rattle.draw.specs.Answer.{draw_number}
use Rattle.shelf.specs.Cell.{Cell, own_address, pair_of}
use Rattle.sample.specs.Sample.{SixteenSmallest, written, sample_span}
use Rattle.draw.specs.Draw.{cells_drawn, pairs_drawn, sixteen_drawn, drawn, sample_after, draw_hashed}

-- ---- two books

-- What became of a fresh book: `open` answered 0 in some buffer, whatever stood there, and the book then heard these offers, one after
-- another, each through what the contract of `offer` leaves, refused ones too.
pub record Became (overlay : List ℕ) (capacity starting : ℕ) (batches : List ℕ) (s : List Offer) (book : List ℕ) : Type 0 where
  pub buffer : List ℕ
  pub opened : open_number (open_answer buffer overlay capacity starting) ≡ 0
  pub end : book ≡ heard batches (open_bytes buffer overlay capacity starting) s

-- every offer made to either was made to both: any order, any repeats
pub record SameOffers (s t : List Offer) : Type 0 where
  pub there : (o : Offer) → Memᴰ o s → Memᴰ o t
  pub back : (o : Offer) → Memᴰ o t → Memᴰ o s

-- "Two fresh books with the same overlay, capacity, starting depth and batch list: if every offer made to either was made to both, in any
-- order, any repeats, refused ones among them, the books end byte for byte equal." The overlay and the offers' addresses and stamps are
-- lists of bytes: a lent slice of u8 holds no other, so each call gives that for its own arguments.
abbrev pub SameOffersSameBytes : Type 0
SameOffersSameBytes =
    (overlay : List ℕ) (capacity starting : ℕ) (batches : List ℕ) (s t : List Offer) (book book' : List ℕ) → Bytes overlay → Each ByteOffer s
    → Became overlay capacity starting batches s book → Became overlay capacity starting batches t book' → SameOffers s t
    → book ≡ book'

-- These hypotheses are met: within document 01's bounds every buffer of the right length becomes such a book, whatever it hears ..
abbrev pub EveryOpening : Type 0
EveryOpening =
    (overlay : List ℕ) (capacity starting : ℕ) (batches : List ℕ) (s : List Offer) (buffer : List ℕ) → 16 ≤ capacity → capacity ≤ 65536 → starting ≤ 16
    → length overlay ≡ 32 → length buffer ≡ 48 + 145 * capacity
    → Became overlay capacity starting batches s (heard batches (open_bytes buffer overlay capacity starting) s)

-- .. and offers in another order, some of them twice, are the same offers: t, s and t again, and s and t.
abbrev pub OrderAndRepeats : Type 0
OrderAndRepeats = (s t : List Offer) → SameOffers (s ++ t) (t ++ (s ++ t))

-- ---- two draws

-- a draw got a hash: it answered 0
abbrev pub GotHash : (book shelf anchor sample : List ℕ) → Type 0
GotHash book shelf anchor sample = draw_number (drawn book shelf anchor sample) ≡ 0

-- "If both then draw with one anchor and both get a hash, the hashes are equal, or two different messages with one digest are exhibited
-- among those hashed": those that the two draws hashed. The shelves may be any two.
abbrev pub SameOffersSameHash : Type 0
SameOffersSameHash =
    (overlay : List ℕ) (capacity starting : ℕ) (batches : List ℕ) (s t : List Offer) (book book' : List ℕ) → Bytes overlay → Each ByteOffer s
    → Became overlay capacity starting batches s book → Became overlay capacity starting batches t book' → SameOffers s t
    → (shelf shelf' anchor sample sample' : List ℕ) → GotHash book shelf anchor sample → GotHash book' shelf' anchor sample'
    → (digest_or_zeros (drawn book shelf anchor sample) ≡ digest_or_zeros (drawn book' shelf' anchor sample'))
    ⊎ Collision (draw_hashed book shelf anchor ++ draw_hashed book' shelf' anchor)

-- "Any two equal drawn hashes stand for the same sixteen pairs in the same order, or such messages are exhibited": any books, shelves and
-- anchors; the 1,024 bytes that the two draws left are the same too.
abbrev pub SameHashSamePairs : Type 0
SameHashSamePairs =
    (book shelf anchor sample book' shelf' anchor' sample' : List ℕ) → GotHash book shelf anchor sample → GotHash book' shelf' anchor' sample'
    → digest_or_zeros (drawn book shelf anchor sample) ≡ digest_or_zeros (drawn book' shelf' anchor' sample')
    → ((sixteen_drawn book shelf anchor ≡ sixteen_drawn book' shelf' anchor') × (sample_after book shelf anchor sample ≡ sample_after book' shelf' anchor' sample'))
    ⊎ Collision (draw_hashed book shelf anchor ++ draw_hashed book' shelf' anchor')

-- ---- what a hash stands for

-- a pair (anchored address, address) of one of the book's records: of the chunk on the shelf that hashes to the record's address
pub record OfRecord (book shelf anchor pair : List ℕ) : Type 0 where
  pub held : List ℕ
  pub chunk : Cell
  pub in_book : Memᴰ held (records_in book)
  pub on_shelf : Memᴰ chunk (cells_drawn book shelf)
  pub hashes : own_address chunk ≡ address_in held
  pub is_pair : pair ≡ pair_of anchor chunk

-- Document 01's sample, in what a draw leaves in the buffer and hands back.
pub record Sampled (book shelf anchor left hash : List ℕ) : Type 0 where
  -- "Each must hash to its record's address": the shelf is the book's chunks, record by record
  pub shelved : map own_address (cells_drawn book shelf) ≡ map address_in (records_in book)
  -- sixteen, strictly ascending and so different, and every pair not taken larger than all taken
  pub smallest : SixteenSmallest (pairs_drawn book shelf anchor) (sixteen_drawn book shelf anchor)
  pub of_records : (pair : List ℕ) → Memᴰ pair (sixteen_drawn book shelf anchor) → OfRecord book shelf anchor pair
  -- "They are written as address, anchored address, 1,024 bytes in all"
  pub bytes : left ≡ written (sixteen_drawn book shelf anchor)
  pub size : length left ≡ 1024
  -- "The commitment is the address of those bytes under the span 00 04 00 00 00 00 00 00."
  pub commitment : hash ≡ address_of [] sample_span left

-- Where a draw gets a hash, the sample is what document 01 says, whatever the book, the shelf, the anchor and the buffer.
abbrev pub TheSample : Type 0
TheSample =
    (book shelf anchor sample : List ℕ) → GotHash book shelf anchor sample
    → Sampled book shelf anchor (sample_after book shelf anchor sample) (digest_or_zeros (drawn book shelf anchor sample))

-- ---- together

pub record Demand3 : Type 0 where
  pub same_bytes : SameOffersSameBytes
  pub same_hash : SameOffersSameHash
  pub same_pairs : SameHashSamePairs
  pub sample : TheSample
