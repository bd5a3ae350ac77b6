-- Two books hear three offers in different orders, one of them twice. They answer differently on the way, and both end as the book that
-- holds the later stamp alone.
use Rattle.std.specs.Prelude.{◌≡◌, List, [], ◌∷◌, ◌++◌, ℕ, replicate}
use Rattle.settling.specs.Book.{good}
use Rattle.records.specs.Record.{record_of}
use Rattle.book.specs.Book.{write, in_state}
use Rattle.opening.specs.Open.{fresh_book}
use Rattle.histories.specs.Histories.{Offer, after, answer, opened}
use Rattle.agreement.specs.Theorems.{Became, SameOffers}

unfoldable pub overlay : List ℕ
overlay = replicate 32 0

-- one batch: id, owner, depth 17
unfoldable pub batches : List ℕ
batches = replicate 32 0x11 ++ (replicate 20 0x22 ++ (17 ∷ []))

unfoldable pub address : List ℕ
address = 0x80 ∷ replicate 31 0

-- that batch's slot of bucket 32,768 and index 0, at this time
unfoldable pub stamp_at : ℕ → List ℕ
stamp_at time = replicate 32 0x11 ++ (0 ∷ 0 ∷ 0x80 ∷ replicate 12 0 ++ (time ∷ replicate 65 0))

unfoldable pub offer_by : ℕ → ℕ → Offer
offer_by account time = record { address = address; stamp = stamp_at time; account = replicate 20 account }

-- the owner's two, and one by another account, which gives 19
abbrev pub late : Offer
late = offer_by 0x22 100

abbrev pub early : Offer
early = offer_by 0x22 7

abbrev pub stranger : Offer
stranger = offer_by 0x33 200

abbrev pub these : List Offer
these = late ∷ early ∷ stranger ∷ []

abbrev pub those : List Offer
those = stranger ∷ early ∷ late ∷ early ∷ []

-- the numbers handed back, one after another
unfoldable pub answers : List ℕ → List Offer → List ℕ
answers book [] = []
answers book (o ∷ s) = answer batches book o ∷ answers (after batches book o) s

abbrev pub late_alone : List ℕ
late_alone = write (in_state (fresh_book overlay 16 0) (good 0 (record_of address (stamp_at 100) ∷ [])))

abbrev pub Example : Type 0
Example =
    SameOffers these those
    × (answers (opened overlay 16 0) these ≡ 0 ∷ 22 ∷ 19 ∷ [])
    × (answers (opened overlay 16 0) those ≡ 19 ∷ 0 ∷ 0 ∷ 22 ∷ [])
    × ((book book' : List ℕ) → Became overlay 16 0 batches these book → Became overlay 16 0 batches those book' → (book ≡ late_alone) × (book' ≡ late_alone))
