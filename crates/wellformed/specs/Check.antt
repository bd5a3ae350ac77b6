-- Being well formed as a test that computes; `tested` in proofs/ shows that it says what Layout's list says.
use Rattle.std.specs.Prelude.{Bool, true, cond, ◌&&◌, ◌||◌, Result, Ok, Err, List, [], ◌∷◌, ℕ, ◌+◌, ◌*◌, ◌^◌, eqb, leb, ltb, length, drop}
use Rattle.std.specs.Ordering.{is_eq}
use Rattle.octets.specs.Order.{byte_order}
use Rattle.nearness.specs.Bits.{shared_bits}
use Rattle.answers.specs.Number.{done, answer_number}
use Rattle.wellformed.specs.declared.check.BookError.{BookError}
use Rattle.wellformed.specs.declared.check.BookError.TheVariants.{NotWellFormed}
use Rattle.records.specs.Record.{slot, bucket_in, index_in, address_in, bucket_of}
use Rattle.book.specs.Layout.{mark, mark_in, version_in, state_in, starting_in, depth_in, overlay_in, capacity_in, count_in, records_in}

-- mark and version
unfoldable pub labelled : List ℕ → Bool
labelled s = is_eq (byte_order (mark_in s) mark) && eqb (version_in s) 1

-- length, capacity and count
unfoldable pub sized : ℕ → ℕ → ℕ → Bool
sized size capacity count = leb 16 capacity && (leb capacity 65536 && (eqb size (48 + 145 * capacity) && leb count capacity))

-- state and depths; "An overfull book has depth 16 and count 0."
unfoldable pub levelled : ℕ → ℕ → ℕ → ℕ → Bool
levelled state starting depth count =
    leb state 1
    && (leb starting depth
    && (leb depth 16
    && (eqb state 0 || (eqb depth 16 && eqb count 0))))

-- one record: its bucket agrees with its address, its index is below 2^24, its address shares at least depth bits with the overlay
unfoldable pub stands : ℕ → List ℕ → List ℕ → Bool
stands depth overlay r =
    eqb (bucket_in r) (bucket_of (address_in r))
    && (ltb (index_in r) (2 ^ 24)
    && leb depth (shared_bits (address_in r) overlay))

unfoldable pub all_stand : ℕ → List ℕ → List (List ℕ) → Bool
all_stand depth overlay [] = true
all_stand depth overlay (r ∷ l) = stands depth overlay r && all_stand depth overlay l

-- each slot below the next one's
unfoldable pub rises : List (List ℕ) → Bool
rises [] = true
rises (r ∷ []) = true
rises (r ∷ q ∷ l) = ltb (slot r) (slot q) && rises (q ∷ l)

unfoldable pub zeros : List ℕ → Bool
zeros [] = true
zeros (x ∷ s) = eqb x 0 && zeros s

unfoldable pub well_formed : List ℕ → Bool
well_formed s =
    labelled s
    && (sized (length s) (capacity_in s) (count_in s)
    && (levelled (state_in s) (starting_in s) (depth_in s) (count_in s)
    && ((rises (records_in s) && all_stand (depth_in s) (overlay_in s) (records_in s))
    && zeros (drop (48 + 145 * count_in s) s))))

-- the answer, and for each answer the number handed back
unfoldable pub checked : List ℕ → Result (Unit {0}) BookError
checked s = cond (well_formed s) (Ok tt) (Err NotWellFormed)

abbrev pub error_number : BookError → ℕ
error_number NotWellFormed = 13

abbrev pub book_number : Result (Unit {0}) BookError → ℕ
book_number = answer_number done error_number
