-- The books of sixteen slots and a seventeenth, and the listing's, computed from the definitions alone.
use mathlib.Core.Path.{◌≡◌, refl, sym, ap, ◌∙◌}
use mathlib.Core.List.{List, [], ◌∷◌}
use Prim.Native.Nat.{ℕ}
use lib.ListN.{replicate}
use Rattle.octets.specs.Number.{big, big_at, bytes_of}
use Rattle.octets.specs.Order.{byte_order}
use Rattle.octets.specs.Pieces.{pieces}
use Rattle.nearness.specs.Bits.{bits, bits_of, leading_equal, shared_bits}
use Rattle.postage.specs.Stamp.{slots_of}
use Rattle.batches.specs.Batch.{records, fit, below, ordered, well_listed, find}
use Rattle.postage.specs.Rules.{in_bucket, in_slots, is_owner, judged, rules, checked}
use Rattle.settling.specs.Rank.{higher}
use Rattle.settling.specs.Book.{enter, inside, settle, offer}
use Rattle.settling.specs.Answer.{holder, taken, against, outcome}
use Rattle.records.specs.Record.{near_of}
use Rattle.records.specs.Rank.{rank_order, beats}
use Rattle.reserve.specs.Stamps.{stamp_answer}
use Rattle.histories.specs.Histories.{Offer, after, answer, heard}
use Rattle.book.specs.Layout.{state_in, depth_in, count_in, laid}
use Rattle.wellformed.specs.Check.{labelled, sized, levelled, stands, all_stand, rises, zeros, well_formed}
use Rattle.book.specs.Book.{read, write}
use Rattle.reserve.specs.Offer.{Ended, entered, offered}
use Rattle.examples.specs.Books.{batches, address, stamp, slot_at, slots, nine_and_seven, eight_of_each, in_bucket0, seventeenth, fresh, book_of, answers, SettledBooks}

-- ---- one run of a book tells all that is said of it, so that each book is computed once

ended : List ℕ → Offer → Ended
ended b o = offered b batches o.address o.stamp o.account

-- the numbers handed back, and the book
hearing : List ℕ → List Offer → List ℕ × List ℕ
hearing b [] = ([], b)
hearing b (o ∷ s) = let r = ended b o in let l = hearing r.bytes s in (r.number ∷ l.0, l.1)

hearing_is : (b : List ℕ) (s : List Offer) → hearing b s ≡ (answers b s, heard batches b s)
unfolding ended hearing answers heard
hearing_is b [] = refl
hearing_is b (o ∷ s) = ap (λ (l : List ℕ × List ℕ). (answer batches b o ∷ l.0, l.1)) (hearing_is (after batches b o) s)

-- the numbers and the count before one more offer, then its number, and state, depth and count after it
abbrev Told : Type 0
Told = List ℕ × ℕ × ℕ × ℕ × ℕ × ℕ

told : List ℕ × List ℕ → Offer → Told
told l o = let r = ended l.1 o in (l.0, count_in l.1, r.number, state_in r.bytes, depth_in r.bytes, count_in r.bytes)

-- ---- the runs

computed :
    (told (hearing fresh nine_and_seven) (seventeenth 0x40) ≡ (replicate 16 0, 16, 0, 0, 1, 8))
    × (told (hearing fresh eight_of_each) (seventeenth 0x80) ≡ (replicate 16 0, 16, 2, 0, 1, 8))
    × (told (hearing fresh in_bucket0) (seventeenth 0x00) ≡ (replicate 16 0, 16, 3, 1, 16, 0))
unfolding ended hearing told batches address stamp slot_at slots nine_and_seven eight_of_each in_bucket0 fresh answers heard big big_at bytes_of byte_order bits bits_of leading_equal shared_bits slots_of pieces records fit below ordered well_listed find in_bucket in_slots is_owner judged rules checked higher enter inside settle offer holder taken against outcome near_of rank_order beats stamp_answer laid read write labelled sized levelled stands all_stand rises zeros well_formed entered offered
computed = (refl, refl, refl)

-- ---- what they tell

module _ (s : List Offer) (o : Offer) {l : List ℕ} {n a t d c : ℕ} (run : told (hearing fresh s) o ≡ (l, n, a, t, d, c)) where
  same : told (answers fresh s, book_of s) o ≡ (l, n, a, t, d, c)
  same = ap (λ (h : List ℕ × List ℕ). told h o) (sym (hearing_is fresh s)) ∙ run

  numbers : answers fresh s ≡ l
  unfolding told
  numbers = ap (λ (x : Told). x.0) same

  count : count_in (book_of s) ≡ n
  unfolding told
  count = ap (λ (x : Told). x.1) same

  gives : answer batches (book_of s) o ≡ a
  unfolding ended told
  gives = ap (λ (x : Told). x.2) same

  state : state_in (after batches (book_of s) o) ≡ t
  unfolding ended told
  state = ap (λ (x : Told). x.3) same

  depth : depth_in (after batches (book_of s) o) ≡ d
  unfolding ended told
  depth = ap (λ (x : Told). x.4) same

  count_after : count_in (after batches (book_of s) o) ≡ c
  unfolding ended told
  count_after = ap (λ (x : Told). x.5) same

pub settled_books : SettledBooks
unfolding fresh heard big big_at bytes_of byte_order bits bits_of leading_equal shared_bits slots_of pieces records fit below ordered well_listed find in_bucket in_slots is_owner judged rules checked higher enter inside settle offer holder taken against outcome near_of rank_order beats stamp_answer laid read write labelled sized levelled stands all_stand rises zeros well_formed entered offered
settled_books =
    record {
      nine_and_seven_kept = numbers nine_and_seven (seventeenth 0x40) computed.0;
      nine_and_seven_count = count nine_and_seven (seventeenth 0x40) computed.0;
      at_40_gives = gives nine_and_seven (seventeenth 0x40) computed.0;
      at_40_depth = depth nine_and_seven (seventeenth 0x40) computed.0;
      at_40_count = count_after nine_and_seven (seventeenth 0x40) computed.0;
      eight_of_each_kept = numbers eight_of_each (seventeenth 0x80) computed.1;
      eight_of_each_count = count eight_of_each (seventeenth 0x80) computed.1;
      at_80_gives = gives eight_of_each (seventeenth 0x80) computed.1;
      at_80_depth = depth eight_of_each (seventeenth 0x80) computed.1;
      at_80_count = count_after eight_of_each (seventeenth 0x80) computed.1;
      bucket_0_kept = numbers in_bucket0 (seventeenth 0x00) computed.2;
      bucket_0_count = count in_bucket0 (seventeenth 0x00) computed.2;
      last_gives = gives in_bucket0 (seventeenth 0x00) computed.2;
      last_overfull = state in_bucket0 (seventeenth 0x00) computed.2;
      listed_book = refl;
    }
