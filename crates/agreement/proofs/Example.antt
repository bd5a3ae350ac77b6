-- The example: what the first book answers and holds is computed from the definitions alone, the second ends as the first.
use mathlib.Core.Path.{◌≡◌, refl, sym, ◌∙◌}
use mathlib.Core.List.{List, [], ◌∷◌, ◌++◌, Memᴰ}
use Prim.Native.Nat.{ℕ, zero, suc, ◌<◌}
use native.Mathlib.Omega.{arith}
use lib.ListN.{replicate}
use Rattle.octets.specs.Bytes.{Bytes}
use Rattle.octets.specs.Number.{big, big_at, bytes_of}
use Rattle.octets.specs.Order.{byte_order}
use Rattle.octets.specs.Pieces.{pieces}
use Rattle.octets.proofs.Bytes.{bytes_append}
use Rattle.nearness.specs.Bits.{bits, bits_of, leading_equal, shared_bits}
use Rattle.postage.specs.Stamp.{slots_of}
use Rattle.batches.specs.Batch.{records, fit, below, ordered, well_listed, find}
use Rattle.postage.specs.Rules.{in_bucket, in_slots, is_owner, rules, judged, checked}
use Rattle.settling.specs.Rank.{higher}
use Rattle.settling.specs.Book.{enter, inside, settle, offer}
use Rattle.settling.specs.Answer.{holder, taken, against, outcome}
use Rattle.settling.specs.Meaning.{Each}
use Rattle.records.specs.Record.{near_of}
use Rattle.records.specs.Rank.{rank_order, beats}
use Rattle.reserve.specs.Stamps.{stamp_answer}
use Rattle.histories.specs.Histories.{Offer, ByteOffer, heard, opened}
use Rattle.book.specs.Layout.{laid}
use Rattle.wellformed.specs.Check.{labelled, sized, levelled, stands, all_stand, rises, zeros, well_formed}
use Rattle.book.specs.Book.{read, write}
use Rattle.reserve.specs.Offer.{entered, offered}
use Rattle.agreement.specs.Theorems.{Became, SameOffers}
use Rattle.agreement.specs.Example.{overlay, batches, address, stamp_at, offer_by, these, those, answers, late_alone, Example}
use Rattle.agreement.proofs.Theorems.{became, same_offers_same_bytes}

computed :
    (answers (opened overlay 16 0) these ≡ 0 ∷ 22 ∷ 19 ∷ [])
    × (answers (opened overlay 16 0) those ≡ 19 ∷ 0 ∷ 0 ∷ 22 ∷ [])
    × (heard batches (opened overlay 16 0) these ≡ late_alone)
unfolding answers heard overlay batches address stamp_at offer_by big big_at bytes_of byte_order bits bits_of leading_equal shared_bits slots_of pieces records fit below ordered well_listed find in_bucket in_slots is_owner rules judged checked higher enter inside settle offer holder taken against outcome near_of rank_order beats stamp_answer laid read write labelled sized levelled stands all_stand rises zeros well_formed entered offered
computed = (refl, refl, refl)

-- ---- lent as bytes

bytes_same : (n b : ℕ) → b < 256 → Bytes (replicate n b)
bytes_same zero b h = tt
bytes_same (suc n) b h = (h, bytes_same n b h)

overlay_bytes : Bytes overlay
unfolding overlay
overlay_bytes = bytes_same 32 0 (omega arith)

offer_bytes : (account time : ℕ) → time < 256 → ByteOffer (offer_by account time)
unfolding offer_by address stamp_at
offer_bytes account time h =
    let signed : Bytes (time ∷ replicate 65 0) = (h, bytes_same 65 0 (omega arith)) in
    let placed : Bytes (0 ∷ 0 ∷ 0x80 ∷ replicate 12 0 ++ (time ∷ replicate 65 0)) =
    (omega arith, (omega arith, (omega arith, bytes_append (replicate 12 0) (time ∷ replicate 65 0) (bytes_same 12 0 (omega arith)) signed))) in
    record {
      address = (omega arith, bytes_same 31 0 (omega arith));
      stamp = bytes_append (replicate 32 0x11) (0 ∷ 0 ∷ 0x80 ∷ replicate 12 0 ++ (time ∷ replicate 65 0)) (bytes_same 32 0x11 (omega arith)) placed;
    }

these_bytes : Each ByteOffer these
these_bytes = (offer_bytes 0x22 100 (omega arith), (offer_bytes 0x22 7 (omega arith), (offer_bytes 0x33 200 (omega arith), tt)))

-- ---- the same offers

there : (o : Offer) → Memᴰ o these → Memᴰ o those
there o (Memᴰ.head e) = Memᴰ.tail (Memᴰ.tail (Memᴰ.head e))
there o (Memᴰ.tail (Memᴰ.head e)) = Memᴰ.tail (Memᴰ.head e)
there o (Memᴰ.tail (Memᴰ.tail (Memᴰ.head e))) = Memᴰ.head e
there o (Memᴰ.tail (Memᴰ.tail (Memᴰ.tail never))) = elim never [ ]

back : (o : Offer) → Memᴰ o those → Memᴰ o these
back o (Memᴰ.head e) = Memᴰ.tail (Memᴰ.tail (Memᴰ.head e))
back o (Memᴰ.tail (Memᴰ.head e)) = Memᴰ.tail (Memᴰ.head e)
back o (Memᴰ.tail (Memᴰ.tail (Memᴰ.head e))) = Memᴰ.head e
back o (Memᴰ.tail (Memᴰ.tail (Memᴰ.tail (Memᴰ.head e)))) = Memᴰ.tail (Memᴰ.head e)
back o (Memᴰ.tail (Memᴰ.tail (Memᴰ.tail (Memᴰ.tail never)))) = elim never [ ]

same : SameOffers these those
same = record { there = there; back = back }

ends : (book : List ℕ) → Became overlay 16 0 batches these book → book ≡ late_alone
ends book h = became overlay 16 0 batches these book h ∙ computed.2

-- the second book by the first: it heard the same offers
pub example : Example
example = (
  same,
  computed.0,
  computed.1,
  λ book book' h k. (ends book h, sym (same_offers_same_bytes overlay 16 0 batches these those book book' overlay_bytes these_bytes h k same) ∙ ends book h),
)
