-- The settled examples, proved from the definitions.
use mathlib.Core.Path.{◌≡◌, refl, ap}
use mathlib.Core.List.{List, [], ◌∷◌}
use Prim.Native.Nat.{ℕ, suc}
use native.Mathlib.Omega.{arith}
use borrow.Author.Tests.{eq-eqb}
use lib.ListN.{length, length-take, length-drop}
use Rattle.octets.specs.Order.{byte_order}
use Rattle.octets.specs.Number.{big, big_at, bytes_of}
use Rattle.octets.specs.Pieces.{pieces}
use Rattle.keccak.proofs.Theorems.{padding_sheet}
use Rattle.std.specs.Prelude.{Ok}
use Rattle.nearness.specs.Bits.{bits, bits_of, leading_equal, shared_bits}
use Rattle.nearness.specs.Near.{nearness_of}
use Rattle.nearness.proofs.Shared.{length_bits_of}
use Rattle.batches.specs.Batch.{records, fit, below, ordered, well_listed, find}
use Rattle.postage.specs.Stamp.{bucket_of, slots_of}
use Rattle.postage.specs.Rules.{stamp_number, in_bucket, in_slots, is_owner, judged, rules, checked}
use Rattle.merkle.specs.Segment.{segment_of}
use Rattle.settled.specs.Settled.{from, address, owner, batches, stamp, Settled}

-- ---- shared bits

first_bytes : (nearness_of (from 0x80) (from 0x00) ≡ Ok 0) × (nearness_of (from 0x12) (from 0x00) ≡ Ok 3)
unfolding nearness_of shared_bits bits_of bits leading_equal
first_bytes = (refl, refl)

-- equal numbers share all their bits

leading_self : (xs : List ℕ) → leading_equal xs xs ≡ length xs
unfolding leading_equal
leading_self [] = refl
leading_self (x ∷ xs) = rw (eq-eqb x x refl) (ap suc (leading_self xs))

shared_self : (x : List ℕ) → length x ≡ 32 → shared_bits x x ≡ 256
unfolding shared_bits
shared_self x e = omega (arith, leading_self (bits_of x), length_bits_of x, e)

near_self : (x : List ℕ) → length x ≡ 32 → nearness_of x x ≡ Ok 256
unfolding nearness_of
near_self x e = rw (e, shared_self x e) refl

-- ---- the last of 42 segments

last_segment : (bytes : List ℕ) → length bytes ≡ 1337 → length (segment_of bytes 41) ≡ 25
last_segment bytes e = simp (length-take, length-drop, e) refl

-- ---- a stamp's bucket and index

stamps :
    (bucket_of address ≡ 4660)
    × (stamp_number (checked batches address (stamp 1) owner) ≡ 0)
    × (stamp_number (checked batches address (stamp 2) owner) ≡ 18)
unfolding big_at big bytes_of byte_order pieces records fit below ordered well_listed find slots_of in_bucket in_slots is_owner judged rules checked
stamps = (refl, refl, refl)

pub settled_examples : Settled
settled_examples =
    record {
      padding_of_0 = λ m. (padding_sheet m).0;
      padding_of_135 = λ m. (padding_sheet m).1;
      padding_of_136 = λ m. (padding_sheet m).2;
      segments_of_0 = refl;
      segments_of_32 = refl;
      segments_of_33 = refl;
      segments_of_1337 = refl;
      last_of_1337 = last_segment;
      shared_80_00 = first_bytes.0;
      shared_12_00 = first_bytes.1;
      shared_equal = near_self;
      bucket_12_34 = stamps.0;
      index_1_allowed = stamps.1;
      index_2_past = stamps.2;
    }
