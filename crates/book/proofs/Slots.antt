-- A record's slot: how near it lies to the overlay, and its order.
use mathlib.Core.Path.{◌≡◌, sym, ◌∙◌}
use mathlib.Core.List.{List, [], ◌∷◌}
use Prim.Native.Nat.{ℕ, ◌+◌, ◌*◌, ◌^◌, ◌≤◌, ◌<◌, min}
use native.Mathlib.Omega.{arith}
use lib.ListN.{length, take, drop}
use lib.Seq.{take-add, drop-drop, length-take-le}
use Rattle.octets.specs.Bytes.{Bytes}
use Rattle.octets.specs.Number.{big}
use Rattle.octets.proofs.Bytes.{bytes_take, bytes_drop}
use Rattle.octets.proofs.Numbers.{big_append, big_lt, big_injective}
use Rattle.octets.proofs.Parts.{part_length}
use Rattle.nearness.specs.Bits.{shared_bits}
use Rattle.nearness.proofs.Shared.{shared_bits_take}
use Rattle.settling.specs.Meaning.{Ascending}
use Rattle.settling.proofs.Inside.{above_lower}
use Rattle.records.specs.Record.{slot, bucket_in, address_in, near_of, Fitting}
use Rattle.book.specs.Layout.{Rising}
use Rattle.book.specs.Shape.{shape}
use Rattle.records.proofs.Buckets.{bucket_bytes}

module _ (overlay r : List ℕ) (f : Fitting r) where
  size : length r ≡ 145
  size = f.size

  -- the bucket is the address's first two bytes, so that these are its last two
  bucket_ends : take 2 (drop 34 r) ≡ take 2 (address_in r)
  bucket_ends =
      let v = take 2 (drop 34 r) in
      let a = take 2 (address_in r) in
      let long-v : length v ≡ 2 = part_length r 34 2 (omega (arith, size)) in
      let long-a : length a ≡ 2 = length-take-le 2 (address_in r) (omega (arith, part_length r 48 32 (omega (arith, size)))) in
      let bytes-v : Bytes v = bytes_take 2 (drop 34 r) (bytes_drop 34 r f.bytes) in
      let bytes-a : Bytes a = bytes_take 2 (address_in r) (bytes_take 32 (drop 48 r) (bytes_drop 48 r f.bytes)) in
      let small-v : big v < 256 ^ 2 = rw long-v at (big_lt v bytes-v) in
      let small-a : big a < 256 ^ 2 = rw long-a at (big_lt a bytes-a) in
      let parts : bucket_in r ≡ big (take 2 (drop 32 r)) * 256 ^ 2 + big v = rw (take-add 2 2 (drop 32 r), drop-drop 2 32 r, big_append (take 2 (drop 32 r)) v, long-v) in
      big_injective v a (long-v ∙ sym long-a) bytes-v bytes-a (omega (arith, parts, f.bucket))

  -- the slot's nearness is the address's, up to 16
  pub near_slot : near_of overlay (slot r) ≡ min 16 (shared_bits (address_in r) overlay)
  unfolding near_of
  near_slot = rw (bucket_bytes r size f.bytes, bucket_ends) (shared_bits_take 2 (address_in r) overlay)

  -- so that at a depth of at most 16 one says what the other does
  pub near_inside : (d : ℕ) → d ≤ 16 → d ≤ shared_bits (address_in r) overlay → d ≤ near_of overlay (slot r)
  near_inside d h p = omega (arith, near_slot)

  pub inside_near : (d : ℕ) → d ≤ near_of overlay (slot r) → d ≤ shared_bits (address_in r) overlay
  inside_near d p = omega (arith, near_slot)

-- each slot below the next is each slot below all that follow
module _ (overlay : List ℕ) (capacity : ℕ) where
  pub rising_ascending : (l : List (List ℕ)) → Rising l → Ascending (shape overlay capacity) l
  unfolding Rising
  rising_ascending [] o = tt
  rising_ascending (r ∷ []) o = (tt, tt)
  rising_ascending (r ∷ q ∷ l) o =
      let rest : Ascending (shape overlay capacity) (q ∷ l) = rising_ascending (q ∷ l) o.1 in
      let h : slot r < slot q = o.0 in
      ((h, above_lower (shape overlay capacity) (slot r) (slot q) l (omega arith) rest.0), rest)

  pub ascending_rising : (l : List (List ℕ)) → Ascending (shape overlay capacity) l → Rising l
  unfolding Rising
  ascending_rising [] o = tt
  ascending_rising (r ∷ []) o = tt
  ascending_rising (r ∷ q ∷ l) o = (o.0.0, ascending_rising (q ∷ l) o.1)
