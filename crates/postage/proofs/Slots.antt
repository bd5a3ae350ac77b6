-- A slot fixes the first 16 bits of its address.
use mathlib.Core.Path.{◌≡◌, sym, ap, ◌∙◌}
use mathlib.Core.List.{List}
use Prim.Native.Nat.{ℕ, ◌-◌, ◌*◌, ◌^◌, ◌≤◌}
use native.Mathlib.Omega.{arith}
use lib.ListN.{length, take, drop}
use lib.Seq.{length-take-le, take-take}
use lib.Pow.{pow_mono}
use Rattle.octets.specs.Bytes.{Bytes}
use Rattle.octets.specs.Number.{big}
use Rattle.octets.proofs.Bytes.{bytes_take}
use Rattle.octets.proofs.Numbers.{big_injective, big_at_fits}
use Rattle.octets.proofs.Parts.{part_of_take}
use Rattle.nearness.specs.Bits.{bits, bits_of}
use Rattle.nearness.proofs.Words.{bits_big}
use Rattle.batches.specs.Batch.{Fit, depth_of}
use Rattle.postage.specs.Stamp.{bucket_in, slot_in, bucket_of, slots_of}

-- the bucket stands in the slot
pub slot_bucket : (s t : List ℕ) → 40 ≤ length s → 40 ≤ length t → slot_in s ≡ slot_in t → bucket_in s ≡ bucket_in t
slot_bucket s t hs ht e =
    big_at_fits 4 s 32 (omega arith) ∙ ap big (within s ∙ ap (λ (l : List ℕ). take 4 (drop 32 l)) e ∙ sym (within t)) ∙ sym (big_at_fits 4 t 32 (omega arith))
  where
    within : (l : List ℕ) → take 4 (drop 32 l) ≡ take 4 (drop 32 (take 40 l))
    within l = sym (ap (take 4) (part_of_take 32 8 l) ∙ take-take 4 8 (drop 32 l) (omega arith))

-- and fixes the address's first two bytes
pub bucket_start : (a b : List ℕ) → Bytes a → Bytes b → 2 ≤ length a → 2 ≤ length b → bucket_of a ≡ bucket_of b → take 2 a ≡ take 2 b
bucket_start a b ya yb ha hb e =
    big_injective (take 2 a) (take 2 b) (length-take-le 2 a ha ∙ sym (length-take-le 2 b hb)) (bytes_take 2 a ya) (bytes_take 2 b yb)
    (sym (big_at_fits 2 a 0 ha) ∙ e ∙ big_at_fits 2 b 0 hb)

pub bucket_bits : (a : List ℕ) → Bytes a → 2 ≤ length a → bits 16 (bucket_of a) ≡ bits_of (take 2 a)
bucket_bits a y h =
    let n : 8 * length (take 2 a) ≡ 16 = ap (λ (k : ℕ). 8 * k) (length-take-le 2 a h) in
    ap (bits 16) (big_at_fits 2 a 0 h) ∙ ap (λ (k : ℕ). bits k (big (take 2 a))) (sym n) ∙ bits_big (take 2 a) (bytes_take 2 a y)

-- at the greatest depth a bucket has 2 ^ 24 slots
pub most_slots : (batch : List ℕ) → Fit batch → slots_of (depth_of batch) ≤ 2 ^ 24
unfolding slots_of
most_slots batch f = let h : depth_of batch - 16 ≤ 24 = omega (arith, f.most) in pow_mono h
