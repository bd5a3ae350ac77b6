-- What a reader looks for in postage, each readable alone.
use mathlib.Core.Path.{◌≡◌, refl, sym, ap, ◌∙◌}
use mathlib.Core.Logic.{◌⊎◌, inl, inr, ◌↔◌}
use mathlib.Core.List.{List, []}
use Prim.Native.Nat.{ℕ, ◌^◌, ◌≤◌, ◌<◌, min}
use native.Mathlib.Omega.{arith}
use lib.ListN.{length, take}
use Rattle.octets.specs.Bytes.{Bytes}
use Rattle.nearness.specs.Bits.{bits, bits_of, shared_bits}
use Rattle.nearness.proofs.Shared.{same_start, together}
use Rattle.std.specs.Prelude.{Result}
use Rattle.postage.specs.declared.rules.StampError.{StampError}
use Rattle.batches.specs.Batch.{id_of, count, batch_at, WellListed, Listed, records, find}
use Rattle.postage.specs.Stamp.{batch_in, index_in, slot_in, bucket_of, Bucketed}
use Rattle.postage.specs.Rules.{Passes, checked}
use Rattle.postage.specs.InOrder.{Kept, Given}
use Rattle.batches.proofs.Records.{length_batch_at}
use Rattle.postage.proofs.Search.{find_cases, find_absent, find_held}
use Rattle.postage.proofs.InOrder.{in_order}
use Rattle.postage.proofs.Slots.{slot_bucket, bucket_start, bucket_bits, most_slots}

-- ---- looking a batch up

-- in a well-formed list each batch is found under its id, the last one too
pub each_batch_is_found : (list : List ℕ) → WellListed list → (i : ℕ) → i < count list → find (id_of (batch_at list i)) (records list) ≡ batch_at list i
each_batch_is_found list w i h = find_held list (id_of (batch_at list i)) w i h refl

-- nothing is found exactly where no record has the id
pub absent_exactly : (list id : List ℕ) → (find id (records list) ≡ []) ↔ (Listed list id → ⊥)
absent_exactly list id = (there (find_cases list id), find_absent list id)
  where
    there : ((Listed list id → ⊥) × (find id (records list) ≡ [])) ⊎ ((at : Listed list id) × (find id (records list) ≡ batch_at list at.0)) → find id (records list) ≡ [] → Listed list id → ⊥
    there (inl r) e = r.0
    there (inr r) e = λ h. let at = r.0 in omega (arith, length_batch_at list at.0 at.1, ap length (sym r.1 ∙ e))

-- ---- the rules

-- each answer is given exactly where its own rule is broken and all before it are kept: 15, 10, 16, 17, 18, 19, 0
pub answers_in_order : (list address stamp account : List ℕ) (answer : Result (Unit {0}) StampError) → (checked list address stamp account ≡ answer) ↔ Given (Kept list address stamp account) answer
answers_in_order = in_order

-- a stamp that passes stands in its address's bucket, with an index that a book can hold
pub passing_is_bucketed : (list address stamp account : List ℕ) → Bytes address → checked list address stamp account ≡ Passes → Bucketed address stamp
passing_is_bucketed list address stamp account y e =
    let g = (in_order list address stamp account Passes).0 e in
    record { is_bytes = y; address_whole = g.1.of_address; stamp_whole = g.1.of_stamp; own_bucket = g.3 }

pub passing_index : (list address stamp account : List ℕ) → checked list address stamp account ≡ Passes → index_in stamp < 2 ^ 24
passing_index list address stamp account e =
    let g = (in_order list address stamp account Passes).0 e in
    let at = g.2 in
    let below = rw (find_held list (batch_in stamp) g.0 at.0 at.1 at.2) at g.4 in
    omega (arith, below, most_slots (batch_at list at.0) (g.0.all_fit at.0 at.1))

-- ---- slots

-- the bucket of an address is its first 16 bits
pub bucket_is_first_16_bits : (address : List ℕ) → Bytes address → length address ≡ 32 → bits 16 (bucket_of address) ≡ bits_of (take 2 address)
bucket_is_first_16_bits address y h = bucket_bits address y (omega arith)

-- two chunks of one slot have the same first 16 bits
pub one_slot_one_start : (address stamp address' stamp' : List ℕ) → Bucketed address stamp → Bucketed address' stamp' → slot_in stamp ≡ slot_in stamp' → take 2 address ≡ take 2 address'
one_slot_one_start address stamp address' stamp' b b' e =
    bucket_start address address' b.is_bytes b'.is_bytes (omega (arith, b.address_whole)) (omega (arith, b'.address_whole))
    (sym b.own_bucket ∙ slot_bucket stamp stamp' (omega (arith, b.stamp_whole)) (omega (arith, b'.stamp_whole)) e ∙ b'.own_bucket)

-- so to every overlay they are equally near, up to 16
pub one_slot_one_nearness : (address stamp address' stamp' : List ℕ) → Bucketed address stamp → Bucketed address' stamp' → slot_in stamp ≡ slot_in stamp'
    → (overlay : List ℕ) → min 16 (shared_bits address overlay) ≡ min 16 (shared_bits address' overlay)
one_slot_one_nearness address stamp address' stamp' b b' e overlay = same_start address address' overlay (one_slot_one_start address stamp address' stamp' b b' e)

-- and at every depth of a book they lie inside or outside together
pub one_slot_together : (address stamp address' stamp' : List ℕ) → Bucketed address stamp → Bucketed address' stamp' → slot_in stamp ≡ slot_in stamp'
    → (overlay : List ℕ) (depth : ℕ) → depth ≤ 16 → (depth ≤ shared_bits address overlay) ↔ (depth ≤ shared_bits address' overlay)
one_slot_together address stamp address' stamp' b b' e overlay depth h =
    let start = one_slot_one_start address stamp address' stamp' b b' e in
    (together address address' overlay start depth h, together address' address overlay (sym start) depth h)
