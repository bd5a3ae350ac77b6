-- An offer outside the depth: what the theory says of its slot is said of its address.
use mathlib.Core.Path.{◌≡◌, refl, sym, ap, ◌∙◌}
use mathlib.Core.Logic.{◌⊎◌, inl, inr}
use mathlib.Core.List.{List}
use Prim.Native.Nat.{ℕ, ◌≤◌, ◌<◌, min}
use native.Mathlib.Omega.{arith}
use Rattle.octets.specs.Bytes.{Bytes}
use Rattle.nearness.specs.Bits.{shared_bits}
use Rattle.settling.specs.Book.{State, good}
use Rattle.settling.specs.Meaning.{Outside, Given, kept, dropped, bursts, already, outside, very, outranked}
use Rattle.records.specs.Record.{slot, near_of, record_of}
use Rattle.book.specs.Layout.{depth_in, overlay_in}
use Rattle.book.specs.Book.{read}
use Rattle.reserve.specs.Stamps.{stamp_answer}
use Rattle.reserve.specs.Offer.{shape_of}
use Rattle.histories.specs.Histories.{Offer, ByteOffer, answer}
use Rattle.histories.specs.Theorems.{Table, not_well_formed, already_overfull, stamp_refused, settles, NearnessOfSlots, BelowDepth}
use Rattle.book.proofs.Slots.{near_slot}
use Rattle.reserve.proofs.Stamped.{stamp_fits, stamp_address, stamp_range}
use Rattle.book.proofs.Roundtrip.{read_good}
use Rattle.histories.proofs.Answered.{answers_table}

-- up to 16 the slot's nearness is the address's
pub near_offer : NearnessOfSlots
near_offer overlay batches o ob s =
    near_slot overlay (record_of o.address o.stamp) (stamp_fits batches o.address o.stamp o.account ob.address ob.stamp s)
    ∙ ap (λ (a : List ℕ). min 16 (shared_bits a overlay)) (stamp_address batches o.address o.stamp o.account s)

module _ (batches book : List ℕ) (o : Offer) (byte : Bytes book) (ob : ByteOffer o) where
  abbrev r : List ℕ
  r = record_of o.address o.stamp

  abbrev verdict : ℕ
  verdict = stamp_answer batches o.address o.stamp o.account

  near_address : verdict ≡ 0 → near_of (overlay_in book) (slot r) ≡ min 16 (shared_bits o.address (overlay_in book))
  near_address s = near_offer (overlay_in book) batches o ob s

  given_20 : (st : State (List ℕ)) (n : ℕ) → Given (shape_of (read book)) st r n → n ≡ 20 → Outside (shape_of (read book)) st r
  given_20 st n (kept p q) e = absurd (omega arith)
  given_20 st n (dropped p q) e = absurd (omega arith)
  given_20 st n (bursts p q) e = absurd (omega arith)
  given_20 st n (already p) e = absurd (omega arith)
  given_20 st n (outside p) e = p
  given_20 st n (very p) e = absurd (omega arith)
  given_20 st n (outranked p) e = absurd (omega arith)

  pub outside_below : answer batches book o ≡ 20 → BelowDepth batches book o
  unfolding read
  outside_below e = go 20 ((answers_table batches book o byte ob 20).0 e) refl
    where
      go : (n : ℕ) → Table batches book o n → n ≡ 20 → BelowDepth batches book o
      go n (not_well_formed u) k = absurd (omega arith)
      go n (already_overfull w z) k = absurd (omega arith)
      go n (stamp_refused m w z v f) k = absurd (pick (stamp_range batches o.address o.stamp o.account))
        where
          pick : (verdict ≡ 0) ⊎ ((10 ≤ verdict) × (verdict ≤ 19)) → ⊥
          pick (inl h) = f (sym v ∙ h)
          pick (inr h) = omega (arith, h.0, h.1, v, k)
      go n (settles m w z s g) k =
          let out : near_of (overlay_in book) (slot r) < depth_in book = rw (read_good book z) at (given_20 (read book).state m g k) in
          let depth : depth_in book ≤ 16 = w.depth in
          record { formed = w; good = z; stamped = s; below = omega (arith, near_address s) }

  pub below_outside : BelowDepth batches book o → answer batches book o ≡ 20
  unfolding read
  below_outside h =
      let below : shared_bits o.address (overlay_in book) < depth_in book = h.below in
      let near : near_of (overlay_in book) (slot r) < depth_in book = omega (arith, near_address h.stamped) in
      let out : Outside (shape_of (read book)) (read book).state r = rw (read_good book h.good) near in
      (answers_table batches book o byte ob 20).1 (settles 20 h.formed h.good h.stamped (outside out))
