-- Offers heard by bytes are offers heard by the value that the bytes stand for.
use mathlib.Core.Path.{◌≡◌, refl, sym, ap, ◌∙◌}
use mathlib.Core.Option.{Option, none, some}
use mathlib.Core.Logic.{◌⊎◌, inl, inr}
use mathlib.Core.List.{List, [], ◌∷◌}
use Prim.Native.Nat.{ℕ, suc, ◌-◌, ◌≤◌}
use native.Mathlib.Omega.{arith}
use borrow.Author.Tests.{eq-eqb, ne_eqb}
use Rattle.settling.specs.Book.{State, overfull, good, enter, settle}
use Rattle.settling.specs.Book as settling
use Rattle.settling.specs.History.{hand, hear}
use Rattle.settling.specs.Meaning.{Each}
use Rattle.settling.proofs.Cases.{Limit, within, beyond, limit}
use Rattle.settling.proofs.Settle.{Sought, found, nowhere, seek, offer_overfull, offer_far, offer_fits, offer_rises}
use Rattle.settling.proofs.Sound.{offer_sound, every_offer}
use lib.ListN.{length}
use Rattle.records.specs.Record.{slot, near_of, record_of, Fitting}
use Rattle.book.specs.Shape.{shape}
use Rattle.book.specs.Layout.{state_in, Rising, WellFormed}
use Rattle.book.specs.Book.{Book, in_state, write, flag_of, depth_of}
use Rattle.book.specs.Lawful.{Lawful}
use Rattle.opening.specs.Open.{fresh_book}
use Rattle.reserve.specs.Stamps.{stamp_answer}
use Rattle.reserve.specs.Offer.{shape_of, entered}
use Rattle.histories.specs.Histories.{Offer, ByteOffer, Openable, after, heard, passing}
use Rattle.book.proofs.Soundness.{lawful_sound, lawful_fitting, sound_lawful}
use Rattle.book.proofs.Roundtrip.{read_write, write_well_formed}
use Rattle.reserve.proofs.Stamped.{stamp_range, stamp_fits}
use Rattle.reserve.proofs.Ways.{bytes_after, way_overfull, way_stamp, way_enters}

-- the depth never falls, and of an overfull book it counts as 16
pub deepens : (overlay : List ℕ) (capacity d : ℕ) (l : List (List ℕ)) (r : List ℕ) → d ≤ 16 → d ≤ depth_of (settling.offer (shape overlay capacity) (good d l) r)
deepens overlay capacity d l r h = go (limit d (near_of overlay (slot r))) (limit (length (enter (shape overlay capacity) r l)) capacity)
  where
    risen : Sought (shape overlay capacity) (16 - d) (suc d) (enter (shape overlay capacity) r l) → d ≤ depth_of (settle (shape overlay capacity) (16 - d) (suc d) (enter (shape overlay capacity) r l))
    risen (found e a b f u q) = rw q (omega arith)
    risen (nowhere u q) = rw q h

    go : Limit d (near_of overlay (slot r)) → Limit (length (enter (shape overlay capacity) r l)) capacity → d ≤ depth_of (settling.offer (shape overlay capacity) (good d l) r)
    go (within p) (within f) = rw (offer_fits (shape overlay capacity) d l r p f) (omega arith)
    go (within p) (beyond f) = rw (offer_rises (shape overlay capacity) d l r p f) (risen (seek (shape overlay capacity) (16 - d) (suc d) (enter (shape overlay capacity) r l)))
    go (beyond p) f = rw (offer_far (shape overlay capacity) d l r p) (omega arith)

-- an offer that passes leaves a value that a book can have
pub lawful_offer : (b : Book) (st : State (List ℕ)) (r : List ℕ) → Fitting r → Lawful (in_state b st) → Lawful (in_state b (settling.offer (shape_of b) st r))
lawful_offer b overfull r f p = rw (offer_overfull (shape_of b) r) p
lawful_offer b (good d l) r f p =
    let low : b.starting ≤ d = p.started in
    let deep : d ≤ 16 = p.depth in
    sound_lawful (in_state b (settling.offer (shape_of b) (good d l) r)) p.size p.bytes p.least p.most
    (omega (arith, low, deepens b.overlay b.capacity d l r deep))
    (offer_sound (shape_of b) (good d l) r (lawful_sound (in_state b (good d l)) p))
    (every_offer (shape_of b) Fitting (good d l) r f (lawful_fitting (in_state b (good d l)) p))

-- a fresh book's value
pub lawful_fresh : (overlay : List ℕ) (capacity starting : ℕ) → Openable overlay capacity starting → Lawful (fresh_book overlay capacity starting)
unfolding Rising
lawful_fresh overlay capacity starting o =
    record {
      size = o.size;
      bytes = o.bytes;
      least = o.least;
      most = o.most;
      count = omega arith;
      started = omega arith;
      depth = o.depth;
      rising = tt;
      fitting = tt;
      near = tt;
    }

module _ (batches : List ℕ) (o : Offer) where
  pub passing_some : stamp_answer batches o.address o.stamp o.account ≡ 0 → passing batches o ≡ some (record_of o.address o.stamp)
  unfolding passing
  passing_some e = rw (eq-eqb _ 0 e)

  pub passing_none : (stamp_answer batches o.address o.stamp o.account ≡ 0 → ⊥) → passing batches o ≡ none
  unfolding passing
  passing_none h = rw (ne_eqb _ 0 h)

  pub passing_fits : ByteOffer o → (r : List ℕ) → passing batches o ≡ some r → Fitting r
  passing_fits h r e = go (stamp_range batches o.address o.stamp o.account)
    where
      go : (stamp_answer batches o.address o.stamp o.account ≡ 0) ⊎ ((10 ≤ stamp_answer batches o.address o.stamp o.account) × (stamp_answer batches o.address o.stamp o.account ≤ 19)) → Fitting r
      go (inl z) =
          let same : record_of o.address o.stamp ≡ r = let f = passing_some z in cc in
          rw (← same) (stamp_fits batches o.address o.stamp o.account h.address h.stamp z)
      go (inr z) = let f = passing_none (λ u. omega (arith, u, z.0)) in let q : ◌≡◌ {A = ℕ} 0 1 = cc in absurd (omega arith)

-- the state byte of a book's bytes
pub flag_there : (b : Book) → state_in (write b) ≡ flag_of b.state
unfolding write
flag_there b = refl

module _ (batches : List ℕ) (b : Book) where
  -- one offer
  pub after_hand : (st : State (List ℕ)) (o : Offer) → Lawful (in_state b st) → after batches (write (in_state b st)) o ≡ write (in_state b (hand (shape_of b) st (passing batches o)))
  unfolding hand entered
  after_hand overfull o p =
      let formed : WellFormed (write (in_state b overfull)) = (write_well_formed (in_state b overfull) p).0 in
      ap bytes_after (way_overfull (write (in_state b overfull)) batches o.address o.stamp o.account formed (flag_there (in_state b overfull))) ∙ go (passing batches o)
    where
      go : (t : Option (List ℕ)) → write (in_state b overfull) ≡ write (in_state b (hand (shape_of b) overfull t))
      go none = refl
      go (some r) = rw (offer_overfull (shape_of b) r)
  after_hand (good d l) o p = go (stamp_range batches o.address o.stamp o.account)
    where
      formed : WellFormed (write (in_state b (good d l)))
      formed = (write_well_formed (in_state b (good d l)) p).0

      go : (stamp_answer batches o.address o.stamp o.account ≡ 0) ⊎ ((10 ≤ stamp_answer batches o.address o.stamp o.account) × (stamp_answer batches o.address o.stamp o.account ≤ 19))
          → after batches (write (in_state b (good d l))) o ≡ write (in_state b (hand (shape_of b) (good d l) (passing batches o)))
      go (inl z) =
          ap bytes_after (way_enters (write (in_state b (good d l))) batches o.address o.stamp o.account formed (flag_there (in_state b (good d l))) z)
          ∙ ap (λ (x : Book). (entered x (record_of o.address o.stamp)).bytes) (read_write (in_state b (good d l)) p)
          ∙ ap (λ (t : Option (List ℕ)). write (in_state b (hand (shape_of b) (good d l) t))) (sym (passing_some batches o z))
      go (inr z) =
          let h : stamp_answer batches o.address o.stamp o.account ≡ 0 → ⊥ = λ u. omega (arith, u, z.0) in
          ap bytes_after (way_stamp (write (in_state b (good d l))) batches o.address o.stamp o.account formed (flag_there (in_state b (good d l))) h)
          ∙ ap (λ (t : Option (List ℕ)). write (in_state b (hand (shape_of b) (good d l) t))) (sym (passing_none batches o h))

  pub lawful_hand : (st : State (List ℕ)) (o : Offer) → ByteOffer o → Lawful (in_state b st) → Lawful (in_state b (hand (shape_of b) st (passing batches o)))
  unfolding hand
  lawful_hand st o h p = go (passing batches o) (passing_fits batches o h)
    where
      go : (t : Option (List ℕ)) → ((r : List ℕ) → t ≡ some r → Fitting r) → Lawful (in_state b (hand (shape_of b) st t))
      go none f = p
      go (some r) f = lawful_offer b st r (f r refl) p

  -- any list of them
  pub heard_hear : (st : State (List ℕ)) (s : List Offer) → Lawful (in_state b st) → Each ByteOffer s → heard batches (write (in_state b st)) s ≡ write (in_state b (hear (shape_of b) (passing batches) st s))
  unfolding heard hear
  heard_hear st [] p h = refl
  heard_hear st (o ∷ s) p h = rw (after_hand st o p) (heard_hear (hand (shape_of b) st (passing batches o)) s (lawful_hand st o h.0 p) h.1)

  pub lawful_hear : (st : State (List ℕ)) (s : List Offer) → Lawful (in_state b st) → Each ByteOffer s → Lawful (in_state b (hear (shape_of b) (passing batches) st s))
  unfolding hear
  lawful_hear st [] p h = p
  lawful_hear st (o ∷ s) p h = lawful_hear (hand (shape_of b) st (passing batches o)) s (lawful_hand st o h.0 p) h.1
