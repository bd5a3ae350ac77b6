-- The test says what Layout's list says.
use mathlib.Core.Path.{◌≡◌, refl, ap, ◌∙◌}
use mathlib.Core.Bool.{true, ◌&&◌, ◌||◌}
use mathlib.Core.List.{List, [], ◌∷◌}
use Prim.Native.Nat.{ℕ, zero, suc, ◌+◌, ◌-◌, ◌*◌, ◌≤◌}
use native.Mathlib.Decide.{dec_le}
use native.Mathlib.Omega.{arith}
use lib.Dec.{eqb}
use lib.ListN.{length, drop, replicate, length-drop}
use borrow.Author.Tests.{leb-true, le-leb, ltb-true, lt-ltb, eqb-true, eq-eqb, ne_eqb}
use Rattle.std.specs.Ordering.{is_eq}
use Rattle.octets.specs.Order.{byte_order}
use Rattle.octets.specs.Bytes.{Bytes}
use Rattle.octets.proofs.Bytes.{bytes_drop}
use Rattle.octets.proofs.Ordered.{is_same_lem, same_equal, order_self}
use Rattle.nearness.specs.Bits.{shared_bits}
use Rattle.settling.specs.Meaning.{Each}
use Rattle.records.specs.Record.{address_in, Fitting}
use Rattle.book.specs.Layout.{mark, mark_in, version_in, state_in, starting_in, depth_in, overlay_in, capacity_in, count_in, records_in, Rising, WellFormed}
use Rattle.wellformed.specs.Check.{labelled, sized, levelled, stands, all_stand, rises, zeros, well_formed}
use Rattle.wellformed.specs.Tested.{Tested}
use Rattle.book.proofs.Truths.{both, joined}
use Rattle.book.proofs.Laid.{Sized}
use Rattle.book.proofs.Cuts.{each_sized, each_bytes}

-- mark and version

labelled_true : (s : List ℕ) → labelled s ≡ true → (mark_in s ≡ mark) × (version_in s ≡ 1)
unfolding labelled
labelled_true s e = let p = both e in (same_equal (mark_in s) mark (is_same_lem _ p.0), eqb-true _ _ p.1)

true_labelled : (s : List ℕ) → mark_in s ≡ mark → version_in s ≡ 1 → labelled s ≡ true
unfolding labelled
true_labelled s e f = joined (ap is_eq (ap (λ (m : List ℕ). byte_order m mark) e ∙ order_self mark)) (eq-eqb _ _ f)

-- length, capacity and count

pub record Measured (size capacity count : ℕ) : Type 0 where
  pub least : 16 ≤ capacity
  pub most : capacity ≤ 65536
  pub whole : size ≡ 48 + 145 * capacity
  pub within : count ≤ capacity

pub sized_true : (size capacity count : ℕ) → sized size capacity count ≡ true → Measured size capacity count
unfolding sized
sized_true n c k e =
    let p = both e in
    let q = both p.1 in
    let r = both q.1 in
    record { least = leb-true _ _ p.0; most = leb-true _ _ q.0; whole = eqb-true _ _ r.0; within = leb-true _ _ r.1 }

true_sized : (size capacity count : ℕ) → Measured size capacity count → sized size capacity count ≡ true
unfolding sized
true_sized n c k w = joined (le-leb _ _ w.least) (joined (le-leb _ _ w.most) (joined (eq-eqb _ _ w.whole) (le-leb _ _ w.within)))

-- state and depths

record Levelled (state starting depth count : ℕ) : Type 0 where
  flag : state ≤ 1
  started : starting ≤ depth
  deepest : depth ≤ 16
  burst : state ≡ 1 → (depth ≡ 16) × (count ≡ 0)

levelled_true : (state starting depth count : ℕ) → levelled state starting depth count ≡ true → Levelled state starting depth count
unfolding levelled
levelled_true state starting depth count e =
    let p = both e in
    let q = both p.1 in
    let r = both q.1 in
    record { flag = leb-true _ _ p.0; started = leb-true _ _ q.0; deepest = leb-true _ _ r.0; burst = λ f. bursting f r.1 }
  where
    bursting : state ≡ 1 → (eqb state 0 || (eqb depth 16 && eqb count 0)) ≡ true → (depth ≡ 16) × (count ≡ 0)
    bursting f g = let p = both (rw (ne_eqb state 0 (λ h. omega arith)) at g) in (eqb-true _ _ p.0, eqb-true _ _ p.1)

true_levelled : (state starting depth count : ℕ) → Levelled state starting depth count → levelled state starting depth count ≡ true
unfolding levelled
true_levelled state starting depth count w =
    joined (le-leb _ _ w.flag) (joined (le-leb _ _ w.started) (joined (le-leb _ _ w.deepest) (bursting (dec_le state 0))))
  where
    bursting : Dec (state ≤ 0) → (eqb state 0 || (eqb depth 16 && eqb count 0)) ≡ true
    bursting (yes h) = rw (eq-eqb state 0 (omega arith))
    bursting (no h) =
        let p = w.burst (omega (arith, w.flag)) in
        rw (ne_eqb state 0 (λ e. h (omega arith))) (joined (eq-eqb _ _ p.0) (eq-eqb _ _ p.1))

-- the records

rises_true : (l : List (List ℕ)) → rises l ≡ true → Rising l
unfolding rises Rising
rises_true [] e = tt
rises_true (r ∷ []) e = tt
rises_true (r ∷ q ∷ l) e = let p = both e in (ltb-true _ _ p.0, rises_true (q ∷ l) p.1)

true_rises : (l : List (List ℕ)) → Rising l → rises l ≡ true
unfolding rises Rising
true_rises [] w = refl
true_rises (r ∷ []) w = refl
true_rises (r ∷ q ∷ l) w = joined (lt-ltb _ _ w.0) (true_rises (q ∷ l) w.1)

module _ (depth : ℕ) (overlay : List ℕ) where
  abbrev Near : List ℕ → Type 0
  Near r = depth ≤ shared_bits (address_in r) overlay

  stand_true : (l : List (List ℕ)) → Each Sized l → Each Bytes l → all_stand depth overlay l ≡ true → Each Fitting l × Each Near l
  unfolding stands all_stand
  stand_true [] w b e = (tt, tt)
  stand_true (r ∷ l) w b e =
      let p = both e in
      let q = both p.0 in
      let n = both q.1 in
      let rest = stand_true l w.1 b.1 p.1 in (
        (record { size = w.0; bytes = b.0; bucket = eqb-true _ _ q.0; index = ltb-true _ _ n.0 }, rest.0),
        (leb-true _ _ n.1, rest.1),
      )

  true_stand : (l : List (List ℕ)) → Each Fitting l → Each Near l → all_stand depth overlay l ≡ true
  unfolding stands all_stand
  true_stand [] f n = refl
  true_stand (r ∷ l) f n = joined (joined (eq-eqb _ _ f.0.bucket) (joined (lt-ltb _ _ f.0.index) (le-leb _ _ n.0))) (true_stand l f.1 n.1)

-- the tail

zeros_true : (s : List ℕ) → zeros s ≡ true → s ≡ replicate (length s) 0
unfolding zeros
zeros_true [] e = refl
zeros_true (x ∷ s) e = let p = both e in λ k. eqb-true x 0 p.0 k ∷ zeros_true s p.1 k

true_zeros : (n : ℕ) → zeros (replicate n 0) ≡ true
unfolding zeros
true_zeros zero = refl
true_zeros (suc n) = true_zeros n

-- all of it

module _ (s : List ℕ) where
  -- how long the records are, and what follows them
  records_length : Measured (length s) (capacity_in s) (count_in s) → 145 * count_in s ≤ length (drop 48 s)
  records_length z = simp length-drop (omega (arith, z.whole, z.within))

  rest_length : Measured (length s) (capacity_in s) (count_in s) → length (drop (48 + 145 * count_in s) s) ≡ 145 * (capacity_in s - count_in s)
  rest_length z = simp length-drop (omega (arith, z.whole, z.within))

  pub said : Bytes s → well_formed s ≡ true → WellFormed s
  unfolding well_formed
  said b e =
      let p = both e in
      let q = both p.1 in
      let r = both q.1 in
      let t = both r.1 in
      let u = both t.0 in
      let m = labelled_true s p.0 in
      let z = sized_true (length s) (capacity_in s) (count_in s) q.0 in
      let l = levelled_true (state_in s) (starting_in s) (depth_in s) (count_in s) r.0 in
      let v = stand_true (depth_in s) (overlay_in s) (records_in s) (each_sized (count_in s) (drop 48 s) (records_length z)) (each_bytes (count_in s) (drop 48 s) (bytes_drop 48 s b)) u.1 in
      record {
        marked = m.0;
        version = m.1;
        state = l.flag;
        size = z.whole;
        least = z.least;
        most = z.most;
        count = z.within;
        started = l.started;
        depth = l.deepest;
        burst = l.burst;
        rising = rises_true (records_in s) u.0;
        fitting = v.0;
        near = v.1;
        cleared = zeros_true _ t.1 ∙ ap (λ (n : ℕ). replicate n 0) (rest_length z);
      }

  pub heard : WellFormed s → well_formed s ≡ true
  unfolding well_formed
  heard w =
      joined (true_labelled s w.marked w.version)
      (joined (true_sized (length s) (capacity_in s) (count_in s) (record { least = w.least; most = w.most; whole = w.size; within = w.count }))
      (joined (true_levelled (state_in s) (starting_in s) (depth_in s) (count_in s) (record { flag = w.state; started = w.started; deepest = w.depth; burst = w.burst }))
      (joined (joined (true_rises (records_in s) w.rising) (true_stand (depth_in s) (overlay_in s) (records_in s) w.fitting w.near))
      (ap zeros w.cleared ∙ true_zeros (145 * (capacity_in s - count_in s))))))

pub tested : Tested
tested s b = (said s b, heard s)
