-- The test of a list agrees with the sentence.
use mathlib.Core.Path.{◌≡◌, refl, ap}
use mathlib.Core.Bool.{Bool, true, false, ◌&&◌, false≢true}
use mathlib.Core.List.{List, [], ◌∷◌}
use Prim.Native.Nat.{ℕ, zero, suc, ◌+◌, ◌%◌, ◌≤◌, ◌<◌}
use native.Mathlib.Numerals.{add-one}
use native.Mathlib.Omega.{arith}
use lib.Dec.{eqb, leb}
use lib.ListN.{length, get_or, drop, drop_of_length-le}
use lib.Seq.{drop-cons}
use borrow.Author.Tests.{le-leb, leb-true, eq-eqb, ne_eqb, eqb-true}
use Rattle.std.specs.declared.cmp.Ordering.TheVariants.{Less}
use Rattle.std.specs.Ordering.{is_lt}
use Rattle.octets.specs.Order.{byte_order}
use Rattle.octets.proofs.Ordered.{is_less_lem, less_trans}
use Rattle.batches.specs.Batch.{record_length, id_of, depth_of, Fit, WellListed, records, fit, precedes, below, ordered, well_listed}
use Rattle.batches.proofs.Records.{length_records, records_at}

-- tests

pub both : (p q : Bool) → (p && q) ≡ true → (p ≡ true) × (q ≡ true)
both true q e = (refl, e)
both false q e = absurd (false≢true e)

-- a batch

pub fit_sound : (batch : List ℕ) → fit batch ≡ true → Fit batch
unfolding fit
fit_sound batch e =
    let h = both (leb 17 (depth_of batch)) (leb (depth_of batch) 40) e in
    record { least = leb-true _ _ h.0; most = leb-true _ _ h.1 }

pub fit_complete : (batch : List ℕ) → Fit batch → fit batch ≡ true
unfolding fit
fit_complete batch h = rw (le-leb _ _ h.least, le-leb _ _ h.most)

-- batches in a row

pub record Sound (batches : List (List ℕ)) : Type 0 where
  pub all_fit : (i : ℕ) → i < length batches → Fit (get_or batches i [])
  pub ascending : (i j : ℕ) → i < j → j < length batches → byte_order (id_of (get_or batches i [])) (id_of (get_or batches j [])) ≡ Less

-- one batch more in front: it is below the first of the others, and so below all
below_all : (batch : List ℕ) (rest : List (List ℕ)) → below batch rest ≡ true → Sound rest → (j : ℕ) → j < length rest → byte_order (id_of batch) (id_of (get_or rest j [])) ≡ Less
unfolding below
below_all batch [] e s j h = absurd (omega arith)
below_all batch (next ∷ rest) e s zero h = is_less_lem (byte_order (id_of batch) (id_of next)) e
below_all batch (next ∷ rest) e s (suc j) h =
    less_trans (id_of batch) (id_of next) (id_of (get_or rest j []))
    (is_less_lem (byte_order (id_of batch) (id_of next)) e)
    (s.ascending 0 (suc j) (omega arith) h)

sound_more : (batch : List ℕ) (rest : List (List ℕ)) → fit batch ≡ true → below batch rest ≡ true → Sound rest → Sound (batch ∷ rest)
sound_more batch rest f b s = record { all_fit = all; ascending = up }
  where
    all : (i : ℕ) → i < suc (length rest) → Fit (get_or (batch ∷ rest) i [])
    all zero h = fit_sound batch f
    all (suc i) h = s.all_fit i (omega arith)

    up : (i j : ℕ) → i < j → j < suc (length rest) → byte_order (id_of (get_or (batch ∷ rest) i [])) (id_of (get_or (batch ∷ rest) j [])) ≡ Less
    up i zero h k = absurd (omega arith)
    up zero (suc j) h k = below_all batch rest b s j (omega arith)
    up (suc i) (suc j) h k = s.ascending i j (omega arith) (omega arith)

pub ordered_sound : (batches : List (List ℕ)) → ordered batches ≡ true → Sound batches
unfolding ordered
ordered_sound [] e = record { all_fit = λ i h. absurd (omega arith); ascending = λ i j h k. absurd (omega arith) }
ordered_sound (batch ∷ rest) e =
    let here = both (fit batch) (below batch rest && ordered rest) e in
    let after = both (below batch rest) (ordered rest) here.1 in
    sound_more batch rest here.0 after.0 (ordered_sound rest after.1)

below_first : (batch : List ℕ) (rest : List (List ℕ)) → Sound (batch ∷ rest) → below batch rest ≡ true
unfolding below
below_first batch [] s = refl
below_first batch (next ∷ rest) s = ap is_lt (s.ascending 0 1 (omega arith) (omega arith))

pub ordered_complete : (batches : List (List ℕ)) → Sound batches → ordered batches ≡ true
unfolding ordered
ordered_complete [] s = refl
ordered_complete (batch ∷ rest) s =
    let others : Sound rest = record { all_fit = λ i h. s.all_fit (suc i) (omega arith); ascending = λ i j h k. s.ascending (suc i) (suc j) (omega arith) (omega arith) } in
    rw (fit_complete batch (s.all_fit 0 (omega arith)), below_first batch rest s, ordered_complete rest others)

-- ---- what a turn of the walk over the records finds

module _ (l : List (List ℕ)) (i : ℕ) where
  -- the record at i, its neighbour, and the others
  pub turn : i < length l → ordered (drop i l) ≡ (fit (get_or l i []) && (below (get_or l i []) (drop (i + 1) l) && ordered (drop (i + 1) l)))
  unfolding ordered
  turn h = rw (add-one, drop-cons l i [] h) refl

  -- nothing is left
  pub none_left : length l ≤ i → ordered (drop i l) ≡ true
  unfolding ordered
  none_left h = rw (drop_of_length-le l h) refl

  module _ (r : List ℕ) where
    -- the last record has no neighbour
    pub last_rises : length l ≤ i + 1 → below r (drop (i + 1) l) ≡ true
    unfolding below
    last_rises h = rw (drop_of_length-le l h) refl

    -- and any other the next one
    pub next_rises : i + 1 < length l → below r (drop (i + 1) l) ≡ precedes r (get_or l (i + 1) [])
    unfolding below
    next_rises h = rw (drop-cons l (i + 1) [] h) refl

-- whole records in order
pub whole_in_order : (list : List ℕ) (r : Bool) → length list % record_length ≡ 0 → r ≡ ordered (records list) → r ≡ well_listed list
unfolding well_listed
whole_in_order list r h e = rw (eq-eqb _ _ h) e

pub not_whole : (list : List ℕ) → (length list % record_length ≡ 0 → ⊥) → false ≡ well_listed list
unfolding well_listed
not_whole list h = rw (ne_eqb _ _ h)

-- ---- test and sentence

pub well_listed_sound : (list : List ℕ) → well_listed list ≡ true → WellListed list
unfolding well_listed
well_listed_sound list e =
    let h = both (eqb (length list % record_length) 0) (ordered (records list)) e in
    let s = ordered_sound (records list) h.1 in
    let n = length_records list in
    record {
      whole = eqb-true _ _ h.0;
      all_fit = λ i k. rw (records_at list i k) at (s.all_fit i (omega arith));
      ascending = λ i j k l. rw (records_at list i (omega arith), records_at list j l) at (s.ascending i j k (omega arith));
    }

pub well_listed_complete : (list : List ℕ) → WellListed list → well_listed list ≡ true
unfolding well_listed
well_listed_complete list w =
    let n = length_records list in
    let s : Sound (records list) =
    record {
      all_fit = λ i k. rw (records_at list i (omega arith)) (w.all_fit i (omega arith));
      ascending = λ i j k l. rw (records_at list i (omega arith), records_at list j (omega arith)) (w.ascending i j k (omega arith));
    } in
    rw (eq-eqb _ _ w.whole, ordered_complete (records list) s)
