-- Looking a batch up: what there is to find, and how halving comes to it.
use mathlib.Core.Path.{◌≡◌, refl, sym, ap, ◌∙◌}
use mathlib.Core.Bool.{Bool, true, false, cond, false≢true}
use mathlib.Core.Logic.{◌⊎◌, inl, inr}
use mathlib.Core.List.{List, [], ◌∷◌}
use Prim.Native.Nat.{ℕ, zero, suc, ◌≤◌, ◌<◌}
use native.Mathlib.Nat.{eq-or-lt_of_le}
use native.Mathlib.Omega.{arith}
use lib.ListN.{length, get_or}
use Rattle.std.specs.declared.cmp.Ordering.{Ordering}
use Rattle.std.specs.declared.cmp.Ordering.TheVariants.{Less, Equal, Greater}
use Rattle.std.specs.Prelude.{Result, Ok, Err, Option, MatchOption}
use Rattle.std.specs.Result.{result_ok}
use Rattle.std.specs.List.{HoldsAt}
use Rattle.std.specs.List.Sorted.{IsNonDecreasingBy, IsPartitionPoint, IsSearchInRange, IsBinarySearchResult}
use Rattle.std.specs.Ordering.{ordering_index, is_eq}
use Rattle.octets.specs.Order.{byte_order}
use Rattle.octets.proofs.Ordered.{is_same_lem, compared, less_not_same, more_not_same, less_trans, order_self, same_equal}
use Rattle.batches.specs.Batch.{id_of, count, batch_at, Whole, WellListed, Listed, records, find}
use Rattle.batches.proofs.Records.{length_records, records_at, length_batch_at}

-- ---- nothing, or a batch with the id

abbrev Has : List (List ℕ) → List ℕ → ℕ → Type 0
Has batches id i = (i < length batches) × (id_of (get_or batches i []) ≡ id)

abbrev Cases : List (List ℕ) → List ℕ → List ℕ → Type 0
Cases batches id found = (((i : ℕ) → Has batches id i → ⊥) × (found ≡ [])) ⊎ ((i : ℕ) × (Has batches id i × (found ≡ get_or batches i [])))

cases : (id : List ℕ) (batches : List (List ℕ)) → Cases batches id (find id batches)
unfolding find
cases id [] = inl ((λ i h. omega arith), refl)
cases id (batch ∷ rest) = go (is_eq (byte_order (id_of batch) id)) refl (cases id rest)
  where
    go : (b : Bool) → is_eq (byte_order (id_of batch) id) ≡ b → Cases rest id (find id rest) → Cases (batch ∷ rest) id (cond b batch (find id rest))
    go true q r = inr (0, ((omega arith, same_equal (id_of batch) id (is_same_lem (byte_order (id_of batch) id) q)), refl))
    go false q (inr r) = inr (suc r.0, ((omega (arith, r.1.0.0), r.1.0.1), r.1.1))
    go false q (inl r) = inl (none, r.1)
      where
        none : (i : ℕ) → Has (batch ∷ rest) id i → ⊥
        none zero h = false≢true (sym q ∙ ap is_eq (ap (λ (l : List ℕ). byte_order l id) h.1 ∙ order_self id))
        none (suc i) h = r.0 i (omega (arith, h.0), h.1)

-- within a list it does not matter what stands for what lies outside
get_or-any : (xs : List (List ℕ)) (i : ℕ) (d e : List ℕ) → i < length xs → get_or xs i d ≡ get_or xs i e
get_or-any [] i d e h = absurd (omega arith)
get_or-any (x ∷ xs) zero d e h = refl
get_or-any (x ∷ xs) (suc i) d e h = get_or-any xs i d e (omega arith)

module _ (list id : List ℕ) where
  -- where no record has the id there are no bytes, and otherwise they are those of one that has it
  pub find_cases : ((Listed list id → ⊥) × (find id (records list) ≡ [])) ⊎ ((at : Listed list id) × (find id (records list) ≡ batch_at list at.0))
  find_cases = go (cases id (records list))
    where
      go : Cases (records list) id (find id (records list)) → ((Listed list id → ⊥) × (find id (records list) ≡ [])) ⊎ ((at : Listed list id) × (find id (records list) ≡ batch_at list at.0))
      go (inl r) = inl ((λ h. r.0 h.0 (omega (arith, length_records list, h.1), ap id_of (records_at list h.0 h.1) ∙ h.2)), r.1)
      go (inr r) =
          let i = r.0 in
          let h : i < count list = omega (arith, length_records list, r.1.0.0) in
          let e = records_at list i h in
          inr ((i, h, sym (ap id_of e) ∙ r.1.0.1), r.1.1 ∙ e)

  pub find_absent : (Listed list id → ⊥) → find id (records list) ≡ []
  find_absent f = go find_cases
    where
      go : ((Listed list id → ⊥) × (find id (records list) ≡ [])) ⊎ ((at : Listed list id) × (find id (records list) ≡ batch_at list at.0)) → find id (records list) ≡ []
      go (inl r) = r.1
      go (inr r) = absurd (f r.0)

  -- what is found is a record as it should be, with the id
  pub find_found : WellListed list → 0 < length (find id (records list)) → Whole (find id (records list)) × (id_of (find id (records list)) ≡ id)
  find_found w h = go find_cases
    where
      go : ((Listed list id → ⊥) × (find id (records list) ≡ [])) ⊎ ((at : Listed list id) × (find id (records list) ≡ batch_at list at.0))
          → Whole (find id (records list)) × (id_of (find id (records list)) ≡ id)
      go (inl r) = absurd (omega (arith, ap length r.1))
      go (inr r) =
          let at = r.0 in
          rw r.1 (record { all_there = length_batch_at list at.0 at.1; is_fit = w.all_fit at.0 at.1 }, at.2)

  -- in a well-formed list the record with the id is the one found
  pub find_held : WellListed list → (i : ℕ) → i < count list → id_of (batch_at list i) ≡ id → find id (records list) ≡ batch_at list i
  find_held w i h e = go find_cases
    where
      -- an id stands once
      apart : (a b : ℕ) → a < b → b < count list → id_of (batch_at list a) ≡ id_of (batch_at list b) → ⊥
      apart a b k l q = less_not_same (sym (w.ascending a b k l) ∙ ap (λ (x : List ℕ). byte_order x (id_of (batch_at list b))) q ∙ order_self (id_of (batch_at list b)))

      one : (j : ℕ) → j < count list → id_of (batch_at list j) ≡ id → (j < i) ⊎ ((j ≡ i) ⊎ (i < j)) → batch_at list j ≡ batch_at list i
      one j k f (inl l) = absurd (apart j i l h (f ∙ sym e))
      one j k f (inr (inl l)) = ap (batch_at list) l
      one j k f (inr (inr l)) = absurd (apart i j l k (e ∙ sym f))

      go : ((Listed list id → ⊥) × (find id (records list) ≡ [])) ⊎ ((at : Listed list id) × (find id (records list) ≡ batch_at list at.0)) → find id (records list) ≡ batch_at list i
      go (inl r) = absurd (r.0 (i, h, e))
      go (inr r) = let at = r.0 in r.1 ∙ one at.0 at.1 at.2 (compared at.0 i)

  -- ---- halving

  abbrev pub told : List ℕ → Ordering
  told batch = byte_order (id_of batch) id

  -- in a well-formed list what the records' ids are to this one rises
  rising : WellListed list → IsNonDecreasingBy (λ batch. ordering_index (told batch)) (records list)
  rising w i j d h k = rw (at_place i (omega (arith, length_records list)), at_place j (omega (arith, length_records list))) (go (eq-or-lt_of_le h))
    where
      at_place : (m : ℕ) → m < count list → get_or (records list) m d ≡ batch_at list m
      at_place m l = get_or-any (records list) m d [] (omega (arith, length_records list)) ∙ records_at list m l

      -- of two ids the lesser one is not above what the greater one is below
      risen : (o p : Ordering) → (p ≡ Less → o ≡ Less) → (p ≡ Equal → o ≡ Less) → ordering_index o ≤ ordering_index p
      risen o Less l e = rw (l refl) (omega arith)
      risen o Equal l e = rw (e refl) (omega arith)
      risen Less Greater l e = omega arith
      risen Equal Greater l e = omega arith
      risen Greater Greater l e = omega arith

      go : (i ≡ j) ⊎ (i < j) → ordering_index (told (batch_at list i)) ≤ ordering_index (told (batch_at list j))
      go (inl e) = rw e (omega arith)
      go (inr l) =
          let up = w.ascending i j l (omega (arith, length_records list)) in
          risen (told (batch_at list i)) (told (batch_at list j)) (less_trans (id_of (batch_at list i)) (id_of (batch_at list j)) id up)
          (λ e. ap (byte_order (id_of (batch_at list i))) (sym (same_equal (id_of (batch_at list j)) id e)) ∙ up)

  -- so a record that halving comes to is the one found
  halved_to : WellListed list → (i : ℕ) → i < length (records list) → HoldsAt (λ batch. told batch ≡ Equal) (records list) i → Whole (get_or (records list) i []) × (get_or (records list) i [] ≡ find id (records list))
  halved_to w i h e =
      let k : i < count list = omega (arith, length_records list) in
      let at = records_at list i k in
      (rw at (record { all_there = length_batch_at list i k; is_fit = w.all_fit i k }), at ∙ sym (find_held w i k (same_equal (id_of (batch_at list i)) id (rw at at (e [])))))

  -- and where it comes to none there is none
  halved_out : WellListed list → (i : ℕ)
      → (IsNonDecreasingBy (λ batch. ordering_index (told batch)) (records list) → IsPartitionPoint (λ batch. told batch ≡ Less) (λ batch. told batch ≡ Greater) (records list) i)
      → find id (records list) ≡ []
  halved_out w i p = find_absent (λ at. go at.0 at.1 at.2 (compared at.0 i))
    where
      off : (k : ℕ) → k < count list → id_of (batch_at list k) ≡ id → told (get_or (records list) k []) ≡ Equal
      off k h e = ap told (records_at list k h) ∙ ap (λ (x : List ℕ). byte_order x id) e ∙ order_self id

      go : (k : ℕ) → k < count list → id_of (batch_at list k) ≡ id → (k < i) ⊎ ((k ≡ i) ⊎ (i < k)) → ⊥
      go k h e (inl l) = less_not_same (sym ((p (rising w)).0 k [] (omega arith) l) ∙ off k h e)
      go k h e (inr (inl l)) = more_not_same (sym ((p (rising w)).1 k [] (omega arith) (omega (arith, length_records list))) ∙ off k h e)
      go k h e (inr (inr l)) = more_not_same (sym ((p (rising w)).1 k [] (omega arith) (omega (arith, length_records list))) ∙ off k h e)

  -- what the code has of it: the records as chunks, and the place as an option
  pub halved : WellListed list → (r : Result ℕ ℕ) (place : Option ℕ) → place ≡ result_ok r → (chunks : List (List ℕ)) → chunks ≡ records list → IsSearchInRange r (length chunks) → IsBinarySearchResult told chunks r
      → MatchOption place (find id (records list) ≡ []) (λ i. Whole (get_or chunks i []) × (get_or chunks i [] ≡ find id (records list)))
  halved w r place p chunks e = rw (p, e) (go r)
    where
      go : (r : Result ℕ ℕ) → IsSearchInRange r (length (records list)) → IsBinarySearchResult told (records list) r
          → MatchOption (result_ok r) (find id (records list) ≡ []) (λ i. Whole (get_or (records list) i []) × (get_or (records list) i [] ≡ find id (records list)))
      go (Ok i) b h = halved_to w i b h
      go (Err i) b h = halved_out w i h
