-- A row of tests gives the answers in their order.
use mathlib.Core.Path.{◌≡◌, refl, sym, subst, ap, ◌∙◌}
use mathlib.Core.Bool.{Bool, true, false, ◌&&◌, false≢true}
use mathlib.Core.Logic.{◌⊎◌, inl, inr, ◌↔◌}
use mathlib.Core.List.{List, []}
use Prim.Native.Nat.{ℕ}
use native.Mathlib.Omega.{arith}
use lib.Dec.{eqb, ltb}
use lib.ListN.{length}
use borrow.Author.Tests.{lt-ltb, ltb-true, eq-eqb, eqb-true}
use Rattle.std.specs.Ordering.{is_eq}
use Rattle.octets.specs.Order.{byte_order}
use Rattle.octets.proofs.Ordered.{is_same_lem, order_self, same_equal}
use Rattle.std.specs.Prelude.{Result, Ok, Err}
use Rattle.postage.specs.declared.rules.StampError.{StampError}
use Rattle.postage.specs.declared.rules.StampError.TheVariants.{BadList, WrongLength, NoBatch, OtherBucket, IndexPast, NotOwner}
use Rattle.batches.specs.Batch.{Listed, batch_at, records, well_listed, find, owner_of, depth_of}
use Rattle.postage.specs.Stamp.{stamp_length, batch_in, bucket_in, index_in, bucket_of, slots_of}
use Rattle.postage.specs.Rules.{Passes, rule, in_bucket, in_slots, is_owner, judged, rules, checked}
use Rattle.postage.specs.InOrder.{Lengths, Kept, Given}
use Rattle.batches.proofs.Records.{length_batch_at}
use Rattle.batches.proofs.Listed.{both, well_listed_sound, well_listed_complete}
use Rattle.postage.proofs.Search.{find_cases}

-- ---- any tests of what the rules ask

abbrev row : Bool → Bool → Bool → Bool → Bool → Bool → Result (Unit {0}) StampError
row list lengths listed bucket index owner =
    rule list BadList (rule lengths WrongLength (rule listed NoBatch (rule bucket OtherBucket (rule index IndexPast (rule owner NotOwner Passes)))))

record Tests (kept : StampError → Type 0) (list lengths listed bucket index owner : Bool) : Type 0 where
  pub list_test : (list ≡ true) ↔ kept BadList
  pub lengths_test : (lengths ≡ true) ↔ kept WrongLength
  pub listed_test : (listed ≡ true) ↔ kept NoBatch
  pub bucket_test : (bucket ≡ true) ↔ kept OtherBucket
  pub index_test : (index ≡ true) ↔ kept IndexPast
  pub owner_test : (owner ≡ true) ↔ kept NotOwner

fails : {A : Type 0} → (false ≡ true) ↔ A → A → ⊥
fails t k = false≢true (t.1 k)

failed : {A : Type 0} (b : Bool) → (b ≡ true) ↔ A → (A → ⊥) → b ≡ false
failed true t n = absurd (n (t.0 refl))
failed false t n = refl

module _ (kept : StampError → Type 0) where
  -- the answer that comes out is given
  out : (a b c d e f : Bool) → Tests kept a b c d e f → Given kept (row a b c d e f)
  out false b c d e f t = fails t.list_test
  out true false c d e f t = (t.list_test.0 refl, fails t.lengths_test)
  out true true false d e f t = (t.list_test.0 refl, t.lengths_test.0 refl, fails t.listed_test)
  out true true true false e f t = (t.list_test.0 refl, t.lengths_test.0 refl, t.listed_test.0 refl, fails t.bucket_test)
  out true true true true false f t = (t.list_test.0 refl, t.lengths_test.0 refl, t.listed_test.0 refl, t.bucket_test.0 refl, fails t.index_test)
  out true true true true true false t =
      (t.list_test.0 refl, t.lengths_test.0 refl, t.listed_test.0 refl, t.bucket_test.0 refl, t.index_test.0 refl, fails t.owner_test)
  out true true true true true true t =
      (t.list_test.0 refl, t.lengths_test.0 refl, t.listed_test.0 refl, t.bucket_test.0 refl, t.index_test.0 refl, t.owner_test.0 refl)

  -- and one that is given comes out
  back : (a b c d e f : Bool) → Tests kept a b c d e f → (answer : Result (Unit {0}) StampError) → Given kept answer → row a b c d e f ≡ answer
  back a b c d e f t (Err BadList) g = rw (failed a t.list_test g)
  back a b c d e f t (Err WrongLength) g = rw (t.list_test.1 g.0, failed b t.lengths_test g.1)
  back a b c d e f t (Err NoBatch) g = rw (t.list_test.1 g.0, t.lengths_test.1 g.1, failed c t.listed_test g.2)
  back a b c d e f t (Err OtherBucket) g = rw (t.list_test.1 g.0, t.lengths_test.1 g.1, t.listed_test.1 g.2, failed d t.bucket_test g.3)
  back a b c d e f t (Err IndexPast) g =
      rw (t.list_test.1 g.0, t.lengths_test.1 g.1, t.listed_test.1 g.2, t.bucket_test.1 g.3, failed e t.index_test g.4)
  back a b c d e f t (Err NotOwner) g =
      rw (t.list_test.1 g.0, t.lengths_test.1 g.1, t.listed_test.1 g.2, t.bucket_test.1 g.3, t.index_test.1 g.4, failed f t.owner_test g.5)
  back a b c d e f t (Ok tt) g =
      rw (t.list_test.1 g.0, t.lengths_test.1 g.1, t.listed_test.1 g.2, t.bucket_test.1 g.3, t.index_test.1 g.4, t.owner_test.1 g.5)

-- ---- the tests of the rules

lengths_tested : (address stamp account : List ℕ) → ((eqb (length address) 32 && (eqb (length stamp) stamp_length && eqb (length account) 20)) ≡ true) ↔ Lengths address stamp account
lengths_tested address stamp account = (
  (λ e.
      let h = both (eqb (length address) 32) (eqb (length stamp) stamp_length && eqb (length account) 20) e in
      let k = both (eqb (length stamp) stamp_length) (eqb (length account) 20) h.1 in
      record { of_address = eqb-true _ _ h.0; of_stamp = eqb-true _ _ k.0; of_account = eqb-true _ _ k.1 }),
  λ h. rw (eq-eqb (length address) 32 h.of_address, eq-eqb (length stamp) stamp_length h.of_stamp, eq-eqb (length account) 20 h.of_account),
)

listed_tested : (list id : List ℕ) → (ltb 0 (length (find id (records list))) ≡ true) ↔ Listed list id
listed_tested list id = go (find_cases list id)
  where
    go : ((Listed list id → ⊥) × (find id (records list) ≡ [])) ⊎ ((at : Listed list id) × (find id (records list) ≡ batch_at list at.0))
        → (ltb 0 (length (find id (records list))) ≡ true) ↔ Listed list id
    go (inl r) = ((λ e. absurd (false≢true (rw r.1 at e))), λ h. absurd (r.0 h))
    go (inr r) = let at = r.0 in ((λ e. at), λ h. lt-ltb 0 (length (find id (records list))) (omega (arith, ap length r.1, length_batch_at list at.0 at.1)))

owner_tested : (batch account : List ℕ) → (is_owner batch account ≡ true) ↔ (account ≡ owner_of batch)
unfolding is_owner
owner_tested batch account =
    ((λ e. same_equal account (owner_of batch) (is_same_lem (byte_order account (owner_of batch)) e)), λ e. rw e (ap is_eq (order_self (owner_of batch))))

module _ (list address stamp account : List ℕ) where
  batch : List ℕ
  batch = find (batch_in stamp) (records list)

  lengths : Bool
  lengths = eqb (length address) 32 && (eqb (length stamp) stamp_length && eqb (length account) 20)

  tests : Tests (Kept list address stamp account) (well_listed list) lengths (ltb 0 (length batch)) (in_bucket address stamp) (in_slots batch stamp) (is_owner batch account)
  unfolding in_bucket in_slots batch lengths
  tests =
      record {
        list_test = (well_listed_sound list, well_listed_complete list);
        lengths_test = lengths_tested address stamp account;
        listed_test = listed_tested list (batch_in stamp);
        bucket_test = (eqb-true (bucket_in stamp) (bucket_of address), eq-eqb (bucket_in stamp) (bucket_of address));
        index_test = (ltb-true (index_in stamp) (slots_of (depth_of batch)), lt-ltb (index_in stamp) (slots_of (depth_of batch)));
        owner_test = owner_tested batch account;
      }

  checked_row : checked list address stamp account ≡ row (well_listed list) lengths (ltb 0 (length batch)) (in_bucket address stamp) (in_slots batch stamp) (is_owner batch account)
  unfolding checked rules judged batch lengths
  checked_row = refl

  pub in_order : (answer : Result (Unit {0}) StampError) → (checked list address stamp account ≡ answer) ↔ Given (Kept list address stamp account) answer
  in_order answer = (
    (λ e. subst (Given (Kept list address stamp account)) (sym checked_row ∙ e) (out (Kept list address stamp account) _ _ _ _ _ _ tests)),
    λ g. checked_row ∙ back (Kept list address stamp account) _ _ _ _ _ _ tests answer g,
  )
