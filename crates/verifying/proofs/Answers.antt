-- The theorems in the answers of the calls: what they tell, and when they are given.
use mathlib.Core.Bool.{Bool, true, false, cond, ◌&&◌}
use mathlib.Core.List.{List, ◌++◌}
use mathlib.Core.Path.{◌≡◌, refl, ◌∙◌, sym}
use Prim.Native.Nat.{ℕ, ◌≤◌}
use lib.Dec.{eqb, ltb}
use lib.ListN.{length}
use borrow.Author.Tests.{eq-eqb, le-ltb, eqb-true, ltb-false}
use Rattle.octets.specs.Order.{byte_order}
use Rattle.std.specs.declared.cmp.Ordering.{Ordering}
use Rattle.std.specs.declared.cmp.Ordering.TheVariants as Ordered
use Rattle.octets.proofs.Ordered.{order_self, same_equal}
use Rattle.keccak.specs.Collision.{Collision}
use Rattle.merkle.specs.Tree.{address_of}
use Rattle.merkle.specs.Proof.{rebuilt, proof_of, check_hashed}
use Rattle.merkle.proofs.Theorems.{address_length, honest_proof_length, honest_proof_passes, two_proofs_collide}
use Rattle.std.specs.Prelude.{Ok, Err}
use Rattle.verifying.specs.declared.checking.CheckError.TheVariants as Refused
use Rattle.verifying.specs.Answer.{verdict, checked}

-- ---- what passes

pub record Passing (prefix address : List ℕ) (index : ℕ) (proof : List ℕ) : Type 0 where
  pub address32 : length address ≡ 32
  pub proof264 : length proof ≡ 264
  pub in_tree : index ≤ 127
  pub leads : rebuilt prefix index proof ≡ address

-- a proof passes where it leads to the address
pub passes : (prefix address : List ℕ) (index : ℕ) (proof : List ℕ) → Passing prefix address index proof → checked prefix address index proof ≡ Ok tt
unfolding checked
passes prefix address index proof h =
    rw (eq-eqb _ _ h.address32, eq-eqb _ _ h.proof264, le-ltb _ _ h.in_tree, h.leads, order_self)

-- and nowhere else
pub passed : (prefix address : List ℕ) (index : ℕ) (proof : List ℕ) → checked prefix address index proof ≡ Ok tt → Passing prefix address index proof
unfolding checked
passed prefix address index proof =
    by (eqb (length address) 32) (eqb (length proof) 264) (ltb 127 index) (byte_order (rebuilt prefix index proof) address) refl refl refl refl
  where
    by : (a p i : Bool) (o : Ordering) → eqb (length address) 32 ≡ a → eqb (length proof) 264 ≡ p → ltb 127 index ≡ i → byte_order (rebuilt prefix index proof) address ≡ o
        → cond (a && p) (cond i (Err Refused.NoSegment) (verdict o)) (Err Refused.WrongLength) ≡ Ok tt → Passing prefix address index proof
    by true true false Ordered.Equal a p i o e = record { address32 = eqb-true _ _ a; proof264 = eqb-true _ _ p; in_tree = ltb-false _ _ i; leads = same_equal _ _ o }
    by true true false Ordered.Less a p i o e = absurd cc
    by true true false Ordered.Greater a p i o e = absurd cc
    by true true true o a p i q e = absurd cc
    by true false i o a p j q e = absurd cc
    by false p i o a q j r e = absurd cc

-- ---- demand 2, for proofs

-- an honest proof passes
pub honest_passes : (prefix span chunk : List ℕ) (index : ℕ) → length span ≡ 8 → index ≤ 127
    → checked prefix (address_of prefix span chunk) index (proof_of prefix span chunk index) ≡ Ok tt
honest_passes prefix span chunk index h i =
    passes prefix (address_of prefix span chunk) index (proof_of prefix span chunk index)
    (record {
      address32 = address_length prefix span chunk;
      proof264 = honest_proof_length prefix span chunk index h i;
      in_tree = i;
      leads = honest_proof_passes prefix span chunk index h i;
    })

-- two passing proofs that differ, for one address and index, exhibit two messages with one digest among those hashed to check them
pub passing_proofs_collide : (prefix address : List ℕ) (index : ℕ) (a b : List ℕ)
    → checked prefix address index a ≡ Ok tt → checked prefix address index b ≡ Ok tt → (a ≡ b → ⊥)
    → Collision (check_hashed prefix index a ++ check_hashed prefix index b)
passing_proofs_collide prefix address index a b pa pb differ =
    let fa = passed prefix address index a pa in
    let fb = passed prefix address index b pb in
    two_proofs_collide prefix index a b fa.proof264 fb.proof264 differ (fa.leads ∙ sym fb.leads)
