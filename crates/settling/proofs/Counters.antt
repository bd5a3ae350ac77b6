-- Counting by nearness: a table of counters filled in one pass, and how many records each depth keeps by it.
use Prim.Native.Nat.{ℕ, zero, suc, ◌+◌, ◌-◌, ◌≤◌, ◌<◌, min}
use native.Mathlib.Omega.{arith}
use native.Mathlib.Numerals.{add-one}
use mathlib.Core.Path.{◌≡◌, refl, sym, ◌∙◌}
use mathlib.Core.List.{List, [], ◌∷◌, ◌++◌}
use lib.ListN.{length, take, drop, drop_of_length-le, get_or, set, replicate, length-set, length-replicate, get_or-replicate}
use lib.Seq.{take-suc, drop-cons, get_or-set_same, get_or-set_other}
use borrow.Author.Tests.{eq-eqb, ne_eqb}
use Rattle.settling.specs.Rank.{Shape}
use Rattle.settling.specs.Book.{inside}
use Rattle.settling.specs.Tally.{reach, tally, Counters, total}
use Rattle.settling.proofs.Cases.{Side, below, level, above, side, Limit, within, beyond, limit}
use Rattle.settling.proofs.Inside.{inside_nil, inside_in_lem, inside_out}

pub total_cons : (x : ℕ) (t : List ℕ) → total (x ∷ t) ≡ x + total t
unfolding total
total_cons x t = refl

total_one : (x : ℕ) → total (x ∷ []) ≡ x
unfolding total
total_one x = omega arith

module _ {A : Type 0} (B : Shape A) where
  open B use {slot, near, top}

  pub reach_is : (r : A) → reach B r ≡ min (near (slot r)) top
  unfolding reach
  reach_is r = refl

  pub tally_nil : (m : ℕ) → tally B m [] ≡ 0
  unfolding tally
  tally_nil m = refl

  pub tally_hit : (m : ℕ) (r : A) (l : List A) → reach B r ≡ m → tally B m (r ∷ l) ≡ 1 + tally B m l
  unfolding tally
  tally_hit m r l e = rw (eq-eqb (reach B r) m e)

  pub tally_miss : (m : ℕ) (r : A) (l : List A) → (reach B r ≡ m → ⊥) → tally B m (r ∷ l) ≡ tally B m l
  unfolding tally
  tally_miss m r l e = rw (ne_eqb (reach B r) m e) (omega arith)

  pub tally_append : (m : ℕ) (k l : List A) → tally B m (k ++ l) ≡ tally B m k + tally B m l
  unfolding tally
  tally_append m [] l = omega arith
  tally_append m (r ∷ k) l = rw (tally_append m k l) (omega arith)

  -- the records a depth keeps are those of its own reach and those the next depth keeps
  pub tally_next : (d : ℕ) (l : List A) → d < top → length (inside B d l) ≡ tally B d l + length (inside B (suc d) l)
  tally_next d [] p = rw (inside_nil B d, inside_nil B (suc d), tally_nil d)
  tally_next d (r ∷ l) p = go (tally_next d l p) (reach_is r) (side (near (slot r)) d)
    where
      go : length (inside B d l) ≡ tally B d l + length (inside B (suc d) l) → reach B r ≡ min (near (slot r)) top → Side (near (slot r)) d → length (inside B d (r ∷ l)) ≡ tally B d (r ∷ l) + length (inside B (suc d) (r ∷ l))
      go ih e (below q) = rw (inside_out B d r l q, inside_out B (suc d) r l (omega arith), tally_miss d r l (λ f. omega arith)) ih
      go ih e (level q) = rw (inside_in_lem B d r l (omega arith), inside_out B (suc d) r l (omega arith), tally_hit d r l (omega arith)) (omega arith)
      go ih e (above q) = rw (inside_in_lem B d r l (omega arith), inside_in_lem B (suc d) r l q, tally_miss d r l (λ f. omega arith)) (omega arith)

  pub tally_top : (l : List A) → length (inside B top l) ≡ tally B top l
  tally_top [] = rw (inside_nil B top, tally_nil top)
  tally_top (r ∷ l) = go (tally_top l) (reach_is r) (limit top (near (slot r)))
    where
      go : length (inside B top l) ≡ tally B top l → reach B r ≡ min (near (slot r)) top → Limit top (near (slot r)) → length (inside B top (r ∷ l)) ≡ tally B top (r ∷ l)
      go ih e (within q) = rw (inside_in_lem B top r l q, tally_hit top r l (omega arith)) (omega arith)
      go ih e (beyond q) = rw (inside_out B top r l q, tally_miss top r l (λ f. omega arith)) ih

  pub counters_none : Counters B (replicate {A = ℕ} (suc top) 0) []
  counters_none = record { size = length-replicate {A = ℕ} (suc top) 0; each = λ m h. get_or-replicate {A = ℕ} (suc top) m 0 0 (omega arith) ∙ sym (tally_nil m) }

  -- a record more raises the counter of its reach
  pub counters_more : (t : List ℕ) (l : List A) (r : A) (k : List A) → Counters B t l → ((m : ℕ) → tally B m k ≡ tally B m (r ∷ l)) → Counters B (set t (reach B r) (get_or t (reach B r) 0 + 1)) k
  counters_more t l r k w f = record { size = length-set t (reach B r) (get_or t (reach B r) 0 + 1) ∙ w.size; each = λ m h. go m h (side (reach B r) m) }
    where
      there : reach B r < length t
      there = let e : length t ≡ suc top = w.size in let q : reach B r ≡ min (near (slot r)) top = reach_is r in omega arith

      other : (m : ℕ) → m ≤ top → (reach B r ≡ m → ⊥) → (m ≡ reach B r → ⊥) → get_or (set t (reach B r) (get_or t (reach B r) 0 + 1)) m 0 ≡ tally B m k
      other m h e g = get_or-set_other t (reach B r) m (get_or t (reach B r) 0 + 1) 0 g ∙ w.each m h ∙ sym (f m ∙ tally_miss m r l e)

      go : (m : ℕ) → m ≤ top → Side (reach B r) m → get_or (set t (reach B r) (get_or t (reach B r) 0 + 1)) m 0 ≡ tally B m k
      go m h (below p) = other m h (λ e. omega arith) (λ e. omega arith)
      go m h (above p) = other m h (λ e. omega arith) (λ e. omega arith)
      go m h (level p) =
          let x : get_or t (reach B r) 0 ≡ tally B (reach B r) l = w.each (reach B r) (omega arith) in
          rw (← p) (get_or-set_same t (reach B r) (get_or t (reach B r) 0 + 1) 0 there ∙ omega (arith, x, f (reach B r), tally_hit (reach B r) r l refl))

  pub counters_cons : (t : List ℕ) (l : List A) (r : A) → Counters B t l → Counters B (set t (reach B r) (get_or t (reach B r) 0 + 1)) (r ∷ l)
  counters_cons t l r w = counters_more t l r (r ∷ l) w (λ m. refl)

  -- a pass over the records
  pub counters_next : (z : A) (t : List ℕ) (l : List A) (i : ℕ) → i < length l → Counters B t (take i l)
      → Counters B (set t (reach B (get_or l i z)) (get_or t (reach B (get_or l i z)) 0 + 1)) (take (i + 1) l)
  counters_next z t l i h w = counters_more t (take i l) (get_or l i z) (take (i + 1) l) w last
    where
      last : (m : ℕ) → tally B m (take (i + 1) l) ≡ tally B m (get_or l i z ∷ take i l)
      last m =
          rw (add-one i, take-suc l i z h)
          (tally_append m (take i l) (get_or l i z ∷ []) ∙ omega (arith, tally_append m (get_or l i z ∷ []) (take i l)))

  -- the counters from a depth on add up to the records that it keeps
  pub counters_total : (n c : ℕ) (t : List ℕ) (l : List A) → Counters B t l → n + c ≡ top → total (drop c t) ≡ length (inside B c l)
  counters_total zero c t l w e =
      let z : length t ≡ suc top = w.size in
      let k : get_or t top 0 ≡ tally B top l = w.each top (omega arith) in
      let q : c ≡ top = omega arith in
      rw (q, drop-cons t top 0 (omega arith), drop_of_length-le t {i = suc top} (omega arith), tally_top l) (total_one (get_or t top 0) ∙ k)
  counters_total (suc n) c t l w e =
      let z : length t ≡ suc top = w.size in
      let k : get_or t c 0 ≡ tally B c l = w.each c (omega arith) in
      let ih : total (drop (suc c) t) ≡ length (inside B (suc c) l) = counters_total n (suc c) t l w (omega arith) in
      rw (drop-cons t c 0 (omega arith), tally_next c l (omega arith)) (total_cons (get_or t c 0) (drop (suc c) t) ∙ omega (arith, k, ih))
