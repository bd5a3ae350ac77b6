-- The rank by three comparisons, of time, address and signature; and the choice that follows from it.
use mathlib.Core.Path.{◌≡◌, refl, sym, ap, ◌∙◌}
use mathlib.Core.List.{List, ◌++◌}
use Prim.Native.Nat.{ℕ}
use native.Mathlib.Omega.{arith}
use mathlib.Core.Bool.{Bool, true, false, cond, false≢true}
use lib.Dec.{eqb}
use lib.ListN.{length, take, drop}
use lib.Seq.{take-add, take_all, drop-drop, length-take-le}
use borrow.Author.Tests.{eqb-true, eq-eqb, ne_eqb}
use Rattle.std.specs.declared.cmp.Ordering.{Ordering}
use Rattle.std.specs.declared.cmp.Ordering.TheVariants.{Less, Equal, Greater}
use Rattle.std.specs.Ordering.{ordering_then, ordering_reverse, is_lt}
use Rattle.octets.specs.Order.{byte_order}
use Rattle.octets.specs.Bytes.{Bytes}
use Rattle.octets.specs.Number.{big}
use Rattle.octets.proofs.Bytes.{bytes_take}
use Rattle.octets.proofs.Numbers.{big_injective}
use Rattle.octets.proofs.Ordered.{order_self, same_equal}
use Rattle.records.specs.declared.rank.Choice.{Choice}
use Rattle.records.specs.declared.rank.Choice.TheVariants.{First, Second, Neither}
use Rattle.records.specs.Record.{slot, time_in, address_in, signature_in}
use Rattle.records.specs.Rank.{rank_order, beats}
use Rattle.records.specs.Order.{rank_turned}
use Rattle.records.specs.Choice.{choice, preferred}

-- a last comparison that says Equal wherever the others do adds nothing
last_same : (o p q r : Ordering) → (o ≡ Equal → p ≡ Equal → q ≡ Equal → r ≡ Equal) → ordering_then (ordering_reverse o) (ordering_then p (ordering_then q r)) ≡ ordering_then (ordering_reverse o) (ordering_then p q)
last_same Less p q r h = refl
last_same Greater p q r h = refl
last_same Equal Less q r h = refl
last_same Equal Greater q r h = refl
last_same Equal Equal Less r h = refl
last_same Equal Equal Greater r h = refl
last_same Equal Equal Equal r h = h refl refl refl

whole : (a : List ℕ) → length a ≡ 145 → a ≡ take 40 a ++ (time_in a ++ (address_in a ++ signature_in a))
whole a h =
    let one : take 105 (drop 40 a) ≡ time_in a ++ take 97 (drop 8 (drop 40 a)) = take-add 8 97 (drop 40 a) in
    let two : take 97 (drop 48 a) ≡ address_in a ++ take 65 (drop 32 (drop 48 a)) = take-add 32 65 (drop 48 a) in
    sym (take_all 145 a (omega arith)) ∙ take-add 40 105 a
    ∙ ap (λ (t : List ℕ). take 40 a ++ t) (one ∙ rw (drop-drop 8 40 a, two, drop-drop 32 48 a))

module _ (a b : List ℕ) (size-a : length a ≡ 145) (size-b : length b ≡ 145) (one-slot : take 40 a ≡ take 40 b) where
  equal : byte_order (time_in a) (time_in b) ≡ Equal → byte_order (address_in a) (address_in b) ≡ Equal → byte_order (signature_in a) (signature_in b) ≡ Equal → a ≡ b
  equal t x y =
      let t' = same_equal (time_in a) (time_in b) t in
      let x' = same_equal (address_in a) (address_in b) x in
      let y' = same_equal (signature_in a) (signature_in b) y in
      whole a size-a ∙ (λ k. one-slot k ++ (t' k ++ (x' k ++ y' k))) ∙ sym (whole b size-b)

  pub by_three : rank_order a b ≡ ordering_then (ordering_reverse (byte_order (time_in a) (time_in b))) (ordering_then (byte_order (address_in a) (address_in b)) (byte_order (signature_in a) (signature_in b)))
  unfolding rank_order
  by_three =
      last_same (byte_order (time_in a) (time_in b)) (byte_order (address_in a) (address_in b)) (byte_order (signature_in a) (signature_in b)) (byte_order a b)
      (λ t x y. rw (equal t x y) (order_self b))

-- the choice between two records of 145 bytes
second_first : (o : Ordering) → cond (is_lt (ordering_reverse o)) Second First ≡ preferred o
second_first Less = refl
second_first Equal = refl
second_first Greater = refl

-- which verdict it is, as a number
abbrev which : Choice → ℕ
which First = 0
which Second = 1
which Neither = 2

verdict : Bool → Bool → Choice
verdict one-slot lower = cond one-slot (cond lower Second First) Neither

first_told : (p q : Bool) → verdict p q ≡ First → (p ≡ true) × (q ≡ false)
unfolding verdict
first_told true true e = absurd (omega (arith, ap which e))
first_told true false e = (refl, refl)
first_told false q e = absurd (omega (arith, ap which e))

second_told : (p q : Bool) → verdict p q ≡ Second → (p ≡ true) × (q ≡ true)
unfolding verdict
second_told true true e = (refl, refl)
second_told true false e = absurd (omega (arith, ap which e))
second_told false q e = absurd (omega (arith, ap which e))

neither_told : (p q : Bool) → verdict p q ≡ Neither → p ≡ false
unfolding verdict
neither_told true true e = absurd (omega (arith, ap which e))
neither_told true false e = absurd (omega (arith, ap which e))
neither_told false q e = refl

module _ (a b : List ℕ) (size-a : length a ≡ 145) (size-b : length b ≡ 145) where
  judged : choice a b ≡ verdict (eqb (slot a) (slot b)) (beats b a)
  unfolding choice verdict
  judged = rw (eq-eqb (length a) 145 size-a, eq-eqb (length b) 145 size-b)

  pub choice_one_slot : take 40 a ≡ take 40 b → choice a b ≡ preferred (rank_order a b)
  unfolding verdict beats
  choice_one_slot e = judged ∙ rw (eq-eqb (slot a) (slot b) (ap big e), rank_turned a b) (second_first (rank_order a b))

  pub choice_two_slots : Bytes a → Bytes b → (byte_order (take 40 a) (take 40 b) ≡ Equal → ⊥) → choice a b ≡ Neither
  unfolding verdict
  choice_two_slots p q h =
      let long : length (take 40 a) ≡ length (take 40 b) = length-take-le 40 a (omega (arith, size-a)) ∙ sym (length-take-le 40 b (omega (arith, size-b))) in
      let apart : slot a ≡ slot b → ⊥ = λ e. h (rw (big_injective (take 40 a) (take 40 b) long (bytes_take 40 a p) (bytes_take 40 b q) e) (order_self (take 40 b))) in
      judged ∙ rw (ne_eqb (slot a) (slot b) apart)

  -- and back, from the verdict
  pub first_says : choice a b ≡ First → (slot a ≡ slot b) × (beats b a ≡ false)
  first_says e = let p = first_told (eqb (slot a) (slot b)) (beats b a) (sym judged ∙ e) in (eqb-true _ _ p.0, p.1)

  pub second_says : choice a b ≡ Second → (slot a ≡ slot b) × (beats b a ≡ true)
  second_says e = let p = second_told (eqb (slot a) (slot b)) (beats b a) (sym judged ∙ e) in (eqb-true _ _ p.0, p.1)

  pub neither_says : choice a b ≡ Neither → slot a ≡ slot b → ⊥
  neither_says e h = false≢true (sym (neither_told (eqb (slot a) (slot b)) (beats b a) (sym judged ∙ e)) ∙ eq-eqb (slot a) (slot b) h)
