-- Sixteen different pairs: there are such exactly when sixteen are gathered.
use mathlib.Core.Path.{◌≡◌, refl, sym, ap}
use mathlib.Core.Logic.{◌⊎◌, inl, inr}
use mathlib.Core.List.Memᴰ
use mathlib.Core.List.{List, [], ◌∷◌, Memᴰ}
use Prim.Native.Nat.{ℕ, suc, ◌+◌, ◌≤◌}
use native.Mathlib.Omega.{arith}
use lib.ListN.{length, length-take}
use Rattle.octets.specs.Order.{byte_order}
use Rattle.std.specs.declared.cmp.Ordering.{Ordering}
use Rattle.std.specs.declared.cmp.Ordering.TheVariants.{Less, Equal, Greater}
use Rattle.octets.proofs.Ordered.{same_equal}
use Rattle.sample.specs.Sample.{standing, entered, gathered, sixteen, Ascending}
use Rattle.draw.specs.Theorems.{Different, SixteenAmong}
use Rattle.sample.proofs.Entering.{entered_from, ascending_head, ascending_tail, less_not_self}
use Rattle.sample.proofs.Gathering.{gathered_has, all_from, all_ascending, sixteen_smallest}
use Rattle.sample.proofs.Chosen.{within_length}

ascending_different : (l : List (List ℕ)) → Ascending l → Different l
ascending_different [] a = tt
ascending_different (p ∷ l) a = (λ m. less_not_self p (ascending_head p l a p m), ascending_different l (ascending_tail p l a))

-- ---- each different pair takes a place of its own

entered_longer : (p : List ℕ) (l : List (List ℕ)) → (Memᴰ p l → ⊥) → length (entered p l) ≡ suc (length l)
unfolding entered
entered_longer p [] never = refl
entered_longer p (q ∷ l) never = go (byte_order p q) refl (entered_longer p l (λ m. never (Memᴰ.tail m)))
  where
    go : (o : Ordering) → byte_order p q ≡ o → length (entered p l) ≡ suc (length l) → length (standing o p q l (entered p l)) ≡ suc (length (q ∷ l))
    go Less e further = refl
    go Equal e further = absurd (never (Memᴰ.head (same_equal p q e)))
    go Greater e further = ap suc further

gathered_longer : (held l : List (List ℕ)) → Different l → ((p : List ℕ) → Memᴰ p l → Memᴰ p held → ⊥) → length (gathered held l) ≡ length held + length l
unfolding gathered
gathered_longer held [] d apart = omega arith
gathered_longer held (p ∷ l) d apart =
    let here = entered_longer p held (apart p (Memᴰ.head refl)) in
    let rest = gathered_longer (entered p held) l d.1 later in
    omega (arith, here, rest)
  where
    later : (q : List ℕ) → Memᴰ q l → Memᴰ q (entered p held) → ⊥
    later q m k = go (entered_from p held q k)
      where
        go : (q ≡ p) ⊎ Memᴰ q held → ⊥
        go (inl e) = d.0 (Memᴰ.cast (sym e) m)
        go (inr h) = apart q (Memᴰ.tail m) h

-- ---- sixteen of them

pub enough_among : (pairs : List (List ℕ)) → length (sixteen pairs) ≡ 16 → SixteenAmong pairs
enough_among pairs e =
    let smallest = sixteen_smallest pairs e in
    record {
      chosen = sixteen pairs;
      number = e;
      different = ascending_different (sixteen pairs) smallest.ascending;
      among = smallest.among;
    }

pub among_enough : (pairs : List (List ℕ)) → SixteenAmong pairs → 16 ≤ length (sixteen pairs)
unfolding sixteen
among_enough pairs h =
    let all = gathered [] h.chosen in
    let long : length all ≡ 0 + length h.chosen = gathered_longer [] h.chosen h.different (λ p m k. absurd (Memᴰ.not-nil k)) in
    let inside = within_length all (gathered [] pairs) (all_ascending h.chosen) (all_ascending pairs) (λ r m. gathered_has [] pairs r (h.among r (all_from h.chosen r m))) in
    omega (arith, length-take 16 (gathered [] pairs), long, inside, h.number)
