-- What a turn of the pass over a book finds.
use mathlib.Core.Path.{◌≡◌, refl, sym, ap, ◌∙◌}
use mathlib.Core.Bool.{Bool, true, false, ◌&&◌}
use mathlib.Core.Logic.{◌⊎◌, inl, inr}
use mathlib.Core.List.{List, [], ◌∷◌}
use Prim.Native.Nat.{ℕ, suc, ◌+◌, ◌≤◌, ◌<◌}
use native.Mathlib.Numerals.{add-one}
use native.Mathlib.Nat.{le_of_lt, le_of_eq}
use native.Mathlib.Omega.{arith}
use lib.Bits.{bit_or, or_add_and, and_le_l, and_le_r}
use lib.Dec.{eqb, ltb}
use lib.ListN.{length, get_or, take, drop, drop_of_length-le}
use lib.Seq.{drop-cons, length-take-le}
use borrow.Author.Tests.{eq-eqb, ne_eqb, eqb-true, eqb-false, le-ltb, lt-ltb}
use Rattle.std.specs.List.{starts_with}
use Rattle.std.specs.declared.cmp.Ordering.{Ordering}
use Rattle.std.specs.Ordering.{ordering_then, is_lt, is_eq}
use Rattle.octets.specs.Order.{byte_order, number_order}
use Rattle.octets.specs.Bytes.{Bytes}
use Rattle.octets.proofs.Bytes.{bytes_take}
use Rattle.octets.proofs.Ordered.{compared, number_less, number_same, number_more, order_number}
use Rattle.records.specs.Record.{slot}
use Rattle.wellformed.specs.Check.{stands, all_stand, rises, zeros}
use Rattle.book.specs.Layout.{mark, mark_in}
use Rattle.book.proofs.Truths.{paired}

-- zeros

pub zeros_nil : zeros [] ≡ true
unfolding zeros
zeros_nil = refl

pub zeros_cons : (x : ℕ) (s : List ℕ) → zeros (x ∷ s) ≡ (eqb x 0 && zeros s)
unfolding zeros
zeros_cons x s = refl

pub grouped : (a b c : Bool) → (a && (b && c)) ≡ ((a && b) && c)
grouped true b c = refl
grouped false b c = refl

-- two numbers joined are zero where both are
joined_zero : (x y : ℕ) → eqb (bit_or x y) 0 ≡ (eqb x 0 && eqb y 0)
joined_zero x y = go (eqb x 0) (eqb y 0) refl refl
  where
    go : (t u : Bool) → eqb x 0 ≡ t → eqb y 0 ≡ u → eqb (bit_or x y) 0 ≡ (t && u)
    go true true e f = eq-eqb (bit_or x y) 0 (omega (arith, eqb-true x 0 e, eqb-true y 0 f, or_add_and x y))
    go true false e f = ne_eqb (bit_or x y) 0 (λ q. eqb-false y 0 f (omega (arith, q, or_add_and x y, and_le_l x y)))
    go false u e f = ne_eqb (bit_or x y) 0 (λ q. eqb-false x 0 e (omega (arith, q, or_add_and x y, and_le_r x y)))

module _ (s : List ℕ) (i : ℕ) where
  -- a byte
  byte_zero : i < length s → zeros (drop i s) ≡ (eqb (get_or s i 0) 0 && zeros (drop (i + 1) s))
  byte_zero h = rw (add-one, drop-cons s i 0 h) (zeros_cons (get_or s i 0) (drop (suc i) s))

  -- a byte joined to those before
  pub byte_joined : (joined : ℕ) → i < length s → (eqb joined 0 && zeros (drop i s)) ≡ (eqb (bit_or joined (get_or s i 0)) 0 && zeros (drop (i + 1) s))
  byte_joined joined h = rw (byte_zero h, joined_zero joined (get_or s i 0)) (grouped (eqb joined 0) (eqb (get_or s i 0) 0) (zeros (drop (i + 1) s)))

  -- nothing is left
  pub none_left : length s ≤ i → zeros (drop i s) ≡ true
  none_left h = rw (drop_of_length-le s h) zeros_nil

-- the pass over the records

module _ (depth : ℕ) (overlay : List ℕ) where
  -- both tests of the records
  abbrev pub both_hold : List (List ℕ) → Bool
  both_hold l = rises l && all_stand depth overlay l

  -- the first record with its neighbour, and the others
  pub both_first : (r : List ℕ) (l : List (List ℕ)) → both_hold (r ∷ l) ≡ (stands depth overlay r && (rises (take 2 (r ∷ l)) && both_hold l))
  unfolding rises all_stand
  both_first r [] = turned (stands depth overlay r)
    where
      turned : (a : Bool) → (true && (a && true)) ≡ (a && (true && (true && true)))
      turned true = refl
      turned false = refl
  both_first r (q ∷ l) = paired (ltb (slot r) (slot q)) (rises (q ∷ l)) (stands depth overlay r) (all_stand depth overlay (q ∷ l)) ∙ one
    where
      one : (stands depth overlay r && (ltb (slot r) (slot q) && (rises (q ∷ l) && all_stand depth overlay (q ∷ l))))
          ≡ (stands depth overlay r && ((ltb (slot r) (slot q) && true) && (rises (q ∷ l) && all_stand depth overlay (q ∷ l))))
      one = ap (λ (b : Bool). stands depth overlay r && (b && (rises (q ∷ l) && all_stand depth overlay (q ∷ l)))) (kept (ltb (slot r) (slot q)))
        where
          kept : (a : Bool) → a ≡ (a && true)
          kept true = refl
          kept false = refl

-- the mark: one byte after another decides, as the order of the two does
pub marked : (s : List ℕ) → 3 ≤ length s → starts_with eqb s mark ≡ is_eq (byte_order (mark_in s) mark)
unfolding byte_order
marked [] h = absurd (omega arith)
marked (a ∷ []) h = absurd (omega arith)
marked (a ∷ b ∷ []) h = absurd (omega arith)
marked (a ∷ b ∷ c ∷ s) h = sym (one a 0x52 _ ∙ ap (λ (x : Bool). eqb 0x52 a && x) (one b 0x53 _ ∙ ap (λ (x : Bool). eqb 0x53 b && x) (one c 0x56 _)))
  where
    one : (x y : ℕ) (o : Ordering) → is_eq (ordering_then (number_order x y) o) ≡ (eqb y x && is_eq o)
    one x y o = go (compared x y)
      where
        go : (x < y) ⊎ ((x ≡ y) ⊎ (y < x)) → is_eq (ordering_then (number_order x y) o) ≡ (eqb y x && is_eq o)
        go (inl h) = rw (number_less x y h, ne_eqb y x (λ e. omega arith))
        go (inr (inl h)) = rw (number_same x y h, eq-eqb y x (sym h))
        go (inr (inr h)) = rw (number_more x y h, ne_eqb y x (λ e. omega arith))

-- a slot stands below another as their bytes do
pub slots_below : (r q : List ℕ) → length r ≡ 145 → length q ≡ 145 → Bytes r → Bytes q → is_lt (byte_order (take 40 r) (take 40 q)) ≡ ltb (slot r) (slot q)
slots_below r q h k b d =
    let e : length (take 40 r) ≡ length (take 40 q) = length-take-le 40 r (omega arith) ∙ sym (length-take-le 40 q (omega arith)) in
    ap is_lt (order_number (take 40 r) (take 40 q) e (bytes_take 40 r b) (bytes_take 40 q d)) ∙ less_is (slot r) (slot q)
  where
    less_is : (a c : ℕ) → is_lt (number_order a c) ≡ ltb a c
    less_is a c = go (compared a c)
      where
        go : (a < c) ⊎ ((a ≡ c) ⊎ (c < a)) → is_lt (number_order a c) ≡ ltb a c
        go (inl q) = rw (number_less a c q, lt-ltb a c q)
        go (inr (inl q)) = rw (number_same a c q, le-ltb a c (le_of_eq (sym q)))
        go (inr (inr q)) = rw (number_more a c q, le-ltb a c (le_of_lt q))

module _ (l : List (List ℕ)) (i : ℕ) (r : List ℕ) where
  -- the last record has no neighbour
  pub last_rises : length l ≤ i + 1 → rises (take 2 (r ∷ drop (i + 1) l)) ≡ true
  unfolding rises
  last_rises h = rw (drop_of_length-le l {i = i + 1} h)

  pub next_rises : i + 1 < length l → rises (take 2 (r ∷ drop (i + 1) l)) ≡ ltb (slot r) (slot (get_or l (i + 1) []))
  unfolding rises
  next_rises h = rw (drop-cons l (i + 1) [] h) (kept (ltb (slot r) (slot (get_or l (i + 1) []))))
    where
      kept : (a : Bool) → (a && true) ≡ a
      kept true = refl
      kept false = refl

module _ (depth : ℕ) (overlay : List ℕ) (l : List (List ℕ)) (i : ℕ) where
  -- a turn of the pass
  pub turn : i < length l → both_hold depth overlay (drop i l) ≡ (stands depth overlay (get_or l i []) && (rises (take 2 (get_or l i [] ∷ drop (i + 1) l)) && both_hold depth overlay (drop (i + 1) l)))
  turn h = rw (add-one, drop-cons l i [] h) (both_first depth overlay (get_or l i []) (drop (suc i) l))

  pub passed : length l ≤ i → both_hold depth overlay (drop i l) ≡ true
  unfolding rises all_stand
  passed h = rw (drop_of_length-le l h)
