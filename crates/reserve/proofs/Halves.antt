-- The records of a book that have a slot below another's: they stand before all others.
use mathlib.Core.Path.{◌≡◌, refl, sym, ap, ◌∙◌}
use mathlib.Core.Bool.{Bool, true, false, false≢true}
use mathlib.Core.Logic.{◌⊎◌, inl, inr}
use mathlib.Core.List.{List, [], ◌∷◌}
use Prim.Native.Nat.{ℕ, zero, suc, ◌-◌, ◌/◌, ◌≤◌, ◌<◌}
use native.Mathlib.Nat.{le_refl}
use native.Mathlib.Omega.{arith}
use lib.ListN.{length, get_or, take, drop, length-drop}
use lib.Seq.{take_all, length-take-le}
use Rattle.std.specs.Simd.{first_chunks}
use Rattle.std.proofs.lemmas.List.{get_or_default}
use Rattle.std.specs.List.Sorted.{IsPartitionedBy, IsPartitionPoint}
use Rattle.std.specs.Ordering.{is_lt}
use Rattle.octets.specs.Bytes.{Bytes}
use Rattle.octets.specs.Order.{byte_order, number_order}
use Rattle.octets.specs.Pieces.{pieces}
use Rattle.octets.proofs.Bytes.{bytes_take}
use Rattle.octets.proofs.Pieces.{pieces_take}
use Rattle.octets.proofs.Ordered.{is_less_lem, compared, number_less, less_number, order_number}
use Rattle.settling.specs.Meaning.{Ascending}
use Rattle.settling.proofs.Cases.{Side, below, level, above, side}
use Rattle.settling.proofs.Places.{each_at, ascending_at}
use Rattle.records.specs.Record.{slot, Fitting}
use Rattle.book.specs.Shape.{shape_in}
use Rattle.book.specs.Layout.{overlay_in, capacity_in, count_in, records_in, WellFormed}
use Rattle.book.proofs.Slots.{rising_ascending}
use Rattle.reserve.specs.Place.{PlaceIn}

-- std's chunks of one width are pieces
pub chunked : (w n : ℕ) (s : List ℕ) → first_chunks w n s ≡ pieces w n s
unfolding pieces
chunked w zero s = refl
chunked w (suc n) s = ap (λ (l : List (List ℕ)). take w s ∷ l) (chunked w n (drop w s))

-- the records of a book, among the places that it has for them
module _ (s : List ℕ) (w : WellFormed s) (n : ℕ) (e : n ≡ count_in s) where
  abbrev rest : List ℕ
  rest = take (length s - 48) (drop 48 s)

  whole : rest ≡ drop 48 s
  whole = take_all (length s - 48) (drop 48 s) (omega (arith, length-drop 48 s))

  pub room : n ≤ length rest / 145
  room = rw whole (omega (arith, w.count, w.size, length-drop 48 s))

  pub records_there : take n (first_chunks 145 (length rest / 145) rest) ≡ records_in s
  records_there =
      ap (take n) (chunked 145 (length rest / 145) rest) ∙ pieces_take 145 n (length rest / 145) rest room
      ∙ ap (λ (t : List ℕ). pieces 145 n t) whole
      ∙ ap (λ (k : ℕ). pieces 145 k (drop 48 s)) e

-- whether a record's slot is below that of the given one, as its bytes tell
abbrev pub is_below : List ℕ → List ℕ → Bool
is_below given r = is_lt (byte_order (take 40 r) (take 40 given))

module _ (s given : List ℕ) (w : WellFormed s) (size : length given ≡ 145) (bytes : Bytes given) where
  abbrev at : ℕ → List ℕ
  at i = get_or (records_in s) i []

  ascending : Ascending (shape_in s) (records_in s)
  ascending = rising_ascending (overlay_in s) (capacity_in s) (records_in s) w.rising

  by_number : (r : List ℕ) → Fitting r → byte_order (take 40 r) (take 40 given) ≡ number_order (slot r) (slot given)
  by_number r fits =
      let n : length r ≡ 145 = fits.size in
      let long : length (take 40 r) ≡ length (take 40 given) = length-take-le 40 r (omega arith) ∙ sym (length-take-le 40 given (omega arith)) in
      order_number (take 40 r) (take 40 given) long (bytes_take 40 r fits.bytes) (bytes_take 40 given bytes)

  module _ (i : ℕ) (h : i < length (records_in s)) where
    fits : Fitting (at i)
    fits = each_at [] Fitting (records_in s) i w.fitting h

    told : is_below given (at i) ≡ true → slot (at i) < slot given
    told e = less_number (slot (at i)) (slot given) (sym (by_number (at i) fits) ∙ is_less_lem _ e)

    untold : is_below given (at i) ≡ false → slot given ≤ slot (at i)
    untold e = go (compared (slot (at i)) (slot given))
      where
        go : (slot (at i) < slot given) ⊎ ((slot (at i) ≡ slot given) ⊎ (slot given < slot (at i))) → slot given ≤ slot (at i)
        go (inl p) = absurd (false≢true (sym e ∙ ap is_lt (by_number (at i) fits ∙ number_less (slot (at i)) (slot given) p)))
        go (inr (inl p)) = omega arith
        go (inr (inr p)) = omega arith

    tells : slot (at i) < slot given → is_below given (at i) ≡ true
    tells p = ap is_lt (by_number (at i) fits ∙ number_less (slot (at i)) (slot given) p)

  pub parted : IsPartitionedBy (is_below given) (records_in s)
  parted i j d h k e =
      rw (get_or_default (records_in s) i d [] (omega (arith, h, k))) (tells i (omega (arith, h, k)) (go (side i j)))
    where
      x : is_below given (at j) ≡ true
      x = rw (get_or_default (records_in s) j d [] k) at e

      go : Side i j → slot (at i) < slot given
      go (below p) = let y : slot (at i) < slot (at j) = ascending_at (shape_in s) [] (records_in s) i j ascending p k in let z = told j k x in omega arith
      go (level p) = rw p (told j k x)
      go (above p) = absurd (omega arith)

  pub placed : (i : ℕ) → i ≤ length (records_in s) → IsPartitionPoint (λ r. is_below given r ≡ true) (λ r. is_below given r ≡ false) (records_in s) i
      → PlaceIn s (slot given) i
  placed i h p =
      record {
        ordered = le_refl i;
        bounded = h;
        lower = λ j q. told j (omega (arith, q, h)) (p.0 j [] (omega arith) q);
        upper = λ j q k. untold j k (p.1 j [] q k);
      }
