-- A stamp that passes makes a record that a book can hold.
use mathlib.Core.Path.{◌≡◌, refl, sym, ap, ◌∙◌}
use mathlib.Core.Logic.{◌⊎◌, inl, inr}
use mathlib.Core.List.{List, [], ◌++◌, append_assoc, append-nil}
use Prim.Native.Nat.{ℕ, ◌+◌, ◌^◌, ◌≤◌, ◌<◌}
use native.Mathlib.Omega.{arith}
use lib.ListN.{length, take, drop, length-append, length-drop, take-append-drop}
use lib.Seq.{take_at, drop_at, take-append-le, take-take, take_all, length-take-le}
use Rattle.octets.specs.Bytes.{Bytes}
use Rattle.octets.specs.Number.{big}
use Rattle.octets.proofs.Bytes.{bytes_append, bytes_take, bytes_drop}
use Rattle.octets.proofs.Numbers.{big_at_fits}
use Rattle.moving.specs.Moving.{over, placed}
use Rattle.octets.proofs.Parts.{part_length, part_of_take}
use Rattle.moving.proofs.Edits.{placed_fits}
use Rattle.std.specs.Prelude.{Result, Ok, Err}
use Rattle.postage.specs.declared.rules.StampError.{StampError}
use Rattle.postage.specs.declared.rules.StampError.TheVariants.{BadList, WrongLength, NoBatch, OtherBucket, IndexPast, NotOwner}
use Rattle.postage.specs.Rules.{stamp_number, checked}
use Rattle.postage.proofs.Theorems.{passing_is_bucketed, passing_index}
use Rattle.postage.proofs.InOrder.{in_order}
use Rattle.records.specs.Record.{address_in, record_of, Fitting}
use Rattle.reserve.specs.Stamps.{stamp_answer}
use Rattle.reserve.specs.Answer.{error_number, of_stamp}
use Rattle.book.proofs.Headed.{over_middle}

in_range_lem : (a : Result (Unit {0}) StampError) → (stamp_number a ≡ 0) ⊎ ((10 ≤ stamp_number a) × (stamp_number a ≤ 19))
in_range_lem (Ok tt) = inl refl
in_range_lem (Err BadList) = inr (omega arith, omega arith)
in_range_lem (Err WrongLength) = inr (omega arith, omega arith)
in_range_lem (Err NoBatch) = inr (omega arith, omega arith)
in_range_lem (Err OtherBucket) = inr (omega arith, omega arith)
in_range_lem (Err IndexPast) = inr (omega arith, omega arith)
in_range_lem (Err NotOwner) = inr (omega arith, omega arith)

passes : (a : Result (Unit {0}) StampError) → stamp_number a ≡ 0 → a ≡ Ok tt
passes (Ok tt) e = refl
passes (Err BadList) e = absurd (omega (arith, e))
passes (Err WrongLength) e = absurd (omega (arith, e))
passes (Err NoBatch) e = absurd (omega (arith, e))
passes (Err OtherBucket) e = absurd (omega (arith, e))
passes (Err IndexPast) e = absurd (omega (arith, e))
passes (Err NotOwner) e = absurd (omega (arith, e))

-- an offer is refused by the number that its stamp is refused by, and that is not 0
pub as_stamp : (e : StampError) → error_number (of_stamp e) ≡ stamp_number (Err e)
as_stamp BadList = refl
as_stamp WrongLength = refl
as_stamp NoBatch = refl
as_stamp OtherBucket = refl
as_stamp IndexPast = refl
as_stamp NotOwner = refl

pub not_passing : (e : StampError) → stamp_number (Err e) ≡ 0 → ⊥
not_passing BadList z = absurd (omega (arith, z))
not_passing WrongLength z = absurd (omega (arith, z))
not_passing NoBatch z = absurd (omega (arith, z))
not_passing OtherBucket z = absurd (omega (arith, z))
not_passing IndexPast z = absurd (omega (arith, z))
not_passing NotOwner z = absurd (omega (arith, z))

-- the parts of a record, in its stamp and its address
module _ (address stamp : List ℕ) (whole : length address ≡ 32) (stamped : length stamp ≡ 113) where
  front : length (take 48 stamp) ≡ 48
  front = length-take-le 48 stamp (omega (arith, stamped))

  pub record_size : length (record_of address stamp) ≡ 145
  record_size = simp (length-append, length-drop) (omega (arith, front, whole, stamped))

  pub record_part : (k n : ℕ) → k + n ≤ 48 → take n (drop k (record_of address stamp)) ≡ take n (drop k stamp)
  record_part k n h =
      sym (part_of_take k n (record_of address stamp))
      ∙ ap (drop k) (take-append-le (k + n) (take 48 stamp) (address ++ drop 48 stamp) (omega (arith, front, h)) ∙ take-take (k + n) 48 stamp h)
      ∙ part_of_take k n stamp

  pub record_address : address_in (record_of address stamp) ≡ address
  record_address =
      ap (take 32) (drop_at (take 48 stamp) (address ++ drop 48 stamp) 48 front) ∙ take_at address (drop 48 stamp) 32 whole

-- the record put together in a buffer of its length
module _ (address stamp : List ℕ) (whole : length address ≡ 32) (stamped : length stamp ≡ 113) where
  abbrev first : List ℕ
  first = take 48 stamp

  abbrev last : List ℕ
  last = take 65 (drop 48 stamp)

  first_size : length first ≡ 48
  first_size = length-take-le 48 stamp (omega (arith, stamped))

  last_size : length last ≡ 65
  last_size = part_length stamp 48 65 (omega (arith, stamped))

  put_first : (z : List ℕ) → length z ≡ 145 → placed z 0 first ≡ first ++ drop 48 z
  put_first z n =
      placed_fits z 0 first (omega (arith, first_size, n))
      ∙ ap (λ (t : List ℕ). over t 0 first) (sym (take-append-drop 48 z))
      ∙ over_middle [] (take 48 z) first (drop 48 z) 0 refl (length-take-le 48 z (omega (arith, n)) ∙ sym first_size)

  put_address : (z : List ℕ) → length z ≡ 97 → placed (first ++ z) 48 address ≡ first ++ (address ++ drop 32 z)
  put_address z n =
      let long : length (first ++ z) ≡ 145 = length-append first z ∙ omega (arith, first_size, n) in
      placed_fits (first ++ z) 48 address (omega (arith, long, whole))
      ∙ ap (λ (t : List ℕ). over (first ++ t) 48 address) (sym (take-append-drop 32 z))
      ∙ over_middle first (take 32 z) address (drop 32 z) 48 first_size (length-take-le 32 z (omega (arith, n)) ∙ sym whole)

  put_last : (z : List ℕ) → length z ≡ 65 → placed (first ++ (address ++ z)) 80 last ≡ first ++ (address ++ last)
  put_last z n =
      let head : length (first ++ address) ≡ 80 = length-append first address ∙ omega (arith, first_size, whole) in
      let long : length (first ++ (address ++ z)) ≡ 145 = length-append first (address ++ z) ∙ omega (arith, first_size, length-append address z, whole, n) in
      placed_fits (first ++ (address ++ z)) 80 last (omega (arith, long, last_size))
      ∙ ap (λ (t : List ℕ). over t 80 last) (sym (append_assoc first address z) ∙ ap (λ (t : List ℕ). (first ++ address) ++ t) (sym (append-nil z)))
      ∙ over_middle (first ++ address) z last [] 80 head (n ∙ sym last_size)
      ∙ ap (λ (t : List ℕ). (first ++ address) ++ t) (append-nil last)
      ∙ append_assoc first address last

  pub record_put : (z x y r : List ℕ) → length z ≡ 145 → x ≡ placed z 0 (take 48 stamp) → y ≡ placed x 48 address → r ≡ placed y 80 (take 65 (drop 48 stamp)) → r ≡ record_of address stamp
  record_put z x y r n e f g =
      let one = e ∙ put_first z n in
      let two = f ∙ ap (λ (t : List ℕ). placed t 48 address) one ∙ put_address (drop 48 z) (length-drop 48 z ∙ omega (arith, n)) in
      g ∙ ap (λ (t : List ℕ). placed t 80 last) two
      ∙ put_last (drop 32 (drop 48 z)) (length-drop 32 (drop 48 z) ∙ omega (arith, n, length-drop 48 z))
      ∙ ap (λ (t : List ℕ). first ++ (address ++ t)) (take_all 65 (drop 48 stamp) (omega (arith, length-drop 48 stamp, stamped)))

module _ (batches address stamp account : List ℕ) where
  pub stamp_range : (stamp_answer batches address stamp account ≡ 0) ⊎ ((10 ≤ stamp_answer batches address stamp account) × (stamp_answer batches address stamp account ≤ 19))
  unfolding stamp_answer
  stamp_range = in_range_lem (checked batches address stamp account)

  pub stamp_answered : (x a : Result (Unit {0}) StampError) → x ≡ checked batches address stamp account → x ≡ a → stamp_answer batches address stamp account ≡ stamp_number a
  unfolding stamp_answer
  stamp_answered x a e f = ap stamp_number (sym e ∙ f)

  stamp_passes : stamp_answer batches address stamp account ≡ 0 → checked batches address stamp account ≡ Ok tt
  unfolding stamp_answer
  stamp_passes e = passes (checked batches address stamp account) e

  pub stamp_lengths : stamp_answer batches address stamp account ≡ 0 → (length address ≡ 32) × (length stamp ≡ 113)
  stamp_lengths e = let g = (in_order batches address stamp account (Ok tt)).0 (stamp_passes e) in (g.1.of_address, g.1.of_stamp)

  pub stamp_fits : Bytes address → Bytes stamp → stamp_answer batches address stamp account ≡ 0 → Fitting (record_of address stamp)
  stamp_fits p q e =
      let g = passing_is_bucketed batches address stamp account p (stamp_passes e) in
      let whole : length address ≡ 32 = g.address_whole in
      let stamped : length stamp ≡ 113 = g.stamp_whole in
      let bucket : big (take 4 (drop 32 stamp)) ≡ big (take 2 address) = sym (big_at_fits 4 stamp 32 (omega (arith, stamped))) ∙ g.own_bucket ∙ big_at_fits 2 address 0 (omega (arith, whole)) in
      let index : big (take 4 (drop 36 stamp)) < 2 ^ 24 = rw (← big_at_fits 4 stamp 36 (omega (arith, stamped))) (passing_index batches address stamp account (stamp_passes e)) in
      record {
        size = record_size address stamp whole stamped;
        bytes = bytes_append (take 48 stamp) (address ++ drop 48 stamp) (bytes_take 48 stamp q) (bytes_append address (drop 48 stamp) p (bytes_drop 48 stamp q));
        bucket = ap big (record_part address stamp whole stamped 32 4 (omega arith)) ∙ bucket ∙ ap (λ (a : List ℕ). big (take 2 a)) (sym (record_address address stamp whole stamped));
        index = rw (record_part address stamp whole stamped 36 4 (omega arith)) index;
      }

  pub stamp_address : stamp_answer batches address stamp account ≡ 0 → address_in (record_of address stamp) ≡ address
  stamp_address e = let n = stamp_lengths e in record_address address stamp n.0 n.1
