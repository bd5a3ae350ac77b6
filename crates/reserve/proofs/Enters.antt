-- One law for each way that a record enters a good book, or does not.
use mathlib.Core.Path.{◌≡◌, sym, ◌∙◌}
use mathlib.Core.Bool.{false}
use mathlib.Core.Logic.{⊎_elim}
use mathlib.Core.List.{List, [], ◌∷◌, ◌++◌}
use Prim.Native.Nat.{ℕ, ◌+◌, ◌*◌, ◌≤◌, ◌<◌}
use native.Mathlib.Omega.{arith}
use lib.ListN.{length, get_or, take, drop, set}
use native.Mathlib.Nat.{le_refl, eq-or-lt_of_le}
use borrow.Author.Tests.{eq-eqb}
use Rattle.octets.specs.Number.{big_at}
use Rattle.moving.specs.Moving.{placed}
use Rattle.settling.specs.Book.{good}
use Rattle.settling.proofs.Cases.{Limit, within, beyond, limit}
use Rattle.settling.proofs.Places.{each_at}
use Rattle.settling.proofs.Steps.{step_far, step_very, step_lower, step_replaced, step_added}
use Rattle.records.specs.Record.{slot, near_of, Fitting}
use Rattle.records.specs.Rank.{beats}
use Rattle.records.specs.Order.{ranked}
use Rattle.records.specs.Choice.{choice}
use Rattle.records.specs.declared.rank.Choice.{Choice}
use Rattle.records.specs.declared.rank.Choice.TheVariants.{First, Second, Neither}
use Rattle.records.proofs.Ranks.{first_says, second_says, neither_says}
use Rattle.book.specs.Shape.{shape_in}
use Rattle.book.specs.Layout.{depth_in, overlay_in, capacity_in, count_in, records_in, record_in}
use Rattle.book.specs.Book.{read}
use Rattle.nearing.specs.Near.{near_in}
use Rattle.editing.specs.Edit.{added}
use Rattle.nearing.proofs.Nearing.{near_in_lem}
use Rattle.reserve.specs.Awaits.{Awaits, AwaitsAt, Unbeaten, Free, Ends}
use Rattle.book.proofs.Cuts.{counted}
use Rattle.book.proofs.Fields
use Rattle.book.proofs.Records.{no_record}
use Rattle.reserve.proofs.Stored.{stands_added, replaced}
use Rattle.reserve.proofs.Steps.{kept, stands, ends, ends_same}

pub near_there : (s r : List ℕ) → Awaits s r → near_in s r ≡ near_of (overlay_in s) (slot r)
near_there s r w = near_in_lem s r (omega (arith, w.formed.size)) w.fits.size

-- shared bits below depth
pub lies_outside : (s r : List ℕ) → Awaits s r → near_of (overlay_in s) (slot r) < depth_in s → Ends s r 20 s
lies_outside s r w h = ends_same s r w 20 (step_far (shape_in s) (depth_in s) (records_in s) r h)

module _ (s r : List ℕ) (i : ℕ) (w : AwaitsAt s r i) where
  given_size : length r ≡ 145
  given_size = w.awaits.fits.size

  -- where no record stands at the place there is nothing to choose
  none_chosen : count_in s ≤ i → choice r (record_in s i) ≡ Neither
  unfolding choice
  none_chosen h = rw (no_record s i h, eq-eqb (length r) 145 given_size)

  -- so that a choice tells that one stands there
  chosen_there : {o : Choice} → choice r (record_in s i) ≡ o → (o ≡ Neither → ⊥) → i < count_in s
  chosen_there {o} e f = go (limit (count_in s) i)
    where
      go : Limit (count_in s) i → i < count_in s
      go (within h) = absurd (f (sym e ∙ none_chosen h))
      go (beyond h) = h

  module _ (h : i < count_in s) where
    there : i < length (records_in s)
    there = omega (arith, counted s, h)

    held_fits : Fitting (record_in s i)
    unfolding record_in
    held_fits = each_at [] Fitting (records_in s) i w.awaits.formed.fitting there

    -- of another slot, which is above
    other_slot : choice r (record_in s i) ≡ Neither → slot r < slot (get_or (records_in s) i [])
    unfolding record_in
    other_slot e =
        let least : slot r ≤ slot (record_in s i) = w.place.upper i (le_refl i) there in
        ⊎_elim (λ q. absurd (neither_says r (record_in s i) given_size held_fits.size e q)) (λ q. q) (eq-or-lt_of_le least)

  pub free : choice r (record_in s i) ≡ Neither → Free s r i
  free e = record { at = w; free = λ h. other_slot h e }

  -- or of its own, and of a higher rank
  pub outranked : choice r (record_in s i) ≡ Second → Ends s r 22 s
  unfolding record_in
  outranked e =
      let h : i < count_in s = chosen_there e (λ p. let z : ◌≡◌ {A = ℕ} 0 1 = cc in omega arith) in
      let p = second_says r (record_in s i) given_size (held_fits h).size e in
      ends_same s r w.awaits 22 (step_lower (shape_in s) [] (depth_in s) (records_in s) r i (kept s r w.awaits) w.inside w.place (there h) (sym p.0) p.1)

  -- or of its own, and not of a higher rank
  module _ (f : choice r (record_in s i) ≡ First) where
    pub held_there : i < count_in s
    held_there = chosen_there f (λ p. let z : ◌≡◌ {A = ℕ} 0 1 = cc in omega arith)

    unbeaten : (slot r ≡ slot (record_in s i)) × (beats (record_in s i) r ≡ false)
    unbeaten = first_says r (record_in s i) given_size (held_fits held_there).size f

    pub stays : choice (record_in s i) r ≡ First → Ends s r 21 s
    unfolding record_in
    stays e =
        let very : record_in s i ≡ r = ranked.total (record_in s i) r (sym unbeaten.0) unbeaten.1 (first_says (record_in s i) r (held_fits held_there).size given_size e).1 in
        ends_same s r w.awaits 21 (step_very (shape_in s) [] (depth_in s) (records_in s) r i (kept s r w.awaits) w.inside w.place (there held_there) (sym unbeaten.0) very)

    pub replaces : choice (record_in s i) r ≡ Second → (t : List ℕ) → t ≡ placed s (48 + 145 * i) r → Ends s r 0 t
    unfolding record_in
    replaces e t u =
        let p = second_says (record_in s i) r (held_fits held_there).size given_size e in
        ends s r w.awaits (good (depth_in s) (set (records_in s) i r)) 0
        (step_replaced (shape_in s) [] (depth_in s) (records_in s) r i (kept s r w.awaits) w.inside w.place (there held_there) p.0 p.1)
        t (replaced s (read s) (depth_in s) (records_in s) r i (stands s r w.awaits) given_size t u (there held_there)).bytes

    pub never_neither : choice (record_in s i) r ≡ Neither → ⊥
    never_neither e = neither_says (record_in s i) r (held_fits held_there).size given_size e (sym unbeaten.0)

-- where a record is held, its place is low enough to count its bytes
pub held_low : (s r : List ℕ) (i : ℕ) → Unbeaten s r i → i < 65536
held_low s r i u = omega (arith, held_there s r i u.at u.first, u.at.awaits.formed.count, u.at.awaits.formed.most)

-- the slot is empty
module _ (s r : List ℕ) (i : ℕ) (w : Free s r i) where
  free_awaits : Awaits s r
  free_awaits = w.at.awaits

  pub free_there : i < length (records_in s) → slot r < slot (get_or (records_in s) i [])
  free_there h = w.free (omega (arith, counted s, h))

  pub free_place : i ≤ count_in s
  free_place = omega (arith, w.at.place.bounded, counted s)

  -- the header's two numbers, as code reads them
  pub numbers_there : (big_at 4 s 44 ≡ count_in s) × (big_at 4 s 40 ≡ capacity_in s)
  numbers_there = (Fields.count_there s (omega (arith, free_awaits.formed.size)), Fields.capacity_there s (omega (arith, free_awaits.formed.size)))

  pub adds : (n : ℕ) → n ≡ count_in s → n < capacity_in s → (t : List ℕ) → t ≡ added s n i r → Ends s r 0 t
  unfolding read
  adds n e h t u =
      let many : length (records_in s) ≡ n = counted s ∙ sym e in
      ends s r free_awaits (good (depth_in s) (take i (records_in s) ++ (r ∷ drop i (records_in s)))) 0
      (step_added (shape_in s) [] (depth_in s) (records_in s) r i (kept s r free_awaits) w.at.inside w.at.place free_there (omega (arith, many, h)))
      t (u ∙ (stands_added s (read s) (depth_in s) (records_in s) r i (stands s r free_awaits) free_awaits.fits.size n many (omega (arith, free_place, e)) h).bytes)
