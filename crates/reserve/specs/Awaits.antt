-- What the parts of an offer start from, and where they end.
use Rattle.std.specs.Prelude.{◌≡◌, List, [], ℕ, ◌≤◌, ◌<◌, get_or}
use Rattle.octets.specs.Bytes.{Bytes}
use Rattle.records.specs.Record.{slot, near_of, Fitting}
use Rattle.records.specs.Choice.{choice}
use Rattle.records.specs.declared.rank.Choice.TheVariants.{First}
use Rattle.book.specs.Layout.{state_in, depth_in, overlay_in, count_in, records_in, record_in, WellFormed}
use Rattle.reserve.specs.Place.{PlaceIn}
use Rattle.book.specs.Book.{read}
use Rattle.reserve.specs.Offer.{entered}

-- a good book, and a record that passed the stamp's checks
pub record Awaits (s r : List ℕ) : Type 0 where
  pub bytes : Bytes s
  pub formed : WellFormed s
  pub good : state_in s ≡ 0
  pub fits : Fitting r

-- the record lies inside the depth, and i is its slot's place
pub record AwaitsAt (s r : List ℕ) (i : ℕ) : Type 0 where
  pub awaits : Awaits s r
  pub inside : depth_in s ≤ near_of (overlay_in s) (slot r)
  pub place : PlaceIn s (slot r) i

-- there the slot is held, by a record that does not rank higher
pub record Unbeaten (s r : List ℕ) (i : ℕ) : Type 0 where
  pub at : AwaitsAt s r i
  pub first : choice r (record_in s i) ≡ First

-- or no record holds it
pub record Free (s r : List ℕ) (i : ℕ) : Type 0 where
  pub at : AwaitsAt s r i
  pub free : i < count_in s → slot r < slot (get_or (records_in s) i [])

-- the offer of r to the bytes s is answered n and leaves t
pub record Ends (s r : List ℕ) (n : ℕ) (t : List ℕ) : Type 0 where
  pub number : n ≡ (entered (read s) r).number
  pub bytes : t ≡ (entered (read s) r).bytes
