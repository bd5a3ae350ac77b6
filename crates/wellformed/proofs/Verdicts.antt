-- What the test's parts say of the whole.
use mathlib.Core.Path.{◌≡◌, refl, ap, ◌∙◌}
use mathlib.Core.Bool.{Bool, true, false, cond}
use mathlib.Core.List.{List}
use Prim.Native.Nat.{ℕ, ◌+◌, ◌*◌, ◌<◌}
use native.Mathlib.Omega.{arith}
use lib.ListN.{length, drop}
use Rattle.std.specs.Result.{is_ok}
use Rattle.std.specs.Prelude.{Result, Ok, Err}
use Rattle.wellformed.specs.declared.check.BookError.{BookError}
use Rattle.wellformed.specs.declared.check.BookError.TheVariants.{NotWellFormed}
use Rattle.book.specs.Layout.{capacity_in, count_in, state_in, starting_in, depth_in, overlay_in, records_in}
use Rattle.wellformed.specs.Check.{labelled, sized, levelled, zeros, well_formed, checked}
use Rattle.book.proofs.Truths.{fails, joined}
use Rattle.wellformed.proofs.Tests.{both_hold}
use Rattle.wellformed.proofs.Tested.{sized_true}

module _ (s : List ℕ) where
  refused : well_formed s ≡ false → checked s ≡ Err NotWellFormed
  unfolding checked
  refused e = rw e

  pub not_labelled : labelled s ≡ false → checked s ≡ Err NotWellFormed
  unfolding well_formed
  not_labelled e = refused (rw e)

  pub not_sized : sized (length s) (capacity_in s) (count_in s) ≡ false → checked s ≡ Err NotWellFormed
  unfolding well_formed
  not_sized e = refused (fails (labelled s) _ (rw e))

  pub not_levelled : levelled (state_in s) (starting_in s) (depth_in s) (count_in s) ≡ false → checked s ≡ Err NotWellFormed
  unfolding well_formed
  not_levelled e = refused (fails (labelled s) _ (fails (sized (length s) (capacity_in s) (count_in s)) _ (rw e)))

  pub not_standing : both_hold (depth_in s) (overlay_in s) (records_in s) ≡ false → checked s ≡ Err NotWellFormed
  unfolding well_formed
  not_standing e =
      refused
      (fails (labelled s) _
      (fails (sized (length s) (capacity_in s) (count_in s)) _
      (fails (levelled (state_in s) (starting_in s) (depth_in s) (count_in s)) _ (rw e))))

  pub not_zero : zeros (drop (48 + 145 * count_in s) s) ≡ false → checked s ≡ Err NotWellFormed
  unfolding well_formed
  not_zero e =
      refused
      (fails (labelled s) _
      (fails (sized (length s) (capacity_in s) (count_in s)) _
      (fails (levelled (state_in s) (starting_in s) (depth_in s) (count_in s)) _
      (fails (both_hold (depth_in s) (overlay_in s) (records_in s)) _ e))))

  -- a book that has no whole header is of no size
  pub short : length s < 48 → checked s ≡ Err NotWellFormed
  short h = not_sized (go (sized (length s) (capacity_in s) (count_in s)) refl)
    where
      go : (t : Bool) → sized (length s) (capacity_in s) (count_in s) ≡ t → sized (length s) (capacity_in s) (count_in s) ≡ false
      go true e = absurd (omega (arith, (sized_true _ _ _ e).whole))
      go false e = e

  pub passes : labelled s ≡ true → sized (length s) (capacity_in s) (count_in s) ≡ true → levelled (state_in s) (starting_in s) (depth_in s) (count_in s) ≡ true
      → both_hold (depth_in s) (overlay_in s) (records_in s) ≡ true → zeros (drop (48 + 145 * count_in s) s) ≡ true → checked s ≡ Ok tt
  unfolding well_formed checked
  passes a b c d e = rw (joined a (joined b (joined c (joined d e))))

-- the check's verdict, as the truth that it tells
pub formed_as : (s : List ℕ) {a : Result (Unit {0}) BookError} → checked s ≡ a → well_formed s ≡ is_ok a
unfolding checked
formed_as s e = go (well_formed s) ∙ ap is_ok e
  where
    go : (b : Bool) → b ≡ is_ok (cond b (Ok (tt {0})) (Err NotWellFormed))
    go true = refl
    go false = refl
