-- The lines of the records from one on, and the whole text.
use mathlib.Core.Path.{◌≡◌, sym, ap, ◌∙◌}
use mathlib.Core.Bool.{true, false, false≢true}
use mathlib.Core.List.{List, [], ◌∷◌, ◌++◌}
use Prim.Native.Nat.{ℕ, ◌+◌, ◌-◌, ◌*◌, ◌/◌, ◌≤◌, ◌<◌}
use native.Mathlib.Numerals.{add-one}
use lib.ListN.{length, get_or, take, drop, drop_of_length-le, length-drop}
use lib.Seq.{drop-cons, take_all}
use Rattle.octets.specs.Pieces.{pieces}
use borrow.Author.Tests.{lt-ltb, le-ltb}
use Rattle.std.specs.Prelude.{Result, Ok, Err}
use Rattle.std.specs.Result.{is_err}
use Rattle.wellformed.specs.declared.check.BookError.{BookError}
use Rattle.book.specs.Layout.{capacity_in, count_in}
use Rattle.wellformed.specs.Check.{labelled, sized, well_formed, checked}
use Rattle.book.proofs.Truths.{both}
use Rattle.wellformed.proofs.Tested.{Measured, sized_true}
use Rattle.wellformed.proofs.Verdicts.{formed_as}
use Rattle.book.proofs.Cuts.{pieces_chunks}
use Rattle.octets.proofs.Pieces.{pieces_take}
use Rattle.std.specs.Simd.{first_chunks}
use native.Mathlib.Omega.{arith}
use Rattle.listing.specs.Line.{line_feed, line, record_line, record_lines}
use Rattle.listing.specs.Listing.{too_large, bad_book, listing, printed}

module _ (overlay : List ℕ) (records : List (List ℕ)) (i : ℕ) where
  -- the line of record i, and those behind it
  pub lines_first : i < length records → record_lines overlay (drop i records) ≡ record_line overlay (get_or records i []) ++ record_lines overlay (drop (i + 1) records)
  unfolding record_lines
  lines_first h = rw (drop-cons records i [] h, add-one i)

  -- none
  pub lines_none : length records ≤ i → record_lines overlay (drop i records) ≡ []
  unfolding record_lines
  lines_none h = rw (drop_of_length-le records h)

-- the first n records of a book, as code takes them
pub records_taken : (s : List ℕ) (n : ℕ) (records : List (List ℕ)) → 48 + 145 * n ≤ length s
    → records ≡ first_chunks 145 (length (take (length s - 48) (drop 48 s)) / 145) (take (length s - 48) (drop 48 s))
    → take n records ≡ pieces 145 n (drop 48 s)
records_taken s n records h e =
    let behind : take (length s - 48) (drop 48 s) ≡ drop 48 s = take_all (length s - 48) (drop 48 s) (omega (arith, length-drop 48 s)) in
    let all : records ≡ pieces 145 (length (drop 48 s) / 145) (drop 48 s) = e ∙ ap (λ (b : List ℕ). first_chunks 145 (length b / 145) b) behind ∙ pieces_chunks 145 (length (drop 48 s) / 145) (drop 48 s) in
    ap (take n) all ∙ pieces_take 145 n (length (drop 48 s) / 145) (drop 48 s) (omega (arith, length-drop 48 s))

-- what is printed

module _ (s : List ℕ) where
  pub printed_large : 65536 < length s → too_large ++ (line_feed ∷ []) ≡ printed s
  unfolding printed line
  printed_large h = rw (lt-ltb 65536 (length s) h)

  pub printed_lines : length s ≤ 65536 → well_formed s ≡ true → listing s ≡ printed s
  unfolding printed
  printed_lines h e = rw (le-ltb 65536 (length s) h, e)

  pub printed_bad : length s ≤ 65536 → (told : Result (Unit {0}) BookError) → told ≡ checked s → is_err told ≡ true → bad_book ++ (line_feed ∷ []) ≡ printed s
  unfolding printed line
  printed_bad h (Ok done) e f = absurd (false≢true f)
  printed_bad h (Err error) e f = rw (le-ltb 65536 (length s) h, formed_as s (sym e))

  pub told_formed : (told : Result (Unit {0}) BookError) → told ≡ checked s → is_err told ≡ false → well_formed s ≡ true
  told_formed (Ok done) e f = formed_as s (sym e)
  told_formed (Err error) e f = absurd (false≢true (sym f))

  pub formed_sized : well_formed s ≡ true → Measured (length s) (capacity_in s) (count_in s)
  unfolding well_formed
  formed_sized e =
      let size = sized (length s) (capacity_in s) (count_in s) in
      let p = both {a = labelled s} e in
      let q = both {a = size} p.1 in
      sized_true (length s) (capacity_in s) (count_in s) q.0
