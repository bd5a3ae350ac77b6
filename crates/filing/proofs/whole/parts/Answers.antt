-- The records that are counted are there, or the bytes are too few.
use mathlib.Core.Path.{◌≡◌, ap, ◌∙◌}
use mathlib.Core.Logic.{inl, inr}
use mathlib.Core.List.{List}
use Prim.Native.Nat.{ℕ, ◌+◌, ◌*◌, ◌/◌, ◌≤◌, ◌<◌}
use native.Mathlib.Nat.{sub-zero}
use native.Mathlib.Omega.{arith}
use lib.ListN.{length, take, drop}
use Rattle.std.specs.Simd.{first_chunks}
use Rattle.std.specs.List.{slice_range}
use Rattle.octets.specs.Number.{big_at}
use Rattle.octets.specs.Pieces.{pieces}
use Rattle.octets.proofs.Pieces.{length_pieces, pieces_take}
use Rattle.book.specs.Layout.{count_in, records_in}
use Rattle.book.proofs.Cuts.{pieces_chunks}
use Rattle.book.proofs.Fields.{header_count}
use Rattle.filing.proofs.Wholeness
use Rattle.filing.proofs.whole.parts.Goals as goal

module _ (s header behind : List ℕ) (head : header ≡ take 48 s) (rest : behind ≡ drop 48 s) (size : length behind + 48 ≡ length s) (count : ℕ) (q : count ≡ big_at 4 header 44) where
  counted : count ≡ count_in s
  counted = q ∙ rw head (header_count s (omega arith))

  module _ (chunks : List (List ℕ)) (e : chunks ≡ first_chunks 145 (length behind / 145) behind) where
    cut : chunks ≡ pieces 145 (length behind / 145) behind
    cut = e ∙ pieces_chunks 145 (length behind / 145) behind

    many : length chunks ≡ length behind / 145
    many = ap length cut ∙ length_pieces 145 (length behind / 145) behind

    too_few : length chunks < count → length s < 48 + 145 * count_in s
    too_few h = omega (arith, counted, many)

    enough : count ≤ length chunks → 48 + 145 * count_in s ≤ length s
    enough h = omega (arith, counted, many)

    first : count ≤ length chunks → slice_range chunks 0 count ≡ records_in s
    first h =
        rw (sub-zero count, cut) (pieces_take 145 count (length behind / 145) behind (omega (arith, many)) ∙ rw (rest, counted))

pub returns-in_err-header : goal.returns-in_err-header
returns-in_err-header c = rw c.from_residual.ensures (Wholeness.whole_headless c.args.book.now c.in_err-header.ensures.cases)

pub returns-then-count-gt65536 : goal.returns-then-count-gt65536
returns-then-count-gt65536 c =
    let s = c.args.book.now in
    let f = c.in_ok-header.ensures.cases in
    Wholeness.whole_many s (omega (arith, c.if-count-gt65536.true, counted s _ _ f.0 f.1 f.2 _ c.count-count.ensures))

pub returns-in_err-records : goal.returns-in_err-records
returns-in_err-records c =
    let s = c.args.book.now in
    let f = c.in_ok-header.ensures.cases in
    rw c.from_residual-in_err-records.ensures
    (Wholeness.whole_not s
    (omega (arith, c.if-count-gt65536.false, counted s _ _ f.0 f.1 f.2 _ c.count-count.ensures))
    (too_few s _ _ f.0 f.1 f.2 _ c.count-count.ensures _ c.as_chunks.ensures.front (elim c.in_err-records.ensures.lookup.0 [ inl h ↦ absurd (omega arith) | inr h ↦ h ])))

pub returns : goal.returns
returns c =
    let s = c.args.book.now in
    let f = c.in_ok-header.ensures.cases in
    let g = c.in_ok-records.ensures.lookup in (
      Wholeness.whole_here s
          (omega (arith, c.if-count-gt65536.false, counted s _ _ f.0 f.1 f.2 _ c.count-count.ensures))
          (enough s _ _ f.0 f.1 f.2 _ c.count-count.ensures _ c.as_chunks.ensures.front g.0.1),
      f.0,
      g.0.2 ∙ first s _ _ f.0 f.1 f.2 _ c.count-count.ensures _ c.as_chunks.ensures.front g.0.1,
    )
