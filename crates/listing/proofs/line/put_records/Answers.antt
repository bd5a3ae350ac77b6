use Prim.Native.Nat.{◌+◌}
use mathlib.Core.List.{[]}
use mathlib.Core.Path.{◌≡◌, refl, sym, ap, ap₂, ◌∙◌}
use native.Mathlib.Omega.{arith}
use lib.ListN.{length, get_or, take, drop, length-append, length-take}
use Rattle.moving.specs.Moving.{over}
use Rattle.moving.proofs.Edits.{over_nil}
use Rattle.octets.specs.Pieces.{pieces}
use Rattle.book.specs.Layout.{overlay_in}
use Rattle.listing.specs.Line.{record_line, record_lines}
use Rattle.listing.proofs.Puts
use Rattle.listing.proofs.Listed
use Rattle.listing.proofs.line.put_records.Goals as goal

pub loop-held-init : goal.loop-held-init
loop-held-init c = (refl, refl, refl, omega arith, refl)

pub put_record-requires : goal.put_record-requires
put_record-requires c = omega (arith, length-take c.args.count c.as_chunks.result.0.now)

pub loop-held-preserved : goal.loop-held-preserved
loop-held-preserved c =
    let overlay = c.unwrap-overlay.result.now in
    let records = take c.args.count c.as_chunks.result.0.now in
    let line = record_line overlay (get_or records c.loop-held.held-index []) in
    let rest = record_lines overlay (drop (c.loop-held.held-index + 1) records) in
    let p = c.put_record.ensures.put in
    let first = Listed.lines_first overlay records c.loop-held.held-index c.loop-held-test.true in (
      Puts.put_rest rest (omega (arith, length-take c.args.count c.as_chunks.result.0.now)) p.put ∙ ap (over c.loop-held.text.out.now c.loop-held.text.at) (sym first) ∙ c.loop-held.invariant.0,
      omega (arith, p.put.next, length-append line rest, ap length first, c.loop-held.invariant.1),
      p.put.size ∙ c.loop-held.invariant.2,
      omega (arith, c.put_record.ensures.upper_bound, c.loop-held.invariant.3),
      p.buffer ∙ c.loop-held.invariant.4,
    )

pub returns : goal.returns
returns c =
    let book = c.args.book.now in
    let begun = c.args.text.now in
    let overlay = c.unwrap-overlay.result.now in
    let records = take c.args.count c.as_chunks.result.0.now in
    let same : overlay ≡ overlay_in book = (rw c.unwrap-overlay.ensures at c.try_into.ensures.1).same in
    let taken : records ≡ pieces 145 c.args.count (drop 48 book) = Listed.records_taken book c.args.count c.as_chunks.result.0.now c.requires.1 c.as_chunks.ensures.front in
    let all : record_lines overlay records ≡ record_lines (overlay_in book) (pieces 145 c.args.count (drop 48 book)) = ap₂ record_lines same taken in
    let none = Listed.lines_none overlay records c.loop-held.held-index c.loop-held-test.false in
    record {
      put =
          record {
            bytes = sym (over_nil c.loop-held.text.out.now c.loop-held.text.at) ∙ ap (over c.loop-held.text.out.now c.loop-held.text.at) (sym none) ∙ c.loop-held.invariant.0 ∙ ap (over begun.out.now begun.at) all;
            next = omega (arith, ap length none, ap length all, c.loop-held.invariant.1);
            size = c.loop-held.invariant.2;
          };
      buffer = c.loop-held.invariant.4;
    }
