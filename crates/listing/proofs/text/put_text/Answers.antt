-- Each way out has its text. A book of 65,536 bytes has at most 451 records, and the buffer has room for 452 lines of 126 bytes.
use mathlib.Core.Bool.{true}
use mathlib.Core.Path.{◌≡◌, sym, ◌∙◌}
use native.Mathlib.Omega.{arith}
use Rattle.book.specs.Layout.{count_in}
use Rattle.wellformed.specs.Check.{well_formed}
use Rattle.book.proofs.Fields
use Rattle.listing.specs.Listing.{listing}
use Rattle.listing.proofs.Listed
use Rattle.listing.proofs.Puts
use Rattle.listing.proofs.text.put_text.Goals as goal

pub put_header-requires : goal.put_header-requires
put_header-requires c =
    let formed = Listed.told_formed c.args.input.now c.check_book.result c.check_book.ensures (sym c.is_err.ensures.value ∙ c.if-is_err.false) in
    (omega arith, omega (arith, (Listed.formed_sized c.args.input.now formed).whole))

pub put_records-requires : goal.put_records-requires
put_records-requires c =
    let input = c.args.input.now in
    let m = Listed.formed_sized input (Listed.told_formed input c.check_book.result c.check_book.ensures (sym c.is_err.ensures.value ∙ c.if-is_err.false)) in
    let counted : c.count.result ≡ count_in input = c.count.ensures ∙ Fields.count_there input (omega (arith, m.whole)) in
    (omega (arith, counted, m.whole, m.within), omega (arith, counted, m.whole, m.within))

pub returns-then-input-gt65536 : goal.returns-then-input-gt65536
returns-then-input-gt65536 c = rw (Listed.printed_large c.args.input.now c.if-input-gt65536.true) at c.field.ensures

pub returns-then-is_err : goal.returns-then-is_err
returns-then-is_err c =
    rw (Listed.printed_bad c.args.input.now c.if-input-gt65536.false c.check_book.result c.check_book.ensures (sym c.is_err.ensures.value ∙ c.if-is_err.true)) at c.field-then-is_err.ensures

pub returns-else-is_err : goal.returns-else-is_err
unfolding listing
returns-else-is_err c =
    let input = c.args.input.now in
    let formed : well_formed input ≡ true = Listed.told_formed input c.check_book.result c.check_book.ensures (sym c.is_err.ensures.value ∙ c.if-is_err.false) in
    let m = Listed.formed_sized input formed in
    let counted : c.count.result ≡ count_in input = c.count.ensures ∙ Fields.count_there input (omega (arith, m.whole)) in
    let lines = rw counted at c.put_records.ensures in
    rw (← Listed.printed_lines input c.if-input-gt65536.false formed) (Puts.added_then (omega arith) c.put_header.ensures.put lines)
