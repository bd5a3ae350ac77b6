-- The book's form first, then an overfull one, then what the stamp's checks say, then the record.
use mathlib.Core.Path.{◌≡◌, sym, ap, ◌∙◌}
use mathlib.Core.Bool.{Bool, true, false}
use mathlib.Core.List.{List}
use native.Mathlib.Omega.{arith}
use lib.Dec.{eqb}
use borrow.Author.Tests.{eqb-true, eqb-false}
use Rattle.std.proofs.Common.{rules, ℕ}
use Rattle.std.proofs.lemmas.Result.{err_from_is_err_and}
use Rattle.std.specs.Prelude.{Result, Ok, Err}
use Rattle.octets.specs.Bytes.{Bytes}
use Rattle.octets.proofs.Bytes.{bytes_known}
use Rattle.book.specs.Layout.{state_in, WellFormed}
use Rattle.wellformed.specs.declared.check.BookError.{BookError}
use Rattle.wellformed.specs.Check.{checked}
use Rattle.wellformed.proofs.Tested.{said}
use Rattle.wellformed.proofs.Verdicts.{formed_as}
use Rattle.reserve.proofs.Stamped.{as_stamp, not_passing, stamp_answered, stamp_lengths, stamp_fits}
use Rattle.reserve.proofs.Ways.{number_after, bytes_after, as_book, is_good, way_ill, way_overfull, way_stamp, way_enters}
use Rattle.reserve.proofs.offer.offer.Goals as goal

-- what is known once the book's form, its state and the stamp were asked
formed : (book : List ℕ) → Bytes book → (r : Result (Unit {0}) BookError) → r ≡ checked book → r ≡ Ok tt → WellFormed book
formed book known r e f = said book known (formed_as book (sym e ∙ f))

fine : (book : List ℕ) → WellFormed book → (overfull : Bool) → overfull ≡ eqb (state_in book) 1 → overfull ≡ false → state_in book ≡ 0
fine book formed overfull state told = is_good book formed (eqb-false (state_in book) 1 (sym state ∙ told))

pub returns-in_err-check_book : goal.returns-in_err-check_book
returns-in_err-check_book c =
    let a = c.args in
    let p = err_from_is_err_and c.from_residual.result c.from_residual.ensures.1 in
    let w = way_ill a.book.now a.batches.now a.address.now a.stamp.now a.account.now (formed_as a.book.now (sym c.check_book.ensures ∙ c.in_err-check_book.was)) in
    rw (p.1, p.2) (record { number = as_book c.in_err-check_book.field-0.0 ∙ sym (ap number_after w); bytes = sym (ap bytes_after w) })

pub returns-then-overfull : goal.returns-then-overfull
returns-then-overfull c =
    let a = c.args in
    let known : Bytes a.book.now = bytes_known a.book.now (search rules) in
    let well = formed a.book.now known _ c.check_book.ensures c.in_ok-check_book.was in
    let w = way_overfull a.book.now a.batches.now a.address.now a.stamp.now a.account.now well (eqb-true (state_in a.book.now) 1 (sym c.overfull.ensures ∙ c.if-overfull.true)) in
    record { number = sym (ap number_after w); bytes = sym (ap bytes_after w) }

pub returns-in_err-check_stamp : goal.returns-in_err-check_stamp
returns-in_err-check_stamp c =
    let a = c.args in
    let known : Bytes a.book.now = bytes_known a.book.now (search rules) in
    let well = formed a.book.now known _ c.check_book.ensures c.in_ok-check_book.was in
    let error = c.in_err-check_stamp.field-0.0 in
    let p = err_from_is_err_and c.from_residual-in_err-check_stamp.result c.from_residual-in_err-check_stamp.ensures.1 in
    let n = stamp_answered a.batches.now a.address.now a.stamp.now a.account.now _ (Err error) c.check_stamp.ensures c.in_err-check_stamp.was in
    let w = way_stamp a.book.now a.batches.now a.address.now a.stamp.now a.account.now well (fine a.book.now well _ c.overfull.ensures c.if-overfull.false) (λ z. not_passing error (sym n ∙ z)) in
    rw (p.1, p.2) (record { number = as_stamp error ∙ sym (ap number_after w ∙ n); bytes = sym (ap bytes_after w) })

pub record_of-requires : goal.record_of-requires
record_of-requires c =
    let a = c.args in
    stamp_lengths a.batches.now a.address.now a.stamp.now a.account.now
    (stamp_answered a.batches.now a.address.now a.stamp.now a.account.now _ (Ok tt) c.check_stamp.ensures c.in_ok-check_stamp.was)

pub enter-requires : goal.enter-requires
enter-requires c =
    let a = c.args in
    let known : Bytes a.book.now = bytes_known a.book.now (search rules) in
    let well = formed a.book.now known _ c.check_book.ensures c.in_ok-check_book.was in
    let passes = stamp_answered a.batches.now a.address.now a.stamp.now a.account.now _ (Ok tt) c.check_stamp.ensures c.in_ok-check_stamp.was in
    rw c.record_of.ensures
    (record {
      bytes = known;
      formed = well;
      good = fine a.book.now well _ c.overfull.ensures c.if-overfull.false;
      fits = stamp_fits a.batches.now a.address.now a.stamp.now a.account.now (bytes_known a.address.now (λ n. (c.type_inv.address n).fits))
          (bytes_known a.stamp.now (λ n. (c.type_inv.stamp n).fits)) passes;
    })

pub returns : goal.returns
returns c =
    let a = c.args in
    let known : Bytes a.book.now = bytes_known a.book.now (search rules) in
    let well = formed a.book.now known _ c.check_book.ensures c.in_ok-check_book.was in
    let passes = stamp_answered a.batches.now a.address.now a.stamp.now a.account.now _ (Ok tt) c.check_stamp.ensures c.in_ok-check_stamp.was in
    let w = way_enters a.book.now a.batches.now a.address.now a.stamp.now a.account.now well (fine a.book.now well _ c.overfull.ensures c.if-overfull.false) passes in
    let ends = rw c.record_of.ensures at c.enter.ensures in
    record { number = ends.number ∙ sym (ap number_after w); bytes = ends.bytes ∙ sym (ap bytes_after w) }
