-- Bytes that hold what their header counts are packed; others are left.
use mathlib.Core.Path.{◌≡◌, ap, ◌∙◌}
use native.Mathlib.Omega.{arith}
use lib.ListN.{length}
use Rattle.book.specs.Layout.{count_in}
use Rattle.book.proofs.Cuts.{counted}
use Rattle.filing.proofs.Wholeness
use Rattle.filing.proofs.Keeping
use Rattle.filing.proofs.keep.keep_inside.Goals as goal

pub returns-in_default : goal.returns-in_default
returns-in_default c =
    let a = c.args in
    let other = c.in_default.ensures in
    record { value = Keeping.none_stays a.book.now a.at a.depth other; book_after = Keeping.same_bytes a.book.now a.at a.depth other }

pub close_up-requires : goal.close_up-requires
close_up-requires c =
    let s = c.args.book.now in
    let f = c.in-Some.ensures in
    let same : length c.in-Some.records.now ≡ count_in s = ap length f.2 ∙ counted s in
    (omega (arith, c.min.ensures), omega (arith, same, Wholeness.whole_few s f.0), same, omega (arith, same, Wholeness.whole_room s f.0))

pub returns : goal.returns
returns c =
    let a = c.args in
    let s = a.book.now in
    let f = c.in-Some.ensures in
    let same : length c.in-Some.records.now ≡ count_in s = ap length f.2 ∙ counted s in
    record {
      value = Keeping.stays s a.at a.depth f.0 (length c.in-Some.records.now) c.min.result c.close_up.result same c.min.ensures c.close_up.ensures.value;
      book_after = c.close_up.ensures.book_after ∙ Keeping.kept_bytes_lem s a.at a.depth f.0;
    }
