use Rattle.std.proofs.Common.{Ok, Err, ◌≡◌, sym, ap, ◌∙◌, arith, rules, length}
use Rattle.book.proofs.Fields.{count_there}
use Rattle.book.proofs.Records.{record_length_lem}
use borrow.Author.Tests.{tests, eqb-true}
use Rattle.draw.specs.Answer.{of_cell}
use Rattle.draw.proofs.Collecting.{walk_starts, walk_turn, walk_wrong, walk_left, walk_few, walk_ends}
use Rattle.draw.proofs.drawing.collect.Goals as goal

pub loop-place-init : goal.loop-place-init
loop-place-init c = walk_starts c.args.book.now c.args.shelf.now c.args.anchor.now c.args.smallest.now c.requires.none

pub slice_bounds-take_cell-end : goal.slice_bounds-take_cell-end
slice_bounds-take_cell-end c =
    let b = c.args.book.now in
    let all = c.count-place-end.ensures ∙ count_there b (omega arith) in
    let i = c.loop-place.place-counter in
    let long = ap length c.record_at-record.ensures ∙ record_length_lem b i (omega arith) (omega arith) in
    omega arith

pub map_err-requires : goal.map_err-requires
map_err-requires c = λ e h κs l x f.
    let all = c.count-place-end.ensures ∙ count_there c.args.book.now (omega arith) in
    search rules

pub returns-in_err-size : goal.returns-in_err-size
returns-in_err-size c =
    let a = c.args in
    let l = c.loop-place in
    let all = c.count-place-end.ensures ∙ count_there a.book.now (omega arith) in
    let same : c.from_residual.result ≡ Err c.in_err-size.field-0.0 = search rules in
    let cell : of_cell l.place-counter c.take_cell.result ≡ Err c.in_err-size.field-0.0 = search rules in
    let wrong = walk_wrong a.book.now a.shelf.now a.anchor.now l.rest.now l.smallest l.place-counter l.invariant (omega arith)
    _ c.record_at-record.ensures c.take_cell.result c.take_cell.ensures.answer c.in_err-size.field-0.0 cell in
    record { answer = same ∙ wrong; kept = search rules }

pub loop-place-preserved : goal.loop-place-preserved
loop-place-preserved c =
    let a = c.args in
    let l = c.loop-place in
    let all = c.count-place-end.ensures ∙ count_there a.book.now (omega arith) in
    let same : c.take_cell.result ≡ Ok c.in_ok-size.size = search rules in
    walk_turn a.book.now a.shelf.now a.anchor.now l.rest.now l.smallest l.place-counter l.invariant (omega arith)
    _ c.record_at-record.ensures c.take_cell.result c.take_cell.ensures.answer c.in_ok-size.size c.take_cell.new.smallest same (search rules)

pub returns-then-not-is_empty : goal.returns-then-not-is_empty
returns-then-not-is_empty c =
    let a = c.args in
    let l = c.loop-place in
    let all = c.count-place-end.ensures ∙ count_there a.book.now (omega arith) in
    record { answer = walk_left a.book.now a.shelf.now a.anchor.now l.rest.now l.smallest l.place-counter l.invariant (omega arith) (search (rules, tests)); kept = search rules }

pub returns-then-smallest-lt16 : goal.returns-then-smallest-lt16
returns-then-smallest-lt16 c =
    let a = c.args in
    let l = c.loop-place in
    let all = c.count-place-end.ensures ∙ count_there a.book.now (omega arith) in
    let none = eqb-true (length l.rest.now) 0 (sym c.is_empty.ensures ∙ c.if-not-is_empty.false) in
    record { answer = walk_few a.book.now a.shelf.now a.anchor.now l.rest.now l.smallest l.place-counter l.invariant (omega arith) none l.smallest.most c.if-smallest-lt16.true; kept = search rules }

pub returns : goal.returns
returns c =
    let a = c.args in
    let l = c.loop-place in
    let all = c.count-place-end.ensures ∙ count_there a.book.now (omega arith) in
    let none = eqb-true (length l.rest.now) 0 (sym c.is_empty.ensures ∙ c.if-not-is_empty.false) in
    let ends = walk_ends a.book.now a.shelf.now a.anchor.now l.rest.now l.smallest l.place-counter l.invariant (omega arith) none l.smallest.most c.if-smallest-lt16.false in
    record { answer = ends.0; kept = ends.1 }
