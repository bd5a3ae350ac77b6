-- Each answer is that of the tests that led to it.
use mathlib.Core.Path.{sym, ◌∙◌}
use Rattle.opening.proofs.Opening
use Rattle.opening.proofs.open.open.Goals as goal

pub returns-then-not-in_range : goal.returns-then-not-in_range
returns-then-not-in_range c =
    let a = c.args in
    let o = Opening.out_of_range a.book.now a.overlay.now a.capacity a.starting (sym c.if-not-in_range.ensures) in
    record { answer = o.0; bytes = o.1 }

pub returns-in_default : goal.returns-in_default
returns-in_default c =
    let a = c.args in
    let o = Opening.overlay_wrong a.book.now a.overlay.now a.capacity a.starting (sym c.if-not-in_range.ensures) c.in_default.ensures.cases in
    record { answer = o.0; bytes = o.1 }

pub returns-then-book-capacity : goal.returns-then-book-capacity
returns-then-book-capacity c =
    let a = c.args in
    let o = Opening.buffer_wrong a.book.now a.overlay.now a.capacity a.starting (sym c.if-not-in_range.ensures) c.if-book-capacity.true in
    record { answer = o.0; bytes = o.1 }

pub returns : goal.returns
returns c =
    let a = c.args in
    let f = c.in-Some.ensures.cases in
    let o = Opening.opens a.book.now a.overlay.now a.capacity a.starting (sym c.if-not-in_range.ensures) f.long c.if-book-capacity.false in
    record { answer = o.0; bytes = c.write_fresh.ensures ∙ rw f.same o.1 }
