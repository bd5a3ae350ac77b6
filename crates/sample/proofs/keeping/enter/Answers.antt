-- Nothing where a guard fails; past them held already, past the sixteenth, or put in its place.
use mathlib.Core.Path.{refl}
use native.Mathlib.Omega.{arith}
use Rattle.sample.proofs.Placing.{enter_held, enter_past}
use Rattle.sample.proofs.Held.{other_buffer, other_pair, too_many, entered_is, entered_placed}
use Rattle.sample.proofs.keeping.enter.Goals as goal

pub returns-then-best-ne1024 : goal.returns-then-best-ne1024
returns-then-best-ne1024 c =
    let a = c.args in
    let same = other_buffer a.pair.now a.held a.best.now c.if-best-ne1024.true in
    record { result = same.0; bytes = same.1 }

pub returns-then-pair-ne64 : goal.returns-then-pair-ne64
returns-then-pair-ne64 c =
    let a = c.args in
    let same = other_pair a.pair.now a.held a.best.now c.if-best-ne1024.false c.if-pair-ne64.true in
    record { result = same.0; bytes = same.1 }

pub returns-then-held-gt16 : goal.returns-then-held-gt16
returns-then-held-gt16 c =
    let a = c.args in
    let same = too_many a.pair.now a.held a.best.now c.if-best-ne1024.false c.if-pair-ne64.false (omega arith) in
    record { result = same.0; bytes = same.1 }

pub returns-in_default : goal.returns-in_default
returns-in_default c =
    let a = c.args in
    let belongs = rw c.in_default.is at c.place_of.ensures in
    let same = entered_is a.pair.now a.held a.best.now c.if-best-ne1024.false c.if-pair-ne64.false (omega arith) a.held a.best.now
    (enter_held a.best.now a.pair.now a.held (omega arith) belongs.1) refl in
    record { result = same.0; bytes = same.1 }

pub returns-then-place-gt15 : goal.returns-then-place-gt15
returns-then-place-gt15 c =
    let a = c.args in
    let belongs = rw c.in-Some.is at c.place_of.ensures in
    let same = entered_is a.pair.now a.held a.best.now c.if-best-ne1024.false c.if-pair-ne64.false (omega arith) a.held a.best.now
    (enter_past a.best.now a.pair.now a.held c.in-Some.place (omega arith) (omega arith) belongs.0 belongs.1) refl in
    record { result = same.0; bytes = same.1 }

pub returns : goal.returns
returns c =
    let a = c.args in
    let belongs = rw c.in-Some.is at c.place_of.ensures in
    let put = entered_placed a.pair.now a.held a.best.now c.if-best-ne1024.false c.if-pair-ne64.false (omega arith) c.in-Some.place c.min-last.result
    c.insert.new.s (omega arith) belongs.0 c.min-last.ensures belongs.1 c.insert.ensures in
    record { result = put.0; bytes = put.1 }
