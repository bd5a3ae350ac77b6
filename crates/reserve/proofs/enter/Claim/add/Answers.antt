-- Room is used; else the depth rises.
use native.Mathlib.Omega.{arith}
use Rattle.reserve.proofs.Enters
use Rattle.reserve.proofs.enter.Claim.add.Goals as goal

pub returns-then-records-capacity : goal.returns-then-records-capacity
returns-then-records-capacity c =
    let a = c.args in
    let n = Enters.numbers_there a.book.now a.self.now.given a.self.now.at c.requires in
    Enters.adds a.book.now a.self.now.given a.self.now.at c.requires c.count-records.result (omega (arith, n.0)) (omega (arith, n.1)) _ c.add_record.ensures

pub rise-requires : goal.rise-requires
rise-requires c =
    let n = Enters.numbers_there c.args.book.now c.args.self.now.given c.args.self.now.at c.requires in
    (c.requires, omega (arith, n.0, n.1))
