-- The record at the place has the slot of the one that is offered, or a greater one.
use Rattle.reserve.proofs.Enters
use Rattle.reserve.proofs.enter.Claim.file.Goals as goal

pub add-requires : goal.add-requires
add-requires c =
    let a = c.args in
    Enters.free a.book.now a.self.now.given a.self.now.at c.requires (cc)

pub returns-in-Second : goal.returns-in-Second
returns-in-Second c =
    let a = c.args in
    Enters.outranked a.book.now a.self.now.given a.self.now.at c.requires (cc)
