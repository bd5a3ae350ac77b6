-- The record at the place does not rank higher than the one that is offered.
use Prim.Native.Nat.{◌<◌}
use native.Mathlib.Omega.{arith}
use Rattle.reserve.proofs.Enters
use Rattle.reserve.proofs.enter.Claim.replace.Goals as goal

pub overflow_mul-self : goal.overflow_mul-self
overflow_mul-self c =
    let few : c.args.self.now.at < 65536 = Enters.held_low c.args.book.now c.args.self.now.given c.args.self.now.at c.requires in
    record { fits = omega (arith, few) }

pub overflow_add-self : goal.overflow_add-self
overflow_add-self c =
    let few : c.args.self.now.at < 65536 = Enters.held_low c.args.book.now c.args.self.now.given c.args.self.now.at c.requires in
    record { fits = omega (arith, few) }

pub returns-in-First : goal.returns-in-First
returns-in-First c =
    let a = c.args in
    Enters.stays a.book.now a.self.now.given a.self.now.at c.requires.at c.requires.first (cc)

pub returns-in-Second : goal.returns-in-Second
returns-in-Second c =
    let a = c.args in
    Enters.replaces a.book.now a.self.now.given a.self.now.at c.requires.at c.requires.first (cc) _ c.put.ensures

-- two records of one slot: one of them is always chosen
pub returns-in-Neither : goal.returns-in-Neither
returns-in-Neither c =
    let a = c.args in
    absurd (Enters.never_neither a.book.now a.self.now.given a.self.now.at c.requires.at c.requires.first (cc))
