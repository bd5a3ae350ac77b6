-- The three ways that a rise ends.
use mathlib.Core.Path.{refl, sym, ◌∙◌}
use native.Mathlib.Omega.{arith}
use Rattle.filing.specs.Least.{least_in}
use Rattle.reserve.proofs.Enters
use Rattle.reserve.proofs.Rises
use Rattle.reserve.proofs.enter.Claim.rise.Goals as goal

pub returns-in_default : goal.returns-in_default
returns-in_default c =
    let a = c.args in
    let least = least_in a.book.now a.self.now.given in
    Rises.rise_bursts a.book.now a.self.now.given a.self.now.at c.requires.0 c.requires.1 least refl (Rises.past least (sym c.rising_depth.ensures ∙ c.in_default.is)) _ c.burst.ensures

pub returns-then-own-least : goal.returns-then-own-least
returns-then-own-least c =
    let a = c.args in
    let least = Rises.reached (least_in a.book.now a.self.now.given) c.in-Some.least (sym c.rising_depth.ensures ∙ c.in-Some.is) in
    let near = Enters.near_there a.book.now a.self.now.given c.requires.0.at.awaits in
    Rises.rise_drops a.book.now a.self.now.given a.self.now.at c.requires.0 c.requires.1 c.in-Some.least least.0 (omega (arith, least.0, least.1)) _
    c.keep_inside-before.ensures.book_after (omega (arith, near))

pub returns : goal.returns
returns c =
    let a = c.args in
    let least = Rises.reached (least_in a.book.now a.self.now.given) c.in-Some.least (sym c.rising_depth.ensures ∙ c.in-Some.is) in
    let near = Enters.near_there a.book.now a.self.now.given c.requires.0.at.awaits in
    Rises.rise_keeps a.book.now a.self.now.given a.self.now.at c.requires.0 c.requires.1 c.in-Some.least least.0 (omega (arith, least.0, least.1)) _
    c.keep_inside-before.ensures.book_after (omega (arith, near)) c.count-all.result c.keep_inside-before.result c.count-all.ensures c.keep_inside-before.ensures.value _ c.add_record.ensures
