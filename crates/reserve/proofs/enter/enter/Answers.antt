-- Inside the depth, the place is the slot's.
use native.Mathlib.Omega.{arith}
use Rattle.reserve.proofs.Enters
use Rattle.reserve.proofs.enter.enter.Goals as goal

pub returns-then-near-depth : goal.returns-then-near-depth
returns-then-near-depth c =
    let s = c.args.book.now in
    Enters.lies_outside s c.args.given c.requires (omega (arith, Enters.near_there s c.args.given c.requires))

pub file-requires : goal.file-requires
file-requires c =
    let near = Enters.near_there c.args.book.now c.args.given c.requires in
    record { awaits = c.requires; inside = omega (arith, near); place = c.place-at.ensures }
