-- A bucket has at most 2 ^ 24 slots, so no bit of their number is lost. (The check finds this alone; of a wrong test it would only give up.)
use mathlib.Core.Path.{◌≡◌, ◌∙◌}
use Prim.Native.Nat.{◌-◌, ◌*◌, ◌%◌, ◌^◌}
use native.Mathlib.Nat.{one-mul}
use native.Mathlib.Omega.{arith}
use lib.ListN.{get_or}
use lib.Pow.{shl_exact}
use Rattle.postage.specs.Stamp.{slots_of}
use Rattle.postage.specs.Rules.{in_slots}
use Rattle.postage.proofs.rules.in_slots.Goals as goal

pub returns : goal.returns
unfolding in_slots slots_of
returns c =
    let shift = get_or c.args.batch.now 52 0 - 16 in
    let all : 1 * 2 ^ shift % 2 ^ 32 ≡ 2 ^ shift = shl_exact 1 shift 32 (omega arith) (omega (arith, c.requires.is_fit.most)) ∙ one-mul (2 ^ shift) in
    rw (c.read.ensures, all)
