-- The digits are the end of their twenty bytes.
use Prim.Native.Nat.{◌-◌}
use mathlib.Core.Path.{◌≡◌, ◌∙◌}
use native.Mathlib.Omega.{arith}
use lib.ListN.{length, take, drop, length-drop}
use lib.Seq.{take_all}
use Rattle.digits.specs.Field.{decimal}
use Rattle.digits.proofs.Letters
use Rattle.listing.proofs.Puts
use Rattle.listing.proofs.field.Text.number.Goals as goal

pub returns : goal.returns
returns c =
    let bytes = c.decimal_of-digits.result.bytes in
    let from = c.decimal_of-digits.result.from in
    let there = Letters.spelled_there c.args.n c.decimal_of-digits.result c.decimal_of-digits.ensures.value in
    let e : take (length bytes - from) (drop from bytes) ≡ decimal c.args.n = take_all (length bytes - from) (drop from bytes) (omega (arith, length-drop from bytes)) ∙ there.1.1 in
    let p = rw e at c.field.ensures in
    record { put = p; upper_bound = Puts.put_within (decimal c.args.n) c.args.end 20 (Letters.decimal_fits c.args.n) p.put }
