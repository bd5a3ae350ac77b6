-- The mark decides, and where it is right the version.
use mathlib.Core.Path.{◌≡◌, sym, ap, ◌∙◌}
use mathlib.Core.Bool.{true, false}
use Prim.Native.Nat.{ℕ}
use native.Mathlib.Omega.{arith}
use lib.Dec.{eqb}
use Rattle.std.specs.Ordering.{is_eq}
use Rattle.octets.specs.Order.{byte_order}
use Rattle.octets.proofs.Numbers.{big_at_fits}
use Rattle.book.specs.Layout.{mark, mark_in}
use Rattle.wellformed.specs.Check.{labelled}
use Rattle.wellformed.proofs.Tests
use Rattle.wellformed.proofs.check.is_labelled.Goals as goal

pub returns-then-starts_with : goal.returns-then-starts_with
unfolding labelled
returns-then-starts_with c =
    let s = c.args.header.now in
    let mark_so : true ≡ is_eq (byte_order (mark_in s) mark) = sym c.if-starts_with.true ∙ c.starts_with.ensures.value ∙ Tests.marked s (omega arith) in
    rw (← mark_so) (ap (λ (n : ℕ). eqb n 1) (c.read.ensures ∙ big_at_fits 2 s 3 (omega arith)))

pub returns-else-starts_with : goal.returns-else-starts_with
unfolding labelled
returns-else-starts_with c =
    let s = c.args.header.now in
    let mark_so : false ≡ is_eq (byte_order (mark_in s) mark) = sym c.if-starts_with.false ∙ c.starts_with.ensures.value ∙ Tests.marked s (omega arith) in
    rw (← mark_so) c.if-starts_with.false
