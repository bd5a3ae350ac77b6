-- `verifying::checking::verdict` meets its contract: the bytes are the same where byte order tells nothing apart.
use Rattle.std.specs.Prelude.{Ok, Err, ◌≡◌, refl, List, ℕ, Bool, true, false, cond, not}
use Rattle.std.specs.declared.cmp.Ordering.{Ordering}
use Rattle.std.specs.declared.cmp.Ordering.TheVariants.{Less, Equal, Greater}
use Rattle.std.specs.Cmp.Lexicographic.{same_text, other_text}
use Rattle.std.proofs.Common.{nat_eq}
use lib.Pointwise.{pointwise}
use Rattle.octets.specs.Order.{byte_order}
use Rattle.octets.proofs.Ordered.{order_self, same_equal}
use Rattle.verifying.specs.declared.checking.CheckError.TheVariants as Refused
use Rattle.verifying.specs.Answer.{verdict}
use Rattle.verifying.proofs.checking.verdict.Goals as goal

told : (a b : List ℕ) (other : Bool) → other ≡ not (pointwise nat_eq a b) → cond other (Err Refused.Fails) (Ok tt) ≡ verdict (byte_order a b)
told a b other e = rw e (by (pointwise nat_eq a b) refl)
  where
    apart : (o : Ordering) → (o ≡ Equal → ⊥) → Err Refused.Fails ≡ verdict o
    apart Less h = refl
    apart Equal h = absurd (h refl)
    apart Greater h = refl

    by : (same : Bool) → same ≡ pointwise nat_eq a b → cond (not same) (Err Refused.Fails) (Ok tt) ≡ verdict (byte_order a b)
    by true t = rw (same_text a b t, order_self b)
    by false t = apart (byte_order a b) (λ e. other_text a b t (same_equal a b e))

pub returns-then-ne : goal.returns-then-ne
returns-then-ne c = told c.args.found.now c.args.address.now _ c.if-ne.ensures

pub returns : goal.returns
returns c = told c.args.found.now c.args.address.now _ c.if-ne.ensures
