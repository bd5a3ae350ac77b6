-- What the rules ask of two strings of bytes, and of the list.
use mathlib.Core.Path.{◌≡◌, refl, sym, ap, ◌∙◌}
use mathlib.Core.Bool.{Bool, true, false, false≢true}
use mathlib.Core.List.{List}
use Prim.Native.Nat.{ℕ, ◌≤◌}
use lib.Dec.{eqb}
use lib.ListN.{length, take}
use lib.Seq.{take_all}
use lib.Pointwise.{pointwise, bytes_decides}
use Rattle.std.specs.Ordering.{is_eq}
use Rattle.batches.specs.Batch.{well_listed}
use Rattle.octets.specs.Order.{byte_order}
use Rattle.octets.proofs.Ordered.{is_same_lem, order_self, same_equal}

-- std tells them equal just where the order does
pub told_equal : (a b : List ℕ) → pointwise eqb a b ≡ is_eq (byte_order a b)
told_equal a b = go (pointwise eqb a b) (is_eq (byte_order a b)) refl refl
  where
    go : (p q : Bool) → pointwise eqb a b ≡ p → is_eq (byte_order a b) ≡ q → p ≡ q
    go true true e f = refl
    go false false e f = refl
    go true false e f = absurd (false≢true (sym f ∙ ap is_eq (ap (byte_order a) (sym ((bytes_decides a b).0 e)) ∙ order_self a)))
    go false true e f = absurd (false≢true (sym e ∙ (bytes_decides a b).1 (same_equal a b (is_same_lem (byte_order a b) f))))

-- a list is checked whole where it is checked as far as its end
pub to_end : (list : List ℕ) (end : ℕ) (told : Bool) → told ≡ well_listed (take end list) → length list ≤ end → well_listed list ≡ told
to_end list end told e h = sym (e ∙ ap well_listed (take_all end list h))
