-- Where `open` answers 0, and what it leaves then.
use mathlib.Core.Path.{◌≡◌, refl, sym, ap}
use mathlib.Core.Bool.{Bool, true, false, cond, ◌&&◌}
use mathlib.Core.List.{List, [], ◌∷◌, Memᴰ}
use Prim.Native.Nat.{ℕ, ◌+◌, ◌*◌, ◌≤◌}
use native.Mathlib.Omega.{arith}
use lib.Dec.{eqb}
use lib.ListN.{length}
use borrow.Author.Tests.{eqb-true, le-leb}
use Rattle.octets.specs.Bytes.{Bytes}
use Rattle.settling.specs.Meaning.{Each}
use Rattle.std.specs.Prelude.{Result, Ok, Err}
use Rattle.opening.specs.declared.open.OpenError.{OpenError}
use Rattle.opening.specs.declared.open.OpenError.TheVariants.{OutOfRange, WrongLength}
use Rattle.opening.specs.Open.{in_range, fresh_book, left, open_answer, open_bytes, open_number}
use Rattle.histories.specs.Histories.{Openable, opened}
use Rattle.opening.proofs.Opening.{in_range_lem, opens}

-- 0 is the number of no other answer
done : (a : Result (Unit {0}) OpenError) → open_number a ≡ 0 → a ≡ Ok tt
done (Ok value) e = refl
done (Err OutOfRange) e = absurd (omega (arith, e))
done (Err WrongLength) e = absurd (omega (arith, e))

module _ (buffer overlay : List ℕ) (capacity starting : ℕ) (z : open_number (open_answer buffer overlay capacity starting) ≡ 0) where
  pub fresh_bytes : open_bytes buffer overlay capacity starting ≡ opened overlay capacity starting
  unfolding open_bytes
  fresh_bytes = ap (λ (a : Result (Unit {0}) OpenError). left a (fresh_book overlay capacity starting) buffer) (done (open_answer buffer overlay capacity starting) z)

  pub fresh_openable : Bytes overlay → Openable overlay capacity starting
  unfolding open_answer
  fresh_openable byte = by (in_range capacity starting) (eqb (length overlay) 32) (eqb (length buffer) (48 + 145 * capacity)) refl refl z
    where
      by : (r o b : Bool) → in_range capacity starting ≡ r → eqb (length overlay) 32 ≡ o
          → open_number (cond r (cond (o && b) (Ok (tt {0})) (Err WrongLength)) (Err OutOfRange)) ≡ 0 → Openable overlay capacity starting
      by true true b h k e =
          let bounds = in_range_lem capacity starting h in
          record { size = eqb-true _ _ k; bytes = byte; least = bounds.0; most = bounds.1; depth = bounds.2 }
      by true false b h k e = absurd (omega (arith, e))
      by false o b h k e = absurd (omega (arith, e))

within : (capacity starting : ℕ) → 16 ≤ capacity → capacity ≤ 65536 → starting ≤ 16 → in_range capacity starting ≡ true
unfolding in_range
within capacity starting p q r = rw (le-leb 16 capacity p, le-leb capacity 65536 q, le-leb starting 16 r) refl

pub opens_within : (buffer overlay : List ℕ) (capacity starting : ℕ) → 16 ≤ capacity → capacity ≤ 65536 → starting ≤ 16
    → length overlay ≡ 32 → length buffer ≡ 48 + 145 * capacity → open_number (open_answer buffer overlay capacity starting) ≡ 0
opens_within buffer overlay capacity starting p q r h k =
    ap open_number (sym (opens buffer overlay capacity starting (within capacity starting p q r) h k).0)

-- what holds of each member holds of each of a list that has no others
pub each_of : {A : Type 0} (P : A → Type 0) (l : List A) → ((x : A) → Memᴰ x l → P x) → Each P l
each_of P [] h = tt
each_of P (x ∷ l) h = (h x (Memᴰ.head refl), each_of P l (λ y m. h y (Memᴰ.tail m)))
