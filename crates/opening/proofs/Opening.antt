-- The three ways that opening ends.
use mathlib.Core.Path.{◌≡◌, ap}
use mathlib.Core.Bool.{true, false}
use mathlib.Core.List.{List}
use Prim.Native.Nat.{ℕ, ◌+◌, ◌*◌, ◌≤◌}
use lib.Dec.{eqb}
use lib.ListN.{length}
use borrow.Author.Tests.{leb-true, eq-eqb, ne_eqb}
use Rattle.std.specs.Prelude.{Result, Ok, Err}
use Rattle.opening.specs.declared.open.OpenError.{OpenError}
use Rattle.opening.specs.declared.open.OpenError.TheVariants.{OutOfRange, WrongLength}
use Rattle.book.specs.Book.{write}
use Rattle.opening.specs.Open.{in_range, fresh_book, left, open_answer, open_bytes}
use Rattle.book.proofs.Truths.{both, fails}

pub in_range_lem : (capacity starting : ℕ) → in_range capacity starting ≡ true → (16 ≤ capacity) × (capacity ≤ 65536) × (starting ≤ 16)
unfolding in_range
in_range_lem capacity starting e =
    let p = both e in
    let q = both p.1 in
    (leb-true _ _ p.0, leb-true _ _ q.0, leb-true _ _ q.1)

module _ (s overlay : List ℕ) (capacity starting : ℕ) where
  -- the answer and the bytes
  abbrev Ends : Result (Unit {0}) OpenError → List ℕ → Type 0
  Ends a t = (a ≡ open_answer s overlay capacity starting) × (t ≡ open_bytes s overlay capacity starting)

  ended : (a : Result (Unit {0}) OpenError) → a ≡ open_answer s overlay capacity starting → Ends a (left a (fresh_book overlay capacity starting) s)
  unfolding open_bytes
  ended a e = (e, ap (λ (b : Result (Unit {0}) OpenError). left b (fresh_book overlay capacity starting) s) e)

  pub out_of_range : in_range capacity starting ≡ false → Ends (Err OutOfRange) s
  unfolding open_answer
  out_of_range e = ended (Err OutOfRange) (rw e)

  module _ (r : in_range capacity starting ≡ true) where
    pub overlay_wrong : (length overlay ≡ 32 → ⊥) → Ends (Err WrongLength) s
    unfolding open_answer
    overlay_wrong h = ended (Err WrongLength) (rw (r, ne_eqb (length overlay) 32 h))

    pub buffer_wrong : (length s ≡ 48 + 145 * capacity → ⊥) → Ends (Err WrongLength) s
    unfolding open_answer
    buffer_wrong h = ended (Err WrongLength) (rw (r, fails (eqb (length overlay) 32) _ (ne_eqb (length s) (48 + 145 * capacity) h)))

    pub opens : length overlay ≡ 32 → length s ≡ 48 + 145 * capacity → Ends (Ok tt) (write (fresh_book overlay capacity starting))
    unfolding open_answer
    opens h k = ended (Ok tt) (rw (r, eq-eqb (length overlay) 32 h, eq-eqb (length s) (48 + 145 * capacity) k))
