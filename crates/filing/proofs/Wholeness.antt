-- Whether bytes hold what their header counts, by the count that code reads: 0 where the header is not there.
use mathlib.Core.Path.{◌≡◌, refl, sym, ◌∙◌}
use mathlib.Core.Bool.{true, false, ◌&&◌}
use mathlib.Core.List.{List}
use Prim.Native.Nat.{ℕ, ◌+◌, ◌*◌, ◌≤◌, ◌<◌}
use native.Mathlib.Omega.{arith}
use lib.Dec.{leb}
use lib.ListN.{length}
use borrow.Author.Tests.{le-leb, lt-leb, leb-true}
use Rattle.book.specs.Layout.{count_in}
use Rattle.book.proofs.Truths.{both, fails}
use Rattle.filing.specs.Whole.{whole}

module _ (s : List ℕ) where
  whole_is : whole s ≡ (leb (count_in s) 65536 && leb (48 + 145 * count_in s) (length s))
  unfolding whole
  whole_is = refl

  pub whole_few : whole s ≡ true → count_in s ≤ 65536
  whole_few e = leb-true (count_in s) 65536 (both {a = leb (count_in s) 65536} {b = leb (48 + 145 * count_in s) (length s)} (sym whole_is ∙ e)).0

  pub whole_room : whole s ≡ true → 48 + 145 * count_in s ≤ length s
  whole_room e = leb-true (48 + 145 * count_in s) (length s) (both {a = leb (count_in s) 65536} {b = leb (48 + 145 * count_in s) (length s)} (sym whole_is ∙ e)).1

  pub whole_here : count_in s ≤ 65536 → 48 + 145 * count_in s ≤ length s → whole s ≡ true
  whole_here h k = whole_is ∙ rw (le-leb (count_in s) 65536 h, le-leb (48 + 145 * count_in s) (length s) k)

  -- where they do not
  pub whole_not : count_in s ≤ 65536 → length s < 48 + 145 * count_in s → whole s ≡ false
  whole_not h k = whole_is ∙ rw (le-leb (count_in s) 65536 h, lt-leb (48 + 145 * count_in s) (length s) k)

  pub whole_many : 65536 < count_in s → whole s ≡ false
  whole_many h = whole_is ∙ rw (lt-leb (count_in s) 65536 h)

  pub whole_headless : length s < 48 → whole s ≡ false
  whole_headless h = whole_is ∙ fails (leb (count_in s) 65536) (leb (48 + 145 * count_in s) (length s)) (lt-leb (48 + 145 * count_in s) (length s) (omega arith))
