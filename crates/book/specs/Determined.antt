-- Each contract determines its function: two results that it allows are equal.
use Rattle.std.specs.Prelude.{◌≡◌, Bool, List, ℕ, eqb}
use Rattle.std.proofs.Common.{sym, ◌∙◌}
use Rattle.octets.specs.Number.{big_at}
use Rattle.book.specs.Layout.{state_in, starting_in, depth_in, record_in}

-- the header's numbers

pub overfull_determined : (s : List ℕ) (r r' : Bool) → r ≡ eqb (state_in s) 1 → r' ≡ eqb (state_in s) 1 → r ≡ r'
overfull_determined s r r' p q = p ∙ sym q

pub starting_depth_determined : (s : List ℕ) (r r' : ℕ) → r ≡ starting_in s → r' ≡ starting_in s → r ≡ r'
starting_depth_determined s r r' p q = p ∙ sym q

pub depth_determined : (s : List ℕ) (r r' : ℕ) → r ≡ depth_in s → r' ≡ depth_in s → r ≡ r'
depth_determined s r r' p q = p ∙ sym q

-- capacity and count, at their places
pub number_determined : (s : List ℕ) (at r r' : ℕ) → r ≡ big_at 4 s at → r' ≡ big_at 4 s at → r ≡ r'
number_determined s at r r' p q = p ∙ sym q

-- one of its records
pub record_at_determined : (s : List ℕ) (i : ℕ) (r r' : List ℕ) → r ≡ record_in s i → r' ≡ record_in s i → r ≡ r'
record_at_determined s i r r' p q = p ∙ sym q
