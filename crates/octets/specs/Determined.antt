-- Each contract determines its function: two results that it allows are equal.
use Rattle.std.specs.Prelude.{◌≡◌, List, ℕ, min}
use Rattle.std.proofs.Common.{sym, ◌∙◌}
use Rattle.std.specs.declared.cmp.Ordering.{Ordering}
use Rattle.octets.specs.Order.{byte_order}
use Rattle.octets.specs.Number.{big_at, little_at}

pub compare_determined : (a b : List ℕ) (r r' : Ordering) → r ≡ byte_order a b → r' ≡ byte_order a b → r ≡ r'
compare_determined a b r r' p q = p ∙ sym q

pub lesser_determined : (a b r r' : ℕ) → r ≡ min a b → r' ≡ min a b → r ≡ r'
lesser_determined a b r r' p q = p ∙ sym q

-- a number of any type, as that type has it
pub read_determined : {T : Type 0} (of : ℕ → T) (width : ℕ) (s : List ℕ) (at : ℕ) (r r' : T) → r ≡ of (big_at width s at) → r' ≡ of (big_at width s at) → r ≡ r'
read_determined of width s at r r' p q = p ∙ sym q

-- and its own bytes
pub bytes_determined : {T B : Type 0} (in_bytes : T → B) (n : T) (r r' : B) → r ≡ in_bytes n → r' ≡ in_bytes n → r ≡ r'
bytes_determined in_bytes n r r' p q = p ∙ sym q

pub read_little64_determined : (s : List ℕ) (at r r' : ℕ) → r ≡ little_at 8 s at → r' ≡ little_at 8 s at → r ≡ r'
read_little64_determined s at r r' p q = p ∙ sym q
