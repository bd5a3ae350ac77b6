-- "From all pairs (anchored address, address), each different pair once, the sixteen smallest by the joined 64 bytes are taken, ascending."
use mathlib.Core.List.{List, [], ◌∷◌, ◌++◌, Memᴰ}
use Rattle.std.specs.Prelude.{◌≡◌, ℕ, length, take, drop}
use Rattle.octets.specs.Order.{byte_order}
use Rattle.std.specs.declared.cmp.Ordering.{Ordering}
use Rattle.std.specs.declared.cmp.Ordering.TheVariants.{Less, Equal, Greater}
use Rattle.merkle.specs.Tree.{address_of, address_hashed}

-- ---- the sixteen

-- a pair that stands so to the first of an ascending list: before it, not a second time, or further on
abbrev pub standing : Ordering → List ℕ → List ℕ → List (List ℕ) → List (List ℕ) → List (List ℕ)
standing Less pair first rest further = pair ∷ first ∷ rest
standing Equal pair first rest further = first ∷ rest
standing Greater pair first rest further = first ∷ further

-- a pair put in its place, once
unfoldable pub entered : List ℕ → List (List ℕ) → List (List ℕ)
entered pair [] = pair ∷ []
entered pair (first ∷ rest) = standing (byte_order pair first) pair first rest (entered pair rest)

-- one pair after another, behind those that are held
unfoldable pub gathered : List (List ℕ) → List (List ℕ) → List (List ℕ)
gathered held [] = held
gathered held (pair ∷ pairs) = gathered (entered pair held) pairs

unfoldable pub sixteen : List (List ℕ) → List (List ℕ)
sixteen pairs = take 16 (gathered [] pairs)

-- ---- the sixteen by their meaning

-- each smaller than every later one
unfoldable pub Ascending : List (List ℕ) → Type 0
Ascending [] = Unit {0}
Ascending (p ∷ l) = ((q : List ℕ) → Memᴰ q l → byte_order p q ≡ Less) × Ascending l

pub record SixteenSmallest (pairs chosen : List (List ℕ)) : Type 0 where
  pub number : length chosen ≡ 16
  pub ascending : Ascending chosen
  pub among : (p : List ℕ) → Memᴰ p chosen → Memᴰ p pairs
  pub smallest : (p q : List ℕ) → Memᴰ p chosen → Memᴰ q pairs → (Memᴰ q chosen → ⊥) → byte_order p q ≡ Less

-- ---- the 1,024 bytes and the commitment

-- "written as address, anchored address"
abbrev pub address_first : List ℕ → List ℕ
address_first pair = drop 32 pair ++ take 32 pair

unfoldable pub written : List (List ℕ) → List ℕ
written [] = []
written (pair ∷ pairs) = address_first pair ++ written pairs

-- 1,024, lowest byte first
abbrev pub sample_span : List ℕ
sample_span = 0x00 ∷ 0x04 ∷ 0x00 ∷ 0x00 ∷ 0x00 ∷ 0x00 ∷ 0x00 ∷ 0x00 ∷ []

-- "The commitment is the address of those bytes under the span 00 04 00 00 00 00 00 00."
unfoldable pub commitment_of : List (List ℕ) → List ℕ
commitment_of pairs = address_of [] sample_span (written pairs)

unfoldable pub commitment_hashed : List (List ℕ) → List (List ℕ)
commitment_hashed pairs = address_hashed [] sample_span (written pairs)
