-- The sponge a byte at a time: rate 136 bytes, byte n of the state in lane n / 8, lanes little-endian.
use Rattle.std.specs.Prelude.{cond, List, [], ◌∷◌, ◌++◌, ◌≡◌, ℕ, ◌+◌, ◌*◌, ◌/◌, ◌%◌, ◌^◌, ◌<◌, ltb, eqb, length, get_or, set, replicate}
use Rattle.std.specs.Int.Bits.{bit_xor}
use Rattle.tables.specs.Rules.{tab}
use Rattle.permutation.specs.Permutation.{permute}
use Rattle.keccak.specs.declared.sponge.Sponge.{Sponge}

abbrev pub sponge : List ℕ → ℕ → Sponge
sponge a n = record { lanes = a; place = n }

abbrev pub fresh : Sponge
fresh = sponge (replicate 25 0) 0

-- a state whose place is 136 or more counts as a fresh one
unfoldable pub usable : Sponge → Sponge
usable s = cond (ltb s.place 136) s fresh

-- a state as it should be
pub record Sound (s : Sponge) : Type 0 where
  pub lanes25 : length s.lanes ≡ 25
  pub in_block : s.place < 136

-- byte b is xored in as byte n of the state
abbrev pub xor_byte : List ℕ → ℕ → ℕ → List ℕ
xor_byte a n b = set a (n / 8) (bit_xor (get_or a (n / 8) 0) (b * 2 ^ (8 * (n % 8)) % 2 ^ 64))

-- the next byte goes in, and a block that it fills is permuted
unfoldable pub step : Sponge → ℕ → Sponge
step s b =
    cond (eqb (s.place + 1) 136)
    (sponge (permute (xor_byte s.lanes s.place b)) 0)
    (sponge (xor_byte s.lanes s.place b) (s.place + 1))

unfoldable pub absorbed : Sponge → List ℕ → Sponge
absorbed s [] = s
absorbed s (b ∷ bs) = absorbed (step s b) bs

-- the parts, one call of `absorb` each
unfoldable pub absorbed_all : Sponge → List (List ℕ) → Sponge
absorbed_all s [] = s
absorbed_all s (p ∷ ps) = absorbed_all (absorbed (usable s) p) ps

unfoldable pub joined_parts : List (List ℕ) → List ℕ
joined_parts [] = []
joined_parts (p ∷ ps) = p ++ joined_parts ps

-- byte n of the state
abbrev pub byte_of : List ℕ → ℕ → ℕ
byte_of a n = get_or a (n / 8) 0 / 2 ^ (8 * (n % 8)) % 256

-- the state's first 32 bytes
unfoldable pub digest_of : List ℕ → List ℕ
digest_of a = tab (byte_of a) 0 32

-- the padding's two ends go in, 0x01 at the next place and 0x80 at the block's last, and the block is permuted
unfoldable pub finished : Sponge → List ℕ
finished s = digest_of (permute (xor_byte (xor_byte s.lanes s.place 0x01) 135 0x80))

-- the state that message m leaves in a fresh sponge
abbrev pub Holds : Sponge → List ℕ → Type 0
Holds s m = s ≡ absorbed fresh m
