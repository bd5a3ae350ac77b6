-- Keccak-256 of a message, as the Keccak team has it: pad, cut in blocks of 136 bytes, xor each block in and permute, give the
-- first 32 bytes.
use Rattle.std.specs.Prelude.{List, [], ◌∷◌, ◌++◌, ◌≡◌, refl, ℕ, zero, suc, ◌-◌, ◌*◌, ◌/◌, ◌%◌, length, get_or, take, drop, replicate}
use Rattle.std.specs.Int.Bits.{bit_xor}
use Rattle.octets.specs.Number.{little}
use Rattle.tables.specs.Rules.{tab}
use Rattle.permutation.specs.Permutation.{permute}
use Rattle.keccak.specs.Sponge.{digest_of}

-- q bytes of padding: 0x01, zeros, 0x80; where the two meet, 0x81
abbrev pub padding : ℕ → List ℕ
padding zero = []
padding (suc zero) = 0x81 ∷ []
padding (suc (suc n)) = 0x01 ∷ (replicate n 0 ++ (0x80 ∷ []))

-- the message up to a whole number of blocks; one that ends with a block gets one more
abbrev pub padded : List ℕ → List ℕ
padded m = m ++ padding (136 - length m % 136)

abbrev pub block_count : List ℕ → ℕ
block_count m = length (padded m) / 136

-- the 64-bit word that bytes 8i to 8i + 7 make; 0 past the end
abbrev pub word : List ℕ → ℕ → ℕ
word bs i = little (take 8 (drop (8 * i) bs))

unfoldable pub xor_block : List ℕ → List ℕ → List ℕ
xor_block a block = tab (λ i. bit_xor (get_or a i 0) (word block i)) 0 25

-- the first n blocks of m go in
unfoldable pub blocks : ℕ → List ℕ → List ℕ → List ℕ
blocks zero a m = a
blocks (suc n) a m = blocks n (permute (xor_block a (take 136 m))) (drop 136 m)

-- shut: what stands above this crate knows a digest by its message alone
pub keccak256 : List ℕ → List ℕ
keccak256 m = digest_of (blocks (block_count m) (replicate 25 0) (padded m))

-- its one opening
pub textbook : (m : List ℕ) → keccak256 m ≡ digest_of (blocks (block_count m) (replicate 25 0) (padded m))
unfolding keccak256
textbook m = refl
