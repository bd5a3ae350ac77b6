-- Document 01's example, and numbers and words that compute.
use Rattle.std.specs.Prelude.{◌≡◌, refl, List, [], ◌∷◌, ◌++◌, ℕ, replicate}
use Rattle.octets.specs.Number.{big, bytes_of}
use Rattle.octets.specs.Order.{byte_order}
use Rattle.octets.specs.Pieces.{pieces}
use Rattle.nearness.specs.Bits.{bits, bits_of, leading_equal, shared_bits}
use Rattle.settling.specs.Book.{good}
use Rattle.book.specs.Layout.{laid}
use Rattle.wellformed.specs.Check.{labelled, sized, levelled, stands, all_stand, rises, zeros, well_formed}
use Rattle.book.specs.Book.{write}
use Rattle.digits.specs.Field.{digit, digits, decimal, hex}
use Rattle.listing.specs.Line.{line, state_word, header_line, record_line, record_lines}
use Rattle.listing.specs.Listing.{listing, printed}

-- `0`, `7`, `100`, `4660`, `65536`, and 2^64 - 1, which has twenty digits
pub decimals : (decimal 0 ≡ 0x30 ∷ [])
    × (decimal 7 ≡ 0x37 ∷ [])
    × (decimal 100 ≡ 0x31 ∷ 0x30 ∷ 0x30 ∷ [])
    × (decimal 4660 ≡ 0x34 ∷ 0x36 ∷ 0x36 ∷ 0x30 ∷ [])
    × (decimal 65536 ≡ 0x36 ∷ 0x35 ∷ 0x35 ∷ 0x33 ∷ 0x36 ∷ [])
    × (decimal 18446744073709551615
    ≡ 0x31 ∷ 0x38 ∷ 0x34 ∷ 0x34 ∷ 0x36 ∷ 0x37 ∷ 0x34 ∷ 0x34 ∷ 0x30 ∷ 0x37 ∷ 0x33 ∷ 0x37 ∷ 0x30 ∷ 0x39 ∷ 0x35 ∷ 0x35 ∷ 0x31 ∷ 0x36 ∷ 0x31 ∷ 0x35 ∷ [])
unfolding decimal digits digit
decimals = (refl, refl, refl, refl, refl, refl)

-- `80ff0a`
pub in_hex : hex (0x80 ∷ 0xff ∷ 0x0a ∷ []) ≡ 0x38 ∷ 0x30 ∷ 0x66 ∷ 0x66 ∷ 0x30 ∷ 0x61 ∷ []
unfolding hex digit
in_hex = refl

-- a record of the example's batch: its address begins with two bytes and is zero from there on, its signature is zero
abbrev held : ℕ → ℕ → ℕ → ℕ → List ℕ
held x y index time = replicate 32 0x11 ++ (0 ∷ 0 ∷ x ∷ y ∷ []) ++ bytes_of 4 index ++ bytes_of 8 time ++ (x ∷ y ∷ []) ++ replicate 30 0 ++ replicate 65 0

-- the book of the example
abbrev pub example : List ℕ
example = write (record { starting = 0; overlay = replicate 32 0; capacity = 16; state = good 0 (held 0x12 0x34 1 7 ∷ held 0x80 0x00 0 100 ∷ []) })

-- `RSV 1 good 0 0 2 16`
abbrev pub first_line : List ℕ
first_line = 0x52 ∷ 0x53 ∷ 0x56 ∷ 0x20 ∷ 0x31 ∷ 0x20 ∷ 0x67 ∷ 0x6f ∷ 0x6f ∷ 0x64 ∷ 0x20 ∷ 0x30 ∷ 0x20 ∷ 0x30 ∷ 0x20 ∷ 0x32 ∷ 0x20 ∷ 0x31 ∷ 0x36 ∷ 0x0a ∷ []

-- `11111111 4660 1 7 12340000 3`
abbrev pub second_line : List ℕ
second_line =
    replicate 8 0x31
    ++ (0x20 ∷ 0x34 ∷ 0x36 ∷ 0x36 ∷ 0x30 ∷ 0x20 ∷ 0x31 ∷ 0x20 ∷ 0x37 ∷ 0x20 ∷ 0x31 ∷ 0x32 ∷ 0x33 ∷ 0x34 ∷ 0x30 ∷ 0x30 ∷ 0x30 ∷ 0x30 ∷ 0x20 ∷ 0x33 ∷ 0x0a ∷ [])

-- `11111111 32768 0 100 80000000 0`
abbrev pub third_line : List ℕ
third_line =
    replicate 8 0x31
    ++ (0x20 ∷ 0x33 ∷ 0x32 ∷ 0x37 ∷ 0x36 ∷ 0x38 ∷ 0x20 ∷ 0x30 ∷ 0x20 ∷ 0x31 ∷ 0x30 ∷ 0x30 ∷ 0x20 ∷ 0x38 ∷ 0x30 ∷ 0x30 ∷ 0x30 ∷ 0x30 ∷ 0x30 ∷ 0x30 ∷ 0x30 ∷ 0x20 ∷ 0x30 ∷ 0x0a ∷ [])

-- all that is printed for it
pub example_printed : printed example ≡ first_line ++ second_line ++ third_line
unfolding printed listing header_line record_line record_lines line state_word decimal digits digit hex write laid pieces bytes_of big byte_order shared_bits bits_of bits leading_equal well_formed labelled sized levelled stands all_stand rises zeros
example_printed = refl
