-- The lines of a book. "every line ends with one line feed"
use Rattle.std.specs.Prelude.{cond, List, [], ◌∷◌, ◌++◌, ℕ, eqb, take}
use Rattle.octets.specs.Number.{big}
use Rattle.nearness.specs.Bits.{shared_bits}
use Rattle.records.specs.Record.{bucket_in, index_in, time_in, address_in}
use Rattle.book.specs.Layout.{mark_in, version_in, state_in, starting_in, depth_in, capacity_in, count_in}
use Rattle.digits.specs.Field.{decimal, hex}

abbrev pub space : ℕ
space = 0x20

abbrev pub line_feed : ℕ
line_feed = 0x0a

-- fields with a space between two, and a line feed
unfoldable pub line : List (List ℕ) → List ℕ
line [] = line_feed ∷ []
line (f ∷ []) = f ++ (line_feed ∷ [])
line (f ∷ g ∷ fs) = f ++ (space ∷ line (g ∷ fs))

-- `good`
abbrev pub good : List ℕ
good = 0x67 ∷ 0x6f ∷ 0x6f ∷ 0x64 ∷ []

-- `overfull`
abbrev pub overfull : List ℕ
overfull = 0x6f ∷ 0x76 ∷ 0x65 ∷ 0x72 ∷ 0x66 ∷ 0x75 ∷ 0x6c ∷ 0x6c ∷ []

unfoldable pub state_word : ℕ → List ℕ
state_word state = cond (eqb state 1) overfull good

-- "Line one: mark, version, state (`good` or `overfull`), starting depth, depth, count, capacity."
unfoldable pub header_line : List ℕ → List ℕ
header_line s =
    line
    (mark_in s
    ∷ decimal (version_in s)
    ∷ state_word (state_in s)
    ∷ decimal (starting_in s)
    ∷ decimal (depth_in s)
    ∷ decimal (count_in s)
    ∷ decimal (capacity_in s)
    ∷ [])

-- "per record: first four batch bytes, bucket, index, time, first four address bytes, shared bits"
unfoldable pub record_line : List ℕ → List ℕ → List ℕ
record_line overlay r =
    line
    (hex (take 4 r)
    ∷ decimal (bucket_in r)
    ∷ decimal (index_in r)
    ∷ decimal (big (time_in r))
    ∷ hex (take 4 (address_in r))
    ∷ decimal (shared_bits (address_in r) overlay)
    ∷ [])

unfoldable pub record_lines : List ℕ → List (List ℕ) → List ℕ
record_lines overlay [] = []
record_lines overlay (r ∷ l) = record_line overlay r ++ record_lines overlay l
