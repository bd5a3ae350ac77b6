-- What the listing program prints.
use Rattle.std.specs.Prelude.{cond, List, [], ◌∷◌, ◌++◌, ℕ, ltb, length}
use Rattle.book.specs.Layout.{overlay_in, records_in}
use Rattle.wellformed.specs.Check.{well_formed}
use Rattle.listing.specs.Line.{line, header_line, record_lines}

-- `too large`
abbrev pub too_large : List ℕ
too_large = 0x74 ∷ 0x6f ∷ 0x6f ∷ 0x20 ∷ 0x6c ∷ 0x61 ∷ 0x72 ∷ 0x67 ∷ 0x65 ∷ []

-- `bad book`
abbrev pub bad_book : List ℕ
bad_book = 0x62 ∷ 0x61 ∷ 0x64 ∷ 0x20 ∷ 0x62 ∷ 0x6f ∷ 0x6f ∷ 0x6b ∷ []

-- of a well-formed book: line one, "Then per record"
unfoldable pub listing : List ℕ → List ℕ
listing s = header_line s ++ record_lines (overlay_in s) (records_in s)

-- "reads a book from standard input, up to 65,536 bytes. More: `too large`. Not well formed: `bad book`."
unfoldable pub printed : List ℕ → List ℕ
printed input = cond (ltb 65536 (length input)) (line (too_large ∷ [])) (cond (well_formed input) (listing input) (line (bad_book ∷ [])))
