-- The walk along the shelf, one record after another.
use mathlib.Core.Bool.{Bool, true, false, ◌&&◌, false≢true}
use mathlib.Core.Path.{◌≡◌, refl, sym, ap, ◌∙◌}
use mathlib.Core.List.{List, [], ◌∷◌, map}
use Prim.Native.Nat.{ℕ, suc, ◌+◌, ◌-◌, ◌*◌, ◌≤◌, ◌<◌}
use native.Mathlib.Numerals.{add-one}
use native.Mathlib.Omega.{arith}
use lib.ListN.{length, take, drop, drop_of_length-le, get_or-map}
use lib.Seq.{take_all, drop-cons}
use Rattle.records.specs.Record.{address_in}
use Rattle.book.specs.Layout.{capacity_in, count_in, records_in, record_in}
use Rattle.wellformed.specs.Check.{labelled, sized, well_formed}
use Rattle.wellformed.proofs.Tested.{sized_true}
use Rattle.draw.specs.Answer.{of_cell, and_then}
use Rattle.shelf.specs.Cell.{pair_of, size_in, cell_in}
use Rattle.shelf.specs.Read.{cell_answer}
use Rattle.draw.specs.Shelf.{behind, cells_on, shelf_answer}
use Rattle.sample.specs.Sample.{entered, gathered, sixteen}
use Rattle.draw.specs.Draw.{addresses_in, cells_drawn, pairs_drawn, sixteen_drawn}
use Rattle.sample.proofs.Gathering.{take_gathered}
use Rattle.draw.proofs.Answered.{addresses_length}

-- the addresses of the records from place i on
abbrev pub addresses_from : ℕ → List ℕ → List (List ℕ)
addresses_from i book = drop i (addresses_in book)

-- the address of record i
abbrev pub address_at : ℕ → List ℕ → List ℕ
address_at i book = address_in (record_in book i)

addresses_first : (i : ℕ) (book : List ℕ) → i < count_in book → addresses_from i book ≡ address_at i book ∷ addresses_from (i + 1) book
unfolding record_in
addresses_first i book h =
    drop-cons (addresses_in book) i [] (omega (arith, addresses_length book))
    ∙ ap (λ (a : List ℕ). a ∷ addresses_from (suc i) book) (get_or-map address_in (records_in book) i [])
    ∙ rw add-one

-- ---- what is answered

pub answer_turn : (i : ℕ) (book s : List ℕ) → i < count_in book
    → shelf_answer i (addresses_from i book) s ≡ and_then (of_cell i (cell_answer (address_at i book) s)) (shelf_answer (i + 1) (addresses_from (i + 1) book) (behind s))
unfolding shelf_answer
answer_turn i book s h = ap (λ (l : List (List ℕ)). shelf_answer i l s) (addresses_first i book h) ∙ rw add-one

pub answer_last : (i : ℕ) (book s : List ℕ) → count_in book ≤ i → shelf_answer i (addresses_from i book) s ≡ shelf_answer i [] s
answer_last i book s h =
    ap (λ (l : List (List ℕ)). shelf_answer i l s) (drop_of_length-le (addresses_in book) {i = i} (omega (arith, addresses_length book)))

-- ---- what is gathered

-- the sixteen smallest of the pairs that are held and those of the n cells ahead
abbrev pub ahead_of : List ℕ → List (List ℕ) → ℕ → List ℕ → List (List ℕ)
ahead_of anchor held n s = take 16 (gathered held (map (pair_of anchor) (cells_on n s)))

pub sixteen_ahead : (book shelf anchor : List ℕ) → sixteen_drawn book shelf anchor ≡ ahead_of anchor [] (count_in book) shelf
unfolding sixteen_drawn pairs_drawn cells_drawn sixteen
sixteen_ahead book shelf anchor = refl

pub ahead_turn : (anchor : List ℕ) (held : List (List ℕ)) (n i : ℕ) (s : List ℕ) → i < n
    → ahead_of anchor held (n - i) s ≡ ahead_of anchor (take 16 (entered (pair_of anchor (cell_in s)) held)) (n - (i + 1)) (behind s)
unfolding cells_on gathered
ahead_turn anchor held n i s h =
    let e : n - i ≡ suc (n - (i + 1)) = omega arith in
    ap (λ (k : ℕ). ahead_of anchor held k s) e ∙ sym (take_gathered 16 (entered (pair_of anchor (cell_in s)) held) (map (pair_of anchor) (cells_on (n - (i + 1)) (behind s))))

pub ahead_last : (anchor : List ℕ) (held : List (List ℕ)) (n i : ℕ) (s : List ℕ) → n ≤ i → length held ≤ 16 → ahead_of anchor held (n - i) s ≡ held
unfolding cells_on gathered
ahead_last anchor held n i s h k =
    let e : n - i ≡ 0 = omega arith in
    ap (λ (j : ℕ). ahead_of anchor held j s) e ∙ take_all 16 held k

-- ---- what lies behind a cell

pub behind_is : (size : ℕ) (rest : List ℕ) → size ≡ 10 + size_in rest → behind rest ≡ drop size rest
unfolding behind
behind_is size rest e = rw e

-- ---- what being well formed gives

sized_part : (a b c : Bool) → (a && (b && c)) ≡ true → b ≡ true
sized_part true true c e = refl
sized_part true false c e = absurd (false≢true e)
sized_part false b c e = absurd (false≢true e)

pub formed_long : (s : List ℕ) → well_formed s ≡ true → (48 + 145 * count_in s ≤ length s) × (count_in s ≤ 65536)
unfolding well_formed
formed_long s e =
    let z = sized_true (length s) (capacity_in s) (count_in s) (sized_part (labelled s) (sized (length s) (capacity_in s) (count_in s)) _ e) in
    (omega (arith, z.whole, z.within), omega (arith, z.most, z.within))
