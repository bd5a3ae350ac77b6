-- What is read of a cell, and what is answered of it.
use Rattle.std.specs.Prelude.{Result, Ok, Err, Bool, true, false, cond, List, [], ◌++◌, ◌≡◌, refl, ℕ, ◌+◌, ◌-◌, ◌≤◌, ◌<◌, eqb, ltb, length, take, drop, replicate}
use Rattle.std.proofs.Common.{sym, ap, ap₂, ◌∙◌, arith}
use Rattle.std.specs.Result.{result_unwrap_or, result_and}
use mathlib.Core.List.{append-nil}
use lib.ListN.{length-take, drop_of_length-le}
use Rattle.std.specs.Cmp.Lexicographic.{pointwise}
use Rattle.std.specs.Bool.{Decides}
use Rattle.std.proofs.lemmas.Slice.Eq.{bytes_eq-Decides}
use lib.Seq.{take_at, length-take-le}
use borrow.Author.Tests.{lt-ltb, le-ltb, ltb-false}
use Rattle.octets.specs.Number.{big_at}
use Rattle.octets.specs.Order.{byte_order}
use Rattle.moving.specs.Moving.{over, placed}
use Rattle.std.specs.declared.cmp.Ordering.{Ordering}
use Rattle.std.specs.declared.cmp.Ordering.TheVariants as Ordered
use Rattle.octets.proofs.Ordered.{order_self, same_equal}
use Rattle.octets.proofs.Numbers.{big_at_fits}
use Rattle.moving.proofs.Edits.{placed_fits, length_over}
use Rattle.merkle.specs.Tree.{address_of}
use Rattle.answers.specs.Number.{digest_or_zeros}
use Rattle.chunk.specs.Answer.{addressed, anchored_addressed}
use Rattle.chunk.specs.declared.addresses.AddressError.{AddressError}
use Rattle.chunk.proofs.Answers.{addressed_done, anchored_addressed_done}
use Rattle.shelf.specs.declared.cell.CellError.{CellError}
use Rattle.shelf.specs.declared.cell.CellRead.{CellRead}
use Rattle.shelf.specs.declared.cell.CellError.TheVariants.{ShelfEnds, TooLong, Mismatch}
use Rattle.shelf.specs.Cell.{own_address, pair_of, size_in, cell_in}
use Rattle.shelf.specs.Read.{matching, cell_answer, pair_read, cell_read}
use Rattle.shelf.proofs.Pairs.{own_length}

-- ---- what is answered

module _ (recorded s : List ℕ) where
  pub cell_short : length s < 10 → Err ShelfEnds ≡ cell_answer recorded s
  unfolding cell_answer
  cell_short h = rw (lt-ltb _ _ h)

  pub cell_long : 10 ≤ length s → 4096 < size_in s → Err TooLong ≡ cell_answer recorded s
  unfolding cell_answer
  cell_long h k = rw (le-ltb _ _ h, lt-ltb _ _ k)

  pub cell_cut : 10 ≤ length s → size_in s ≤ 4096 → length s < 10 + size_in s → Err ShelfEnds ≡ cell_answer recorded s
  unfolding cell_answer
  cell_cut h k j = rw (le-ltb _ _ h, le-ltb _ _ k, lt-ltb _ _ j)

  pub cell_whole : 10 ≤ length s → size_in s ≤ 4096 → 10 + size_in s ≤ length s → matching (byte_order (own_address (cell_in s)) recorded) ≡ cell_answer recorded s
  unfolding cell_answer
  cell_whole h k j = rw (le-ltb _ _ h, le-ltb _ _ k, le-ltb _ _ j)

pub compared : (a b : List ℕ) → matching (byte_order a b) ≡ cond (pointwise eqb a b) (Ok tt) (Err Mismatch)
compared a b = by (byte_order a b) (pointwise eqb a b) refl refl
  where
    decides : Decides (pointwise eqb a b) (a ≡ b)
    decides = bytes_eq-Decides a b

    by : (o : Ordering) (e : Bool) → byte_order a b ≡ o → pointwise eqb a b ≡ e → matching o ≡ cond e (Ok tt) (Err Mismatch)
    by Ordered.Less true h k = let same = rw (decides.0 k) at h in cc (order_self b)
    by Ordered.Less false h k = refl
    by Ordered.Equal true h k = refl
    by Ordered.Equal false h k = let same = decides.1 (same_equal a b h) in cc
    by Ordered.Greater true h k = let same = rw (decides.0 k) at h in cc (order_self b)
    by Ordered.Greater false h k = refl

-- the cell is there, and is its record's
abbrev pub Whole : List ℕ → List ℕ → Type 0
Whole address s = (10 ≤ length s) × (own_address (cell_in s) ≡ address) × (size_in s ≤ 4096) × (10 + size_in s ≤ length s)

pub cell_sound : (address s : List ℕ) → cell_answer address s ≡ Ok tt → Whole address s
unfolding cell_answer
cell_sound address s =
    by (ltb (length s) 10) (ltb 4096 (size_in s)) (ltb (length s) (10 + size_in s)) (byte_order (own_address (cell_in s)) address) refl refl refl refl
  where
    by : (short long cut : Bool) (o : Ordering) → ltb (length s) 10 ≡ short → ltb 4096 (size_in s) ≡ long → ltb (length s) (10 + size_in s) ≡ cut → byte_order (own_address (cell_in s)) address ≡ o
        → cond short (Err ShelfEnds) (cond long (Err TooLong) (cond cut (Err ShelfEnds) (matching o))) ≡ Ok tt
        → Whole address s
    by true long cut o a x y b e = cc
    by false true cut o a x y b e = cc
    by false false true o a x y b e = cc
    by false false false Ordered.Less a x y b e = cc
    by false false false Ordered.Equal a x y b e = (ltb-false _ _ a, same_equal _ _ b, ltb-false _ _ x, ltb-false _ _ y)
    by false false false Ordered.Greater a x y b e = cc

-- ---- what is handed back

module _ (s address anchor : List ℕ) where
  abbrev found : CellRead
  found = record { size = 10 + size_in s; pair = pair_read anchor (cell_in s) }

  -- what is answered of the cell is what is read of it
  pub read_found : cell_answer address s ≡ Ok tt → cell_read s address anchor ≡ Ok found
  unfolding cell_read
  read_found h = rw h

  pub read_refused : (error : CellError) → cell_answer address s ≡ Err error → cell_read s address anchor ≡ Err error
  unfolding cell_read
  read_refused error h = rw h

  -- and the other way round
  pub read_wrong : (error : CellError) → cell_read s address anchor ≡ Err error → cell_answer address s ≡ Err error
  unfolding cell_read
  read_wrong error = by (cell_answer address s)
    where
      by : (a : Result (Unit {0}) CellError) → result_and a (Ok found) ≡ Err error → a ≡ Err error
      by (Ok value) e = cc
      by (Err other) e = cc

  pub read_sound : (read : CellRead) → cell_read s address anchor ≡ Ok read
      → (cell_answer address s ≡ Ok tt) × ((read.size ≡ 10 + size_in s) × (read.pair ≡ pair_read anchor (cell_in s)))
  unfolding cell_read
  read_sound read = by (cell_answer address s)
    where
      by : (a : Result (Unit {0}) CellError) → result_and a (Ok found) ≡ Ok read → (a ≡ Ok tt) × ((read.size ≡ 10 + size_in s) × (read.pair ≡ pair_read anchor (cell_in s)))
      by (Ok value) e = let same : found ≡ read = cc in (refl, (sym (ap (λ (r : CellRead). r.size) same), sym (ap (λ (r : CellRead). r.pair) same)))
      by (Err other) e = cc

-- ---- what is read

pub size_read : (s : List ℕ) (n : ℕ) → 10 ≤ length s → n ≡ big_at 2 s 8 → n ≡ size_in s
size_read s n h e = e ∙ big_at_fits 2 s 8 h

-- the parts of the cell, where it is so long
module _ (s : List ℕ) (size : ℕ) (measured : size ≡ 10 + size_in s) where
  parts : {A : Type 0} (f : List ℕ → List ℕ → A) → f (take 8 s) (take (size - 10) (drop 10 s)) ≡ f (cell_in s).span (cell_in s).content
  unfolding cell_in
  parts f = let width : size - 10 ≡ size_in s = omega arith in ap (λ (k : ℕ). f (take 8 s) (take k (drop 10 s))) width

  span_length : size ≤ length s → length (take 8 s) ≡ 8
  span_length fits = length-take-le 8 s (omega arith)

  content_length : size_in s ≤ 4096 → length (take (size - 10) (drop 10 s)) ≤ 4096
  content_length short = omega (arith, length-take (size - 10) (drop 10 s))

  pub own_read : size ≤ length s → size_in s ≤ 4096 → addressed [] (take 8 s) (take (size - 10) (drop 10 s)) ≡ Ok (own_address (cell_in s))
  unfolding own_address
  own_read fits short =
      let own : List ℕ → List ℕ → Result (List ℕ) AddressError = λ x y. Ok (address_of [] x y) in
      addressed_done [] (take 8 s) (take (size - 10) (drop 10 s)) (span_length fits) (content_length short) ∙ parts own

-- past the lengths the two addresses decide
pub cell_told : (recorded s : List ℕ) (r : Result (List ℕ) AddressError) (own : List ℕ) → 10 + size_in s ≤ length s → size_in s ≤ 4096
    → r ≡ Ok (own_address (cell_in s)) → r ≡ Ok own
    → cond (pointwise eqb own recorded) (Ok tt) (Err Mismatch) ≡ cell_answer recorded s
unfolding cell_answer
cell_told recorded s r own fits short e f =
    let same : own ≡ own_address (cell_in s) = cc in
    rw (le-ltb (length s) 10 (omega arith), le-ltb 4096 (size_in s) short, le-ltb (length s) (10 + size_in s) fits, same) (sym (compared (own_address (cell_in s)) recorded))

-- ---- the pair

-- two halves put into 64 bytes
halves_put : (z d a : List ℕ) → length z ≡ 64 → length d ≡ 32 → length a ≡ 32 → placed (placed z 0 d) 32 a ≡ d ++ a
unfolding over
halves_put z d a hz hd ha =
    let once : placed z 0 d ≡ d ++ drop (0 + length d) z = placed_fits z 0 d (omega arith) in
    let t = d ++ drop (0 + length d) z in
    let lt : length t ≡ 64 = sym (ap length once) ∙ ap length (placed_fits z 0 d (omega arith)) ∙ length_over z 0 d (omega arith) ∙ hz in
    let none : drop (32 + length a) t ≡ [] = drop_of_length-le t {i = 32 + length a} (omega arith) in
    ap (λ (x : List ℕ). placed x 32 a) once
    ∙ placed_fits t 32 a (omega arith)
    ∙ ap₂ (λ (x y : List ℕ). x ++ a ++ y) (take_at d (drop (0 + length d) z) 32 hd) none
    ∙ append-nil (d ++ a)

unwrapped : (r : Result (List ℕ) AddressError) → result_unwrap_or r (replicate 32 0) ≡ digest_or_zeros r
unwrapped (Ok digest) = refl
unwrapped (Err error) = refl

pub pair_put : (anchor s : List ℕ) (size : ℕ) (z d recorded once twice : List ℕ) → size ≡ 10 + size_in s → length z ≡ 64 → length d ≡ 32
    → d ≡ result_unwrap_or (anchored_addressed anchor (take 8 s) (take (size - 10) (drop 10 s))) (replicate 32 0)
    → own_address (cell_in s) ≡ recorded → once ≡ placed z 0 d → twice ≡ placed once 32 recorded → twice ≡ pair_read anchor (cell_in s)
unfolding pair_read
pair_put anchor s size z d recorded once twice hs hz hd ed er e f =
    let hr : length recorded ≡ 32 = sym (ap length er) ∙ own_length (cell_in s) in
    let digest = ed ∙ unwrapped (anchored_addressed anchor (take 8 s) (take (size - 10) (drop 10 s))) ∙ ap digest_or_zeros (parts s size hs (anchored_addressed anchor)) in
    f ∙ ap (λ (t : List ℕ). placed t 32 recorded) e ∙ halves_put z d recorded hz hd hr ∙ ap₂ (λ (x y : List ℕ). x ++ y) digest (sym er)

anchored_done : (anchor s : List ℕ) → length anchor ≡ 32 → 10 + size_in s ≤ length s → size_in s ≤ 4096
    → anchored_addressed anchor (cell_in s).span (cell_in s).content ≡ Ok (address_of anchor (cell_in s).span (cell_in s).content)
anchored_done anchor s h k j =
    let size = 10 + size_in s in
    let own : List ℕ → List ℕ → Result (List ℕ) AddressError = λ x y. Ok (address_of anchor x y) in
    sym (parts s size refl (anchored_addressed anchor))
    ∙ anchored_addressed_done anchor (take 8 s) (take (size - 10) (drop 10 s)) h (span_length s size refl k) (content_length s size refl j)
    ∙ parts s size refl own

-- under an anchor of 32 bytes the pair that is read is the cell's
pub pair_read_lem : (anchor address s : List ℕ) → length anchor ≡ 32 → Whole address s → pair_read anchor (cell_in s) ≡ pair_of anchor (cell_in s)
unfolding pair_read pair_of
pair_read_lem anchor address s h w = ap (λ (r : Result (List ℕ) AddressError). digest_or_zeros r ++ own_address (cell_in s)) (anchored_done anchor s h w.3 w.2)

pub ruleset reads = (size_read, own_read, compared)

pub ruleset wholes = (cell_sound, size_read)
