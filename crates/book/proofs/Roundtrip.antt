-- Well-formed bytes and lawful values stand for each other.
use mathlib.Core.Path.{◌≡◌, refl, sym, ap, ◌∙◌}
use mathlib.Core.Bool.{cond}
use mathlib.Core.List.{List, [], ◌∷◌, ◌++◌}
use Prim.Native.Nat.{ℕ, ◌+◌, ◌-◌, ◌*◌, ◌≤◌}
use native.Mathlib.Decide.{dec_le}
use native.Mathlib.Omega.{arith}
use lib.Dec.{eqb}
use lib.ListN.{length, take, drop, replicate, take-append-drop}
use lib.Seq.{take-add, drop-drop, drop-cons}
use borrow.Author.Tests.{eq-eqb, ne_eqb}
use Rattle.octets.specs.Bytes.{Bytes}
use Rattle.octets.specs.Number.{big, bytes_of}
use Rattle.octets.specs.Pieces.{pieces}
use Rattle.octets.proofs.Bytes.{bytes_take, bytes_drop}
use Rattle.octets.proofs.Numbers.{bytes_of_big}
use Rattle.octets.proofs.Parts.{part_length}
use Rattle.octets.proofs.Pieces.{pieces_none}
use Rattle.settling.specs.Book.{State, overfull, good}
use Rattle.book.specs.Layout.{state_in, starting_in, depth_in, overlay_in, capacity_in, count_in, records_in, laid, WellFormed}
use Rattle.book.specs.Book.{Book, flag_of, depth_of, held_by, read, write}
use Rattle.book.specs.Lawful.{Lawful, WriteRead, ReadWrite, ReadLawful, WriteWellFormed, CountRecords}
use Rattle.book.proofs.Laid.{laid_pieces}
use Rattle.book.proofs.Cuts.{counted}
use Rattle.book.proofs.Headed.{header}
use Rattle.book.proofs.Written

-- what the state that is read says of the header

record Stated (s : List ℕ) : Type 0 where
  flag : flag_of (read s).state ≡ state_in s
  depth : depth_of (read s).state ≡ depth_in s
  held : held_by (read s).state ≡ records_in s

pub read_good : (s : List ℕ) → state_in s ≡ 0 → (read s).state ≡ good (depth_in s) (records_in s)
unfolding read
read_good s e = rw (ne_eqb (state_in s) 1 (λ h. omega arith))

read_overfull : (s : List ℕ) → state_in s ≡ 1 → (read s).state ≡ overfull
unfolding read
read_overfull s e = rw (eq-eqb (state_in s) 1 e)

stated : (s : List ℕ) → WellFormed s → Stated s
stated s w = go (dec_le (state_in s) 0)
  where
    go : Dec (state_in s ≤ 0) → Stated s
    go (yes h) =
        let e : state_in s ≡ 0 = omega arith in
        let r = read_good s e in
        record { flag = ap flag_of r ∙ sym e; depth = ap depth_of r; held = ap held_by r }
    go (no h) =
        let e : state_in s ≡ 1 = omega (arith, w.state) in
        let r = read_overfull s e in
        let b = w.burst e in
        record { flag = ap flag_of r ∙ sym e; depth = ap depth_of r ∙ sym b.0; held = ap held_by r ∙ sym (ap (λ (n : ℕ). pieces 145 n (drop 48 s)) b.1 ∙ pieces_none 145 (drop 48 s)) }

pub count_records : CountRecords
count_records s w = sym (counted s) ∙ ap length (sym (stated s w).held)

-- the header, from its numbers

module _ (s : List ℕ) (b : Bytes s) (w : WellFormed s) where
  long : 48 ≤ length s
  long = omega (arith, w.size)

  number : (width at : ℕ) → at + width ≤ 48 → bytes_of width (big (take width (drop at s))) ≡ take width (drop at s)
  number width at h =
      let e : length (take width (drop at s)) ≡ width = part_length s at width (omega (arith, long)) in
      ap (λ (n : ℕ). bytes_of n (big (take width (drop at s)))) (sym e) ∙ bytes_of_big (take width (drop at s)) (bytes_take width (drop at s) (bytes_drop at s b))

  version : take 2 (drop 3 s) ≡ 0 ∷ 1 ∷ []
  unfolding bytes_of
  version = sym (number 2 3 (omega arith)) ∙ ap (bytes_of 2) w.version

  three : take 3 (drop 5 s) ≡ state_in s ∷ starting_in s ∷ depth_in s ∷ []
  three = rw (drop-cons s 5 0 (omega (arith, long)), drop-cons s 6 0 (omega (arith, long)), drop-cons s 7 0 (omega (arith, long)))

  header_read : header (state_in s) (starting_in s) (depth_in s) (overlay_in s) (capacity_in s) (count_in s) ≡ take 48 s
  unfolding header
  header_read =
      rw (number 4 40 (omega arith), number 4 44 (omega arith), take-add 3 45 s, w.marked, take-add 2 43 (drop 3 s), version, drop-drop 2 3 s, take-add 3 40 (drop 5 s), three, drop-drop 3 5 s, take-add 32 8 (drop 8 s), drop-drop 32 8 s, take-add 4 4 (drop 40 s), drop-drop 4 40 s)

  records_read : laid (records_in s) ++ replicate (145 * (capacity_in s - count_in s)) 0 ≡ drop 48 s
  records_read = rw (laid_pieces (count_in s) (drop 48 s), ← w.cleared, ← drop-drop (145 * count_in s) 48 s) (take-append-drop (145 * count_in s) (drop 48 s))

-- the bytes of a value, by what its state says
abbrev bytes_by : (flag starting depth : ℕ) → List ℕ → ℕ → List (List ℕ) → List ℕ
bytes_by flag starting depth overlay capacity l = header flag starting depth overlay capacity (length l) ++ (laid l ++ replicate (145 * (capacity - length l)) 0)

pub write_read : WriteRead
unfolding read
write_read s b w =
    let t = stated s w in
    Written.write_parts (read s)
    ∙ (λ k. bytes_by (t.flag k) (starting_in s) (t.depth k) (overlay_in s) (capacity_in s) (t.held k))
    ∙ rw (counted s, header_read s b w, records_read s b w) (take-append-drop 48 s)

pub read_lawful : ReadLawful
unfolding read
read_lawful s b w =
    let t = stated s w in
    record {
      size = part_length s 8 32 (omega (arith, long s b w));
      bytes = bytes_take 32 (drop 8 s) (bytes_drop 8 s b);
      least = w.least;
      most = w.most;
      count = rw (t.held, counted s) w.count;
      started = rw t.depth w.started;
      depth = rw t.depth w.depth;
      rising = rw t.held w.rising;
      fitting = rw t.held w.fitting;
      near = rw (t.held, t.depth) w.near;
    }

-- the state that is written is the state that is read
state_written : (b : Book) → Lawful b → (read (write b)).state ≡ b.state
unfolding read
state_written b w = (λ k. cond (eqb (Written.flag_written b k) 1) overfull (good (Written.depth_written b k) (Written.records_written b w k))) ∙ back b.state
  where
    back : (c : State (List ℕ)) → cond (eqb (flag_of c) 1) overfull (good (depth_of c) (held_by c)) ≡ c
    back overfull = refl
    back (good d l) = refl

pub read_write : ReadWrite
unfolding read
read_write b w =
    λ k. record { starting = Written.starting_written b k; overlay = Written.overlay_written b w k; capacity = Written.capacity_written b w k; state = state_written b w k }

pub write_well_formed : WriteWellFormed
unfolding write big
write_well_formed b w =
    let flag = Written.flag_written b in
    let depth = Written.depth_written b in
    let overlay = Written.overlay_written b w in
    let capacity = Written.capacity_written b w in
    let count = Written.count_written b w in
    let records = Written.records_written b w in (
      record {
        marked = refl;
        version = refl;
        state = rw flag (flagged b.state);
        size = rw capacity (Written.length_written b w);
        least = rw capacity w.least;
        most = rw capacity w.most;
        count = rw (count, capacity) w.count;
        started = rw (Written.starting_written b, depth) w.started;
        depth = rw depth w.depth;
        burst = λ e. let p = burst b.state (sym flag ∙ e) in (depth ∙ p.0, count ∙ ap length p.1);
        rising = rw records w.rising;
        fitting = rw records w.fitting;
        near = rw (records, depth, overlay) w.near;
        cleared = rw (count, capacity) (Written.tail_written b w);
      },
      Written.bytes_written b w,
    )
  where
    flagged : (c : State (List ℕ)) → flag_of c ≤ 1
    flagged overfull = omega arith
    flagged (good d l) = omega arith

    burst : (c : State (List ℕ)) → flag_of c ≡ 1 → (depth_of c ≡ 16) × (held_by c ≡ [])
    burst overfull e = (refl, refl)
    burst (good d l) e = absurd (omega arith)
