-- A book's bytes as 48 of header, the records and zeros; where the header's parts stand and how they are written.
use mathlib.Core.Path.{◌≡◌, refl, sym, ap, ◌∙◌}
use mathlib.Core.List.{List, [], ◌∷◌, ◌++◌, append_assoc}
use Prim.Native.Nat.{ℕ, ◌+◌, ◌-◌, ◌*◌, ◌^◌, ◌<◌}
use native.Mathlib.Omega.{arith}
use lib.ListN.{length, drop, set, replicate, length-append}
use lib.Seq.{take_at, drop_at, drop-append-add, drop-append_seam}
use Rattle.octets.specs.Number.{bytes_of}
use Rattle.moving.specs.Moving.{over}
use Rattle.octets.proofs.Numbers.{length_bytes_of, big_bytes_of}
use Rattle.settling.specs.Book.{overfull, good}
use Rattle.book.specs.Layout.{mark, overlay_in, capacity_in, count_in, laid}
use Rattle.book.specs.Book.{Book, in_state, write}

unfoldable pub header : ℕ → ℕ → ℕ → List ℕ → ℕ → ℕ → List ℕ
header flag starting depth overlay capacity count =
    mark ++ (0 ∷ 1 ∷ flag ∷ starting ∷ depth ∷ (overlay
    ++ (bytes_of 4 capacity
    ++ bytes_of 4 count)))

-- the first 8 bytes
front : ℕ → ℕ → ℕ → List ℕ
front flag starting depth = mark ++ (0 ∷ 1 ∷ flag ∷ starting ∷ depth ∷ [])

-- a stretch written over another of its length
pub over_middle : (p v w z : List ℕ) (n : ℕ) → length p ≡ n → length v ≡ length w → over (p ++ (v ++ z)) n w ≡ p ++ (w ++ z)
unfolding over
over_middle p v w z n e f =
    let g : n + length w ≡ length p + length v = omega arith in
    rw (take_at p (v ++ z) n e, g, drop-append-add p (v ++ z) (length v), drop-append_seam v z) (append_assoc p w z)

length_upto : (flag starting depth : ℕ) (overlay : List ℕ) (capacity : ℕ) → length overlay ≡ 32 → length (front flag starting depth ++ (overlay ++ bytes_of 4 capacity)) ≡ 44
unfolding front
length_upto flag starting depth overlay capacity o = simp length-append (omega (arith, length_bytes_of 4 capacity))

module _ (flag starting depth : ℕ) (overlay : List ℕ) (capacity count : ℕ) (z : List ℕ) where
  -- as it stands before what follows
  header_open : header flag starting depth overlay capacity count ++ z ≡ front flag starting depth ++ (overlay ++ (bytes_of 4 capacity ++ (bytes_of 4 count ++ z)))
  unfolding header front
  header_open =
      ap (λ (s : List ℕ). mark ++ (0 ∷ 1 ∷ flag ∷ starting ∷ depth ∷ s))
      (append_assoc overlay (bytes_of 4 capacity ++ bytes_of 4 count) z
      ∙ ap (λ (s : List ℕ). overlay ++ s) (append_assoc (bytes_of 4 capacity) (bytes_of 4 count) z))

  -- and what stands before the count
  upto_count : header flag starting depth overlay capacity count ++ z ≡ (front flag starting depth ++ (overlay ++ bytes_of 4 capacity)) ++ (bytes_of 4 count ++ z)
  upto_count = header_open ∙ simp append_assoc

  pub set_flag : (x : ℕ) → set (header flag starting depth overlay capacity count ++ z) 5 x ≡ header x starting depth overlay capacity count ++ z
  unfolding header
  set_flag x = refl

  pub set_depth : (x : ℕ) → set (header flag starting depth overlay capacity count ++ z) 7 x ≡ header flag starting x overlay capacity count ++ z
  unfolding header
  set_depth x = refl

  module _ (o : length overlay ≡ 32) where
    pub length_header : length (header flag starting depth overlay capacity count) ≡ 48
    unfolding header
    length_header = simp length-append (omega (arith, length_bytes_of 4 capacity, length_bytes_of 4 count))

    pub overlay_there : overlay_in (header flag starting depth overlay capacity count ++ z) ≡ overlay
    unfolding front
    overlay_there = rw header_open (take_at overlay (bytes_of 4 capacity ++ (bytes_of 4 count ++ z)) 32 o)

    -- the overlay, and the bytes from there on
    behind : (n : ℕ) → drop (40 + n) (header flag starting depth overlay capacity count ++ z) ≡ drop n (bytes_of 4 capacity ++ (bytes_of 4 count ++ z))
    unfolding front
    behind n =
        let e : length (front flag starting depth ++ overlay) + n ≡ 40 + n = simp length-append (omega arith) in
        rw (header_open, ← append_assoc (front flag starting depth) overlay (bytes_of 4 capacity ++ (bytes_of 4 count ++ z)), ← e)
        (drop-append-add (front flag starting depth ++ overlay) (bytes_of 4 capacity ++ (bytes_of 4 count ++ z)) n)

    pub capacity_there : capacity < 2 ^ 32 → capacity_in (header flag starting depth overlay capacity count ++ z) ≡ capacity
    capacity_there h = rw (behind 0, take_at (bytes_of 4 capacity) (bytes_of 4 count ++ z) 4 (length_bytes_of 4 capacity)) (big_bytes_of 4 capacity h)

    pub count_there : count < 2 ^ 32 → count_in (header flag starting depth overlay capacity count ++ z) ≡ count
    count_there h =
        rw (behind 4, drop_at (bytes_of 4 capacity) (bytes_of 4 count ++ z) 4 (length_bytes_of 4 capacity), take_at (bytes_of 4 count) z 4 (length_bytes_of 4 count)) (big_bytes_of 4 count h)

pub over_count : (flag starting depth : ℕ) (overlay : List ℕ) (capacity count : ℕ) (z : List ℕ) → length overlay ≡ 32 → (n : ℕ)
    → over (header flag starting depth overlay capacity count ++ z) 44 (bytes_of 4 n) ≡ header flag starting depth overlay capacity n ++ z
over_count flag starting depth overlay capacity count z o n =
    let p = front flag starting depth ++ (overlay ++ bytes_of 4 capacity) in
    rw (upto_count flag starting depth overlay capacity count z, upto_count flag starting depth overlay capacity n z)
    (over_middle p (bytes_of 4 count) (bytes_of 4 n) z 44 (length_upto flag starting depth overlay capacity o) (length_bytes_of 4 count ∙ sym (length_bytes_of 4 n)))

-- the bytes of a book in a state
module _ (b : Book) where
  abbrev pub head : ℕ → ℕ → List ℕ
  head d n = header 0 b.starting d b.overlay b.capacity n

  abbrev pub zeros : ℕ → List ℕ
  zeros n = replicate (145 * (b.capacity - n)) 0

  pub write_good : (d : ℕ) (l : List (List ℕ)) → write (in_state b (good d l)) ≡ head d (length l) ++ (laid l ++ zeros (length l))
  unfolding write front
  write_good d l = sym (header_open 0 b.starting d b.overlay b.capacity (length l) (laid l ++ zeros (length l)))

  pub write_overfull : write (in_state b overfull) ≡ header 1 b.starting 16 b.overlay b.capacity 0 ++ zeros 0
  unfolding write laid front
  write_overfull = sym (header_open 1 b.starting 16 b.overlay b.capacity 0 (zeros 0))
