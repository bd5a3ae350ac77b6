-- What stands where in the bytes that a lawful value writes.
use mathlib.Core.Path.{◌≡◌, refl, ap, ◌∙◌}
use mathlib.Core.List.{List, [], ◌++◌, append_assoc}
use Prim.Native.Nat.{ℕ, ◌+◌, ◌-◌, ◌*◌, ◌<◌}
use native.Mathlib.Omega.{arith}
use lib.ListN.{length, drop, replicate, length-append, length-replicate}
use lib.Seq.{drop_at, drop-append-add}
use Rattle.octets.specs.Bytes.{Bytes}
use Rattle.octets.specs.Number.{bytes_of}
use Rattle.octets.specs.Pieces.{pieces}
use Rattle.octets.proofs.Bytes.{bytes_append, bytes_zeros}
use Rattle.octets.proofs.Numbers.{bytes_bytes_of}
use Rattle.settling.specs.Book.{State, overfull, good}
use Rattle.settling.specs.Meaning.{Each}
use Rattle.settling.proofs.Inside.{each_map}
use Rattle.records.specs.Record.{Fitting}
use Rattle.book.specs.Layout.{state_in, starting_in, depth_in, overlay_in, capacity_in, count_in, records_in, laid}
use Rattle.book.specs.Book.{Book, flag_of, depth_of, held_by, write}
use Rattle.book.specs.Lawful.{Lawful}
use Rattle.book.proofs.Laid.{Sized, length_laid, bytes_laid, pieces_laid}
use Rattle.book.proofs.Headed.{header, length_header, overlay_there, capacity_there, count_there}

module _ (b : Book) where
  abbrev held : List (List ℕ)
  held = held_by b.state

  abbrev head : List ℕ
  head = header (flag_of b.state) b.starting (depth_of b.state) b.overlay b.capacity (length held)

  abbrev left : List ℕ
  left = replicate (145 * (b.capacity - length held)) 0

  pub write_parts : write b ≡ head ++ (laid held ++ left)
  unfolding write header
  write_parts =
      rw (append_assoc b.overlay (bytes_of 4 b.capacity ++ bytes_of 4 (length held)) (laid held ++ left), append_assoc (bytes_of 4 b.capacity) (bytes_of 4 (length held)) (laid held ++ left))

  pub flag_written : state_in (write b) ≡ flag_of b.state
  unfolding write
  flag_written = refl

  pub starting_written : starting_in (write b) ≡ b.starting
  unfolding write
  starting_written = refl

  pub depth_written : depth_in (write b) ≡ depth_of b.state
  unfolding write
  depth_written = refl

  module _ (w : Lawful b) where
    sized : Each Sized held
    sized = each_map Fitting Sized (λ r f. f.size) held w.fitting

    long : length head ≡ 48
    long = length_header (flag_of b.state) b.starting (depth_of b.state) b.overlay b.capacity (length held) [] w.size

    pub overlay_written : overlay_in (write b) ≡ b.overlay
    overlay_written = ap overlay_in write_parts ∙ overlay_there (flag_of b.state) b.starting (depth_of b.state) b.overlay b.capacity (length held) (laid held ++ left) w.size

    pub capacity_written : capacity_in (write b) ≡ b.capacity
    capacity_written =
        ap capacity_in write_parts
        ∙ capacity_there (flag_of b.state) b.starting (depth_of b.state) b.overlay b.capacity (length held) (laid held ++ left) w.size (omega (arith, w.most))

    pub count_written : count_in (write b) ≡ length held
    count_written =
        ap count_in write_parts
        ∙ count_there (flag_of b.state) b.starting (depth_of b.state) b.overlay b.capacity (length held) (laid held ++ left) w.size (omega (arith, w.most, w.count))

    behind_written : drop 48 (write b) ≡ laid held ++ left
    behind_written = ap (drop 48) write_parts ∙ drop_at head (laid held ++ left) 48 long

    pub records_written : records_in (write b) ≡ held
    records_written = (λ k. pieces 145 (count_written k) (behind_written k)) ∙ pieces_laid held left sized

    pub tail_written : drop (48 + 145 * length held) (write b) ≡ left
    tail_written =
        let e : 48 + 145 * length held ≡ length head + 145 * length held = omega (arith, long) in
        rw (write_parts, e) (drop-append-add head (laid held ++ left) (145 * length held) ∙ drop_at (laid held) left (145 * length held) (length_laid held sized))

    pub length_written : length (write b) ≡ 48 + 145 * b.capacity
    length_written = rw write_parts (simp (length-append, length-replicate) (omega (arith, long, length_laid held sized, w.count)))

    pub bytes_written : Bytes (write b)
    unfolding write
    bytes_written =
        let records : Bytes (laid held ++ left) = bytes_append (laid held) left (bytes_laid held (each_map Fitting Bytes (λ r f. f.bytes) held w.fitting)) (bytes_zeros (145 * (b.capacity - length held))) in
        let numbers : Bytes (bytes_of 4 b.capacity ++ (bytes_of 4 (length held) ++ (laid held ++ left))) =
        bytes_append (bytes_of 4 b.capacity) _ (bytes_bytes_of 4 b.capacity) (bytes_append (bytes_of 4 (length held)) _ (bytes_bytes_of 4 (length held)) records) in
        let flag : flag_of b.state < 256 = small b.state in
        let depth : depth_of b.state < 256 = omega (arith, w.depth) in
        let starting : b.starting < 256 = omega (arith, w.depth, w.started) in
        (omega arith, (omega arith, (omega arith, (omega arith, (omega arith, (flag, (starting, (depth, bytes_append b.overlay _ w.bytes numbers))))))))
      where
        small : (c : State (List ℕ)) → flag_of c < 256
        small overfull = omega arith
        small (good d l) = omega arith
