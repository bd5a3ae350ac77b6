-- The records of a list, one by one and by their place.
use mathlib.Core.Path.{◌≡◌, sym, ap, ◌∙◌}
use mathlib.Core.List.{List, [], ◌∷◌}
use Prim.Native.Nat.{ℕ, zero, suc, ◌*◌, ◌<◌}
use native.Mathlib.Nat.{mul_comm}
use native.Mathlib.Omega.{arith}
use lib.ListN.{length, get_or, take, drop}
use Rattle.std.specs.Simd.{first_chunks}
use Rattle.octets.specs.Pieces.{pieces}
use Rattle.octets.proofs.Parts.{part_length}
use Rattle.octets.proofs.Pieces.{pieces_none, pieces_more, length_pieces, piece_at}
use Rattle.batches.specs.Batch.{record_length, record_from, count, batch_at, records}

pub length_records : (s : List ℕ) → length (records s) ≡ count s
unfolding records
length_records s = length_pieces record_length (count s) s

pub records_at : (s : List ℕ) (i : ℕ) → i < count s → get_or (records s) i [] ≡ batch_at s i
unfolding records batch_at
records_at s i h = piece_at record_length (count s) s i h ∙ ap (record_from s) (mul_comm record_length i)

-- std's chunks of a list are its records
pub chunks_are_records : (s : List ℕ) → first_chunks record_length (count s) s ≡ records s
unfolding records
chunks_are_records s = go (count s) s
  where
    go : (n : ℕ) (s : List ℕ) → first_chunks record_length n s ≡ pieces record_length n s
    go zero s = sym (pieces_none record_length s)
    go (suc n) s = ap (λ (l : List (List ℕ)). take record_length s ∷ l) (go n (drop record_length s)) ∙ sym (pieces_more record_length n s)

pub length_batch_at : (s : List ℕ) (i : ℕ) → i < count s → length (batch_at s i) ≡ record_length
unfolding batch_at
length_batch_at s i h = part_length s (i * record_length) record_length (omega arith)
