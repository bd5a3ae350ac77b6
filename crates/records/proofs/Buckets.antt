-- A record's nearness by the last two bytes of its bucket.
use mathlib.Core.Path.{◌≡◌, sym, ap, ◌∙◌}
use mathlib.Core.List.{List, ◌++◌}
use Prim.Native.Nat.{ℕ, ◌+◌, ◌*◌, ◌/◌, ◌%◌, ◌^◌, ◌<◌}
use native.Mathlib.Omega.{arith}
use lib.ListN.{length, take, drop}
use lib.Seq.{take-add, length-take-le}
use lib.Bits.{bit_xor}
use lib.Count.{count_leading_zeros}
use Rattle.octets.specs.Bytes.{Bytes}
use Rattle.octets.specs.Number.{big, big_at, bytes_of}
use Rattle.octets.proofs.Bytes.{bytes_take, bytes_drop}
use Rattle.octets.proofs.Numbers.{big_append, big_lt, bytes_of_big, big_at_fits}
use Rattle.octets.proofs.Parts.{part_length}
use Rattle.nearness.proofs.Words.{shared_zeros}
use Rattle.records.specs.Record.{slot, near_of}

-- the slot's last six bytes are the bucket's last two and the index
slot_ends : (r : List ℕ) → length r ≡ 145 → slot r ≡ (big (take 34 r) * 2 ^ 16 + big (take 2 (drop 34 r))) * 2 ^ 32 + big (take 4 (drop 36 r))
slot_ends r h =
    let two : length (take 2 (drop 34 r)) ≡ 2 = part_length r 34 2 (omega arith) in
    let last : length (take 4 (drop 36 r)) ≡ 4 = part_length r 36 4 (omega arith) in
    let outer : take 40 r ≡ take 36 r ++ take 4 (drop 36 r) = take-add 36 4 r in
    let inner : take 36 r ≡ take 34 r ++ take 2 (drop 34 r) = take-add 34 2 r in
    rw (outer, big_append (take 36 r) (take 4 (drop 36 r)), last, inner, big_append (take 34 r) (take 2 (drop 34 r)), two)

last_two : (p b : ℕ) → bytes_of 2 (p * 2 ^ 16 + b) ≡ bytes_of 2 b
unfolding bytes_of
last_two p b =
    let low : (p * 2 ^ 16 + b) % 256 ≡ b % 256 = omega arith in
    let next : (p * 2 ^ 16 + b) / 256 ≡ p * 2 ^ 8 + b / 256 = omega arith in
    let high : (p * 2 ^ 8 + b / 256) % 256 ≡ b / 256 % 256 = omega arith in
    rw (low, next, high)

pub bucket_bytes : (r : List ℕ) → length r ≡ 145 → Bytes r → bytes_of 2 (slot r / 2 ^ 32) ≡ take 2 (drop 34 r)
bucket_bytes r h f =
    let v = take 2 (drop 34 r) in
    let two : length v ≡ 2 = part_length r 34 2 (omega arith) in
    let four : length (take 4 (drop 36 r)) ≡ 4 = part_length r 36 4 (omega arith) in
    let small : big (take 4 (drop 36 r)) < 256 ^ 4 = rw four at (big_lt (take 4 (drop 36 r)) (bytes_take 4 (drop 36 r) (bytes_drop 36 r f))) in
    let above : slot r / 2 ^ 32 ≡ big (take 34 r) * 2 ^ 16 + big v = omega (arith, slot_ends r h) in
    let whole : bytes_of 2 (big v) ≡ v = rw two at (bytes_of_big v (bytes_take 2 (drop 34 r) (bytes_drop 34 r f))) in
    rw (above, last_two (big (take 34 r)) (big v)) whole

-- by two words: the bucket's and the overlay's first
pub near_words : (o r : List ℕ) (x y : ℕ) → length o ≡ 32 → length r ≡ 145 → Bytes o → Bytes r → x ≡ big_at 2 r 34 → y ≡ big_at 2 o 0 → count_leading_zeros 16 (bit_xor x y) ≡ near_of o (slot r)
unfolding near_of
near_words o r x y ho hr bo br ex ey =
    let v = take 2 (drop 34 r) in
    let two : length v ≡ 2 = part_length r 34 2 (omega arith) in
    let one : length (take 2 o) ≡ 2 = length-take-le 2 o (omega arith) in
    rw (ex, ey, big_at_fits 2 r 34 (omega arith), big_at_fits 2 o 0 (omega arith), bucket_bytes r hr br)
    (sym (shared_zeros v (take 2 o) (bytes_take 2 (drop 34 r) (bytes_drop 34 r br)) (bytes_take 2 o bo) (two ∙ sym one) ∙ ap (λ (n : ℕ). count_leading_zeros (8 * n) (bit_xor (big v) (big (take 2 o)))) two))
