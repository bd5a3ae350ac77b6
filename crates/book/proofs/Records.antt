-- One record of a book: its bytes, where the header counts it and where not.
use mathlib.Core.Path.{◌≡◌, sym, ap, ◌∙◌, subst}
use mathlib.Core.List.{List, []}
use Prim.Native.Nat.{ℕ, ◌+◌, ◌*◌, ◌^◌, ◌≤◌, ◌<◌}
use native.Mathlib.Decide.{dec_le}
use native.Mathlib.Omega.{arith}
use lib.ListN.{length, take, drop, drop_of_length-le, get_or-eq_default}
use lib.Seq.{take-nil}
use Rattle.octets.specs.Bytes.{Bytes}
use Rattle.octets.specs.Number.{big, big_at}
use Rattle.octets.proofs.Bytes.{bytes_take, bytes_drop}
use Rattle.octets.proofs.Numbers.{big_lt, big_at_not}
use Rattle.octets.proofs.Parts.{part_length}
use Rattle.book.specs.Layout.{count_in, records_in, record_in}
use Rattle.book.proofs.Cuts.{counted, record_there}
use Rattle.book.proofs.Fields.{count_there}

module _ (s : List ℕ) (i : ℕ) where
  pub record_bytes : i < count_in s → record_in s i ≡ take 145 (drop (48 + 145 * i) s)
  unfolding record_in
  record_bytes h = sym (record_there s (count_in s) i h)

  pub record_length_lem : i < count_in s → 48 + 145 * (i + 1) ≤ length s → length (record_in s i) ≡ 145
  record_length_lem h k = ap length (record_bytes h) ∙ part_length s (48 + 145 * i) 145 (omega arith)

  pub no_record : count_in s ≤ i → record_in s i ≡ []
  unfolding record_in
  no_record h = get_or-eq_default (records_in s) [] (omega (arith, counted s))

  -- a book shorter than its header has no bytes of a record, whatever count is read from what is left of it
  short_record : length s < 48 → record_in s i ≡ []
  short_record h = by (dec_le (count_in s) i)
    where
      by : Dec (count_in s ≤ i) → record_in s i ≡ []
      by (yes k) = no_record k
      by (no f) = record_bytes (omega (arith, f)) ∙ rw (drop_of_length-le s {i = 48 + 145 * i} (omega arith), take-nil {A = ℕ} 145)

  -- by the count that the code reads, which is 0 where the header is not whole

  headed : i < big_at 4 s 44 → 48 ≤ length s
  headed h = by (dec_le 48 (length s))
    where
      by : Dec (48 ≤ length s) → 48 ≤ length s
      by (yes k) = k
      by (no f) = absurd (omega (arith, h, big_at_not 4 s 44 (omega (arith, f))))

  pub among : i < big_at 4 s 44 → i < count_in s
  among h = omega (arith, h, count_there s (headed h))

  pub behind : big_at 4 s 44 ≤ i → record_in s i ≡ []
  behind h = by (dec_le 48 (length s))
    where
      by : Dec (48 ≤ length s) → record_in s i ≡ []
      by (yes k) = no_record (omega (arith, h, count_there s k))
      by (no f) = short_record (omega (arith, f))

  -- so that its place is far below what 64 bits hold
  pub among_few : Bytes s → i < big_at 4 s 44 → i < 256 ^ 4
  among_few b h =
      let w = take 4 (drop 44 s) in
      let e : length w ≡ 4 = part_length s 44 4 (headed h) in
      let k : big w < 256 ^ 4 = subst (λ (n : ℕ). big w < 256 ^ n) e (big_lt w (bytes_take 4 (drop 44 s) (bytes_drop 44 s b))) in
      omega (arith, among h, k)
