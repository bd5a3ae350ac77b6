-- Numbers that are read where they stand.
use mathlib.Core.Path.{◌≡◌, sym, ap, ◌∙◌}
use mathlib.Core.List.{List}
use Prim.Native.Nat.{ℕ, ◌+◌, ◌-◌, ◌≤◌, ◌<◌}
use native.Mathlib.Omega.{arith}
use lib.ListN.{length, get_or, take, drop}
use lib.Seq.{take-take, length-take-le}
use Rattle.std.proofs.lemmas.List.{get_or-take}
use borrow.Author.Tests.{eq-eqb}
use Rattle.octets.specs.Number.{big, big_at}
use Rattle.octets.proofs.Numbers.{big_at_fits}
use Rattle.octets.proofs.Parts.{part_of_take}
use Rattle.nearness.specs.Bits.{shared_bits}
use Rattle.nearness.specs.Near.{nearness_of, bits_in}
use Rattle.records.specs.Record.{bucket_in, index_in, address_in, bucket_of}
use Rattle.book.specs.Layout.{mark_in, version_in, overlay_in, capacity_in, count_in}

-- a header's
module _ (s : List ℕ) (h : 48 ≤ length s) where
  pub capacity_there : big_at 4 s 40 ≡ capacity_in s
  capacity_there = big_at_fits 4 s 40 (omega arith)

  pub count_there : big_at 4 s 44 ≡ count_in s
  count_there = big_at_fits 4 s 44 (omega arith)

-- and of the header by itself
header_part : (s : List ℕ) (at n : ℕ) → at + n ≤ 48 → take n (drop at (take 48 s)) ≡ take n (drop at s)
header_part s at n h =
    let e : 48 ≡ at + (48 - at) = omega arith in
    rw (e, part_of_take at (48 - at) s) (take-take n (48 - at) (drop at s) (omega arith))

pub header_byte : (s : List ℕ) (at : ℕ) → at < 48 → get_or (take 48 s) at 0 ≡ get_or s at 0
header_byte s at h = get_or-take 48 s at 0 h

pub header_overlay : (s : List ℕ) → overlay_in (take 48 s) ≡ overlay_in s
header_overlay s = header_part s 8 32 (omega arith)

pub header_mark : (s : List ℕ) → mark_in (take 48 s) ≡ mark_in s
header_mark s = take-take 3 48 s (omega arith)

pub header_capacity_in : (s : List ℕ) → capacity_in (take 48 s) ≡ capacity_in s
header_capacity_in s = ap big (header_part s 40 4 (omega arith))

pub header_version : (s : List ℕ) → version_in (take 48 s) ≡ version_in s
header_version s = ap big (header_part s 3 2 (omega arith))

module _ (s : List ℕ) (h : 48 ≤ length s) where
  pub header_capacity : big_at 4 (take 48 s) 40 ≡ capacity_in s
  header_capacity = capacity_there (take 48 s) (omega (arith, length-take-le 48 s h)) ∙ header_capacity_in s

  pub header_count : big_at 4 (take 48 s) 44 ≡ count_in s
  header_count = count_there (take 48 s) (omega (arith, length-take-le 48 s h)) ∙ ap big (header_part s 44 4 (omega arith))

-- a record's
module _ (r : List ℕ) (h : length r ≡ 145) where
  pub bucket_there : big_at 4 r 32 ≡ bucket_in r
  bucket_there = big_at_fits 4 r 32 (omega arith)

  pub index_there : big_at 4 r 36 ≡ index_in r
  index_there = big_at_fits 4 r 36 (omega arith)

  pub address_there : big_at 2 r 48 ≡ bucket_of (address_in r)
  address_there = big_at_fits 2 r 48 (omega arith) ∙ ap big (sym (take-take 2 32 (drop 48 r) (omega arith)))

pub near_there : (a o : List ℕ) → length a ≡ 32 → length o ≡ 32 → bits_in (nearness_of a o) ≡ shared_bits a o
unfolding nearness_of
near_there a o h k = rw (eq-eqb (length a) 32 h, eq-eqb (length o) 32 k)
