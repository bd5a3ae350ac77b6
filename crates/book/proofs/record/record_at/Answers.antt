-- The count that is read has four bytes, so that where a record ends fits in 64 bits.
use mathlib.Core.Path.{sym, ◌∙◌}
use mathlib.Core.Path.{◌≡◌}
use mathlib.Core.List.{List}
use Prim.Native.Nat.{ℕ, ◌+◌, ◌*◌, ◌^◌, ◌<◌}
use lib.ListN.{get_or}
use native.Mathlib.Omega.{arith}
use Rattle.octets.specs.Number.{big_at}
use Rattle.octets.proofs.Bytes.{bytes_known}
use Rattle.book.proofs.Cuts.{cut}
use Rattle.book.proofs.Records.{record_bytes, among, behind, among_few}
use Rattle.book.proofs.record.record_at.Goals as goal

-- a place that is counted
few : (s : List ℕ) (i n : ℕ) → ((k : ℕ) → get_or s k 0 < 256) → n ≡ big_at 4 s 44 → i < n → i < 256 ^ 4
few s i n f e h = among_few s i (bytes_known s f) (omega (arith, h, e))

pub returns-then-count-i : goal.returns-then-count-i
returns-then-count-i c = sym (behind c.args.book.now c.args.i (omega (arith, c.if-count-i.true, c.count.ensures)))

pub overflow_mul-at : goal.overflow_mul-at
overflow_mul-at c = record { fits = omega (arith, few c.args.book.now c.args.i c.count.result (λ k. (c.type_inv.book k).fits) c.count.ensures c.if-count-i.false) }

pub overflow_add-at : goal.overflow_add-at
overflow_add-at c = record { fits = omega (arith, few c.args.book.now c.args.i c.count.result (λ k. (c.type_inv.book k).fits) c.count.ensures c.if-count-i.false) }

pub overflow_add-at-2 : goal.overflow_add-at-2
overflow_add-at-2 c = record { fits = omega (arith, few c.args.book.now c.args.i c.count.result (λ k. (c.type_inv.book k).fits) c.count.ensures c.if-count-i.false) }

pub returns : goal.returns
returns c =
    let a = c.args in
    let counted : a.i < big_at 4 a.book.now 44 = omega (arith, c.if-count-i.false, c.count.ensures) in
    cut a.book.now (48 + 145 * a.i) 145 c.min.result c.min-2.result c.min.ensures c.min-2.ensures ∙ sym (record_bytes a.book.now a.i (among a.book.now a.i counted))
