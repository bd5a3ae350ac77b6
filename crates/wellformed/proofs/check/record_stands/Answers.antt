-- What is read is read where it stands.
use mathlib.Core.Path.{refl, ◌≡◌, sym, ap, ◌∙◌}
use mathlib.Core.Bool.{true, false, ◌&&◌}
use mathlib.Core.List.{List}
use Prim.Native.Nat.{ℕ, ◌^◌}
use native.Mathlib.Omega.{arith}
use lib.Dec.{eqb, ltb, leb}
use lib.ListN.{length}
use borrow.Author.Tests.{eq-eqb, ne_eqb}
use Rattle.octets.specs.Number.{big_at}
use Rattle.octets.proofs.Parts.{part_length}
use Rattle.nearness.specs.Bits.{shared_bits}
use Rattle.nearness.specs.Near.{bits_in}
use Rattle.records.specs.Record.{bucket_in, index_in, address_in, bucket_of}
use Rattle.wellformed.specs.Check.{stands}
use Rattle.book.specs.Layout.{depth_in, overlay_in}
use Rattle.book.proofs.Truths.{both}
use Rattle.book.proofs.Fields
use Rattle.wellformed.proofs.Tests.{grouped}
use Rattle.wellformed.proofs.check.record_stands.Goals as goal
use Rattle.wellformed.proofs.check.record_stands.Goals.{then-read-from, else-read-from}

-- what is read says, of the bucket and the index and then of the whole
module _ (held : List ℕ) (h : length held ≡ 145) where
  first_two : (bucket address : ℕ) → bucket ≡ big_at 4 held 32 → address ≡ big_at 2 held 48
      → (eqb bucket address && ltb (big_at 4 held 36) (2 ^ 24)) ≡ (eqb (bucket_in held) (bucket_of (address_in held)) && ltb (index_in held) (2 ^ 24))
  first_two bucket address b a = rw (b, a, Fields.bucket_there held h, Fields.address_there held h, Fields.index_there held h)

  module _ (overlay : List ℕ) (depth near : ℕ) (n : near ≡ shared_bits (address_in held) overlay) where
    stood : (eqb (bucket_in held) (bucket_of (address_in held)) && ltb (index_in held) (2 ^ 24)) ≡ true → leb depth near ≡ stands depth overlay held
    unfolding stands
    stood e =
        let p : (eqb (bucket_in held) (bucket_of (address_in held)) ≡ true) × (ltb (index_in held) (2 ^ 24) ≡ true) = both e in
        rw (p.0, p.1, n)

    fell : (eqb (bucket_in held) (bucket_of (address_in held)) && ltb (index_in held) (2 ^ 24)) ≡ false → false ≡ stands depth overlay held
    unfolding stands
    fell e =
        rw (grouped (eqb (bucket_in held) (bucket_of (address_in held))) (ltb (index_in held) (2 ^ 24)) (leb depth (shared_bits (address_in held) overlay)), e)

pub returns-then-read-lt16777216 : goal.returns-then-read-lt16777216
returns-then-read-lt16777216 c =
    let r = c.args.held.now in
    let s = c.args.header.now in
    let near : c.bits.result ≡ shared_bits (address_in r) (overlay_in s) =
    c.bits.ensures ∙ ap bits_in c.nearness.ensures ∙ Fields.near_there (address_in r) (overlay_in s) (part_length r 48 32 (omega arith)) (part_length s 8 32 (omega arith)) in
    let two : c.if-read-from.value ≡ (eqb c.read.result c.from.result && ltb (big_at 4 r 36) (2 ^ 24)) =
    elim c.if-read-from.branch [
      | then-read-from w ↦ w.value-is ∙ rw (eq-eqb _ _ w.if-read-from.true, w.read-then-read-from.ensures)
      | else-read-from w ↦ w.value-is ∙ rw (ne_eqb _ _ w.if-read-from.false)
    ] in
    let depth : c.from-then-read-lt16777216.result ≡ depth_in s = c.from-then-read-lt16777216.ensures ∙ c.depth.ensures in
    ap (λ (d : ℕ). leb d c.bits.result) depth
    ∙ stood r (omega arith) (overlay_in s) (depth_in s) c.bits.result near (sym (first_two r (omega arith) _ _ c.read.ensures (c.from.ensures ∙ c.read-2.ensures)) ∙ sym two ∙ c.if-read-lt16777216.true)

pub returns-else-read-lt16777216 : goal.returns-else-read-lt16777216
returns-else-read-lt16777216 c =
    let r = c.args.held.now in
    let s = c.args.header.now in
    let two : c.if-read-from.value ≡ (eqb c.read.result c.from.result && ltb (big_at 4 r 36) (2 ^ 24)) =
    elim c.if-read-from.branch [
      | then-read-from w ↦ w.value-is ∙ rw (eq-eqb _ _ w.if-read-from.true, w.read-then-read-from.ensures)
      | else-read-from w ↦ w.value-is ∙ rw (ne_eqb _ _ w.if-read-from.false)
    ] in
    c.if-read-lt16777216.false
    ∙ fell r (omega arith) (overlay_in s) (depth_in s) _ refl (sym (first_two r (omega arith) _ _ c.read.ensures (c.from.ensures ∙ c.read-2.ensures)) ∙ sym two ∙ c.if-read-lt16777216.false)
