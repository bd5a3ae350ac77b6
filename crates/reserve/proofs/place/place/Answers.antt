-- The records stand in order, so that halving tells the place.
use mathlib.Core.Path.{◌≡◌, sym, ap, ◌∙◌, subst}
use mathlib.Core.Bool.{true, false}
use mathlib.Core.List.{List}
use native.Mathlib.Omega.{arith}
use Rattle.std.proofs.Common.{rules, ℕ, take}
use Rattle.std.proofs.lemmas.List.{length-take}
use Rattle.std.proofs.lemmas.List.Sorted.{IsPartitionPoint-from_clause}
use Rattle.std.specs.List.Sorted.{IsPartitionedBy, IsPartitionPoint}
use Rattle.octets.proofs.Bytes.{bytes_known}
use Rattle.book.specs.Layout.{count_in, records_in}
use Rattle.book.proofs.Fields
use Rattle.reserve.proofs.Halves
use Rattle.reserve.proofs.place.place.Goals as goal

pub slice_bounds-records-end : goal.slice_bounds-records-end
slice_bounds-records-end c =
    let s = c.args.book.now in
    let same : c.count.result ≡ count_in s = c.count.ensures ∙ Fields.count_there s (omega (arith, c.requires.size)) in
    simp length-take (omega (arith, c.as_chunks.ensures.front_len, Halves.room s c.requires c.count.result same))

pub returns : goal.returns
returns c =
    let s = c.args.book.now in
    let given = c.args.given.now in
    let same : c.count.result ≡ count_in s = c.count.ensures ∙ Fields.count_there s (omega (arith, c.requires.size)) in
    let there : take c.count.result c.as_chunks.result.0.now ≡ records_in s = ap (take c.count.result) c.as_chunks.ensures.front ∙ Halves.records_there s c.requires c.count.result same in
    let parted = Halves.parted s given c.requires c.told-given (bytes_known given c.fits-given) in
    Halves.placed s given c.requires c.told-given (bytes_known given c.fits-given) c.partition_point.result
    (rw there at c.partition_point.ensures.bound)
    (subst (λ (l : List (List ℕ)). IsPartitionPoint (λ r. Halves.is_below given r ≡ true) (λ r. Halves.is_below given r ≡ false) l c.partition_point.result) there
    (IsPartitionPoint-from_clause (Halves.is_below given) _ _ c.partition_point.ensures.partitioned
    (subst (IsPartitionedBy (Halves.is_below given)) (sym there) parted) (λ a r q k. search rules)))
