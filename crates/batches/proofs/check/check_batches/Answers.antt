-- The records are those of the list, and what is left behind them is nothing where the list is whole.
use mathlib.Core.Path.{◌≡◌, sym, ap, ◌∙◌}
use native.Mathlib.Omega.{arith}
use lib.ListN.{length}
use borrow.Author.Tests.{eqb-true, eqb-false}
use Rattle.batches.specs.Batch.{records, ordered}
use Rattle.batches.proofs.Records.{chunks_are_records}
use Rattle.batches.proofs.Listed.{not_whole, whole_in_order}
use Rattle.batches.proofs.check.check_batches.Goals as goal

pub returns-then-is_empty : goal.returns-then-is_empty
returns-then-is_empty c =
    let list = c.args.batches.now in
    let rs : c.as_chunks.result.0.now ≡ records list = c.as_chunks.ensures.front ∙ chunks_are_records list in
    let n : length c.as_chunks.result.1.now ≡ 0 = eqb-true _ _ (sym c.is_empty.ensures ∙ c.if-is_empty.true) in
    whole_in_order list c.in_order.result (omega arith) (c.in_order.ensures ∙ ap ordered rs)

pub returns-else-is_empty : goal.returns-else-is_empty
returns-else-is_empty c =
    let list = c.args.batches.now in
    let n : length c.as_chunks.result.1.now ≡ 0 → ⊥ = eqb-false _ _ (sym c.is_empty.ensures ∙ c.if-is_empty.false) in
    c.if-is_empty.false ∙ not_whole list (λ z. n (omega arith))
