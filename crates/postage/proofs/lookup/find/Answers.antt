-- What halving comes to is what a well-formed list has.
use mathlib.Core.Path.{sym, ◌∙◌}
use Rattle.std.proofs.Common.{rules, tests, None, Some}
use Rattle.std.proofs.lemmas.Fn.{always_returns_same}
use Rattle.batches.proofs.Records.{chunks_are_records}
use Rattle.batches.proofs.Listed.{well_listed_sound}
use Rattle.postage.proofs.Search
use Rattle.postage.proofs.lookup.find.Goals as goal

pub returns-in_err-at : goal.returns-in_err-at
returns-in_err-at c w =
    let list = c.args.batches.now in
    let id = c.args.id.now in
    let told = c.binary_search_by.ensures.position (Search.told list id) (always_returns_same _ _ _ (λ a r g k. search (rules, tests))) in
    let none = Search.halved list id (well_listed_sound list w) c.binary_search_by.result None (sym c.in_err-at.was ∙ c.ok.ensures.value) c.as_chunks.result.0.now (c.as_chunks.ensures.front ∙ chunks_are_records list) c.binary_search_by.ensures.bound told in
    rw c.from_residual.ensures none

pub returns : goal.returns
returns c w =
    let list = c.args.batches.now in
    let id = c.args.id.now in
    let told = c.binary_search_by.ensures.position (Search.told list id) (always_returns_same _ _ _ (λ a r g k. search (rules, tests))) in
    Search.halved list id (well_listed_sound list w) c.binary_search_by.result (Some c.in_ok-at.at) (sym c.in_ok-at.was ∙ c.ok.ensures.value) c.as_chunks.result.0.now (c.as_chunks.ensures.front ∙ chunks_are_records list) c.binary_search_by.ensures.bound told
