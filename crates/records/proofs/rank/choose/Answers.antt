-- Lengths first, then the slots, then the rank.
use mathlib.Core.Path.{◌≡◌, refl, sym, ap, ◌∙◌}
use mathlib.Core.Bool.{false, false≢true}
use lib.ListN.{take}
use borrow.Author.Tests.{eq-eqb, ne_eqb}
use Rattle.std.specs.declared.cmp.Ordering.{Ordering}
use Rattle.std.specs.declared.cmp.Ordering.TheVariants.{Less, Equal, Greater}
use Rattle.std.specs.Ordering.{is_ne}
use Rattle.octets.specs.Order.{byte_order}
use Rattle.octets.proofs.Bytes.{bytes_known}
use Rattle.octets.proofs.Ordered.{same_equal}
use Rattle.records.specs.Choice.{choice, preferred}
use Rattle.records.proofs.Ranks
use Rattle.records.proofs.rank.choose.Goals as goal

not_ne : (o : Ordering) → false ≡ is_ne o → o ≡ Equal
not_ne Less e = absurd (false≢true e)
not_ne Equal e = refl
not_ne Greater e = absurd (false≢true e)

pub returns-in_default : goal.returns-in_default
unfolding choice
returns-in_default c = rw (ne_eqb _ _ c.in_default.ensures.cases)

pub returns-in_default-as_array : goal.returns-in_default-as_array
unfolding choice
returns-in_default-as_array c = rw (eq-eqb _ _ c.in-Some.ensures.cases.long, ne_eqb _ _ c.in_default-as_array.ensures.cases)

pub returns-then-is_ne : goal.returns-then-is_ne
returns-then-is_ne c =
    let a = c.args.first.now in
    let b = c.args.second.now in
    let f = c.in-Some.ensures.cases in
    let g = c.in-Some-as_array.ensures.cases in
    let slots : c.compare.result ≡ byte_order (take 40 a) (take 40 b) = c.compare.ensures ∙ rw (f.same, g.same) in
    sym
    (Ranks.choice_two_slots a b f.long g.long
    (bytes_known a (λ n. (c.type_inv.first n).fits)) (bytes_known b (λ n. (c.type_inv.second n).fits))
    (λ q. false≢true (sym (c.if-is_ne.ensures ∙ ap is_ne (slots ∙ q)))))

pub rank-requires : goal.rank-requires
rank-requires c = same_equal _ _ (sym c.compare.ensures ∙ not_ne _ c.if-is_ne.ensures)

pub returns : goal.returns
returns c =
    let a = c.args.first.now in
    let b = c.args.second.now in
    let f = c.in-Some.ensures.cases in
    let g = c.in-Some-as_array.ensures.cases in
    let one_slot : take 40 a ≡ take 40 b = ap (take 40) (sym f.same) ∙ same_equal _ _ (sym c.compare.ensures ∙ not_ne _ c.if-is_ne.ensures) ∙ ap (take 40) g.same in
    c.prefer.ensures ∙ ap preferred (c.rank.ensures ∙ rw (f.same, g.same)) ∙ sym (Ranks.choice_one_slot a b f.long g.long one_slot)
