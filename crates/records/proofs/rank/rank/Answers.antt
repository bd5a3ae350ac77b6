-- The time decides, then the address, then the signature.
use borrow.Author.Rules.{rules}
use native.Mathlib.Omega.{arith}
use mathlib.Core.Path.{◌≡◌, sym, ap, ◌∙◌}
use Rattle.std.specs.declared.cmp.Ordering.{Ordering}
use Rattle.std.specs.declared.cmp.Ordering.TheVariants.{Less, Equal, Greater}
use Rattle.std.specs.Ordering.{MatchOrdering, ordering_then, ordering_reverse}
use Rattle.octets.specs.Order.{byte_order}
use Rattle.octets.proofs.Ordered.{then_then}
use Rattle.records.specs.Record.{time_in, address_in, signature_in}
use Rattle.records.proofs.Ranks.{by_three}
use Rattle.records.proofs.rank.rank.Goals as goal

-- what the closure says, where it is asked
told : {P : Type 0} (o p r : Ordering) → MatchOrdering o (r ≡ Less) P (r ≡ Greater) → (P → r ≡ p) → r ≡ ordering_then o p
told Less p r h f = h
told Equal p r h f = f h
told Greater p r h f = h

pub returns : goal.returns
returns c =
    let a = c.args.first.now in
    let b = c.args.second.now in
    let address = byte_order (address_in a) (address_in b) in
    let signature = byte_order (signature_in a) (signature_in b) in
    let time : c.reverse.result ≡ ordering_reverse (byte_order (time_in a) (time_in b)) = c.reverse.ensures ∙ ap ordering_reverse c.compare.ensures in
    let one : c.then_with.result ≡ ordering_then c.reverse.result address = told c.reverse.result address c.then_with.result c.then_with.ensures (λ h. search rules) in
    let two : c.then_with-2.result ≡ ordering_then c.then_with.result signature = told c.then_with.result signature c.then_with-2.result c.then_with-2.ensures (λ h. search rules) in
    two ∙ rw (one, time) (then_then (ordering_reverse (byte_order (time_in a) (time_in b))) address signature) ∙ sym (by_three a b (omega arith) (omega arith) c.requires)
