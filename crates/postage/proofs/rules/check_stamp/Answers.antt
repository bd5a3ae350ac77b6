-- What the list's check tells is of the whole list, since it goes as far as its end. (The first the check finds alone; of a list that is not the
-- whole one it would only give up.)
use Rattle.std.proofs.Common.{◌≡◌, ◌∙◌, None, Some, arith, rules}
use Rattle.postage.specs.Rules as Asked
use Rattle.postage.proofs.Ruled.{to_end}
use Rattle.postage.proofs.rules.check_stamp.Goals as goal

pub returns-then-not-stands : goal.returns-then-not-stands
unfolding Asked.checked
returns-then-not-stands c = rw (to_end c.args.batches.now _ _ c.stands.ensures (omega arith) ∙ c.if-not-stands.true)

pub returns-in_err-address : goal.returns-in_err-address
unfolding Asked.rules Asked.checked
returns-in_err-address c =
    let whole = to_end c.args.batches.now _ _ c.stands.ensures (omega arith) ∙ c.if-not-stands.false in
    search rules

pub returns-in_err-stamp : goal.returns-in_err-stamp
unfolding Asked.rules Asked.checked
returns-in_err-stamp c =
    let whole = to_end c.args.batches.now _ _ c.stands.ensures (omega arith) ∙ c.if-not-stands.false in
    search rules

pub returns-in_err-account : goal.returns-in_err-account
unfolding Asked.rules Asked.checked
returns-in_err-account c =
    let whole = to_end c.args.batches.now _ _ c.stands.ensures (omega arith) ∙ c.if-not-stands.false in
    search rules

pub returns-in_err-batch : goal.returns-in_err-batch
unfolding Asked.rules Asked.checked
returns-in_err-batch c =
    let whole = to_end c.args.batches.now _ _ c.stands.ensures (omega arith) ∙ c.if-not-stands.false in
    let sought = c.find.ensures whole in
    let none : c.find.result ≡ None = search rules in
    let unlisted = rw none at sought in
    search rules

pub judge-requires : goal.judge-requires
judge-requires c =
    let whole = to_end c.args.batches.now _ _ c.stands.ensures (omega arith) ∙ c.if-not-stands.false in
    let sought = c.find.ensures whole in
    let found : c.find.result ≡ Some c.in_ok-batch.batch = search rules in
    let listed = rw found at sought in
    listed.0

pub returns : goal.returns
unfolding Asked.rules Asked.checked
returns c =
    let whole = to_end c.args.batches.now _ _ c.stands.ensures (omega arith) ∙ c.if-not-stands.false in
    let sought = c.find.ensures whole in
    let found : c.find.result ≡ Some c.in_ok-batch.batch = search rules in
    let listed = rw found at sought in
    search rules
