-- Each answer is that of the tests that led to it. (The check finds these alone; of another order it would only give up.)
use mathlib.Core.Path.{sym, ◌∙◌}
use Rattle.postage.specs.Rules.{judged}
use Rattle.postage.proofs.rules.judge.Goals as goal

pub returns-then-not-in_bucket : goal.returns-then-not-in_bucket
unfolding judged
returns-then-not-in_bucket c = rw (sym c.in_bucket.ensures ∙ c.if-not-in_bucket.true)

pub returns-then-not-below : goal.returns-then-not-below
unfolding judged
returns-then-not-below c = rw (sym c.in_bucket.ensures ∙ c.if-not-in_bucket.false, sym c.in_slots-below.ensures ∙ c.if-not-below.true)

pub returns-then-not-owned : goal.returns-then-not-owned
unfolding judged
returns-then-not-owned c =
    rw (sym c.in_bucket.ensures ∙ c.if-not-in_bucket.false, sym c.in_slots-below.ensures ∙ c.if-not-below.false, sym c.is_owner-owned.ensures ∙ c.if-not-owned.true)

pub returns : goal.returns
unfolding judged
returns c =
    rw (sym c.in_bucket.ensures ∙ c.if-not-in_bucket.false, sym c.in_slots-below.ensures ∙ c.if-not-below.false, sym c.is_owner-owned.ensures ∙ c.if-not-owned.false)
