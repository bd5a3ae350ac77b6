-- The sixteen are written and hashed.
use Rattle.std.proofs.Common.{sym, ap, ◌∙◌}
use Rattle.std.specs.Result.{is_ok}
use Rattle.sample.proofs.Held.{hashed, handed_out}
use Rattle.sample.proofs.commitment.commit.Goals as goal

pub unwrap-requires : goal.unwrap-requires
unwrap-requires c = ap is_ok (c.address.ensures ∙ hashed c.write_out.new.sample (c.write_out.auto.sample ∙ c.if-sample-ne1024.false))

pub returns : goal.returns
returns c =
    let a = c.args in
    let out = handed_out a.best.now a.held a.sample.now c.if-held-ne16.false c.if-best-ne1024.false c.if-sample-ne1024.false
    c.write_out.new.sample c.unwrap.result (c.write_out.auto.sample ∙ c.if-sample-ne1024.false) c.write_out.ensures (sym c.address.ensures ∙ c.unwrap.ensures) in
    record { result = out.0; bytes = out.1 }
