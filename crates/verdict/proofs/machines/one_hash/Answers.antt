-- `verdict::machines::one_hash` meets its contract: each arm knows what the two draws are, and `one_hash` computes on these.
use Rattle.std.proofs.Common.{◌≡◌, refl, ap, sym, ◌∙◌, List, ℕ}
use Rattle.std.specs.Prelude.{Result}
use Rattle.verdict.specs.Agree.{one_hash}
use Rattle.verdict.proofs.machines.one_hash.Goals as goal

-- what `one_hash` says of two draws it says of what they are
met : {E : Type 0} {a b x y : Result (List ℕ) E} → a ≡ x → b ≡ y → one_hash x y ≡ one_hash a b
met {a = a} {b = b} {y = y} p q = sym (ap (one_hash a) q ∙ ap (λ (r : Result (List ℕ) _). one_hash r y) p)

pub returns-in-Ok-Ok : goal.returns-in-Ok-Ok
unfolding one_hash
returns-in-Ok-Ok g c = c.same_digest.ensures ∙ met c.in-Ok-Ok.is-0 c.in-Ok-Ok.is-1

pub returns-in-Ok-Err : goal.returns-in-Ok-Err
unfolding one_hash
returns-in-Ok-Err g c = met c.in-Ok-Err.is-0 c.in-Ok-Err.is-1

pub returns-in-Err-default : goal.returns-in-Err-default
unfolding one_hash
returns-in-Err-default g c = met {b = c.args.b.now} c.in-Err-default.is-0 refl
