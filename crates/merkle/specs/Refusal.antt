-- An answer of 1 or from 10 up is a refusal.
use Rattle.std.specs.Prelude.{◌⊎◌, ◌≡◌, ℕ, ◌≤◌}
use Rattle.std.proofs.Common.{inl, inr, arith}

abbrev pub Refusal : ℕ → Type 0
Refusal number = (number ≡ 1) ⊎ (10 ≤ number)

pub done_is_none : {A : Type 0} → Refusal 0 → A
done_is_none (inl h) = absurd (omega arith)
done_is_none (inr h) = absurd (omega arith)
