-- Each contract determines its function: two results, or two buffers at exit, that it allows are equal. A refusal leaves the buffer.
use Rattle.std.specs.Prelude.{◌≡◌, Result, Ok, Err, List, ℕ, ◌≤◌}
use Rattle.std.proofs.Math.Path.{refl}
use Rattle.std.proofs.Common.{sym, ◌∙◌, arith}
use Rattle.opening.specs.declared.open.OpenError.{OpenError}
use Rattle.opening.specs.Open.{error_number, fresh_book, left, open_answer, open_bytes, open_number}

pub open_answer_determined : (a : Result (Unit {0}) OpenError) (r r' : ℕ) → r ≡ open_number a → r' ≡ open_number a → r ≡ r'
open_answer_determined a r r' p q = p ∙ sym q

pub error_number_determined : (error : OpenError) (r r' : ℕ) → r ≡ error_number error → r' ≡ error_number error → r ≡ r'
error_number_determined error r r' p q = p ∙ sym q

module _ (s overlay : List ℕ) (capacity starting : ℕ) where
  pub open_determined : (r r' : Result (Unit {0}) OpenError) (t t' : List ℕ)
      → (r ≡ open_answer s overlay capacity starting) × (t ≡ open_bytes s overlay capacity starting)
      → (r' ≡ open_answer s overlay capacity starting) × (t' ≡ open_bytes s overlay capacity starting)
      → (r ≡ r') × (t ≡ t')
  open_determined r r' t t' p q = (p.0 ∙ sym q.0, p.1 ∙ sym q.1)

  pub open_refused : 10 ≤ open_number (open_answer s overlay capacity starting) → open_bytes s overlay capacity starting ≡ s
  unfolding open_bytes
  open_refused = go (open_answer s overlay capacity starting)
    where
      go : (a : Result (Unit {0}) OpenError) → 10 ≤ open_number a → left a (fresh_book overlay capacity starting) s ≡ s
      go (Ok done) h = absurd (omega arith)
      go (Err error) h = refl
