-- Answers that tell one thing are one answer.
use mathlib.Core.Bool.{Bool, true, false, ◌&&◌, false≢true}
use mathlib.Core.Path.{◌≡◌, refl, sym, ap}
use Rattle.verdict.specs.Equal.{Tells}

pub one_answer : (r s : Bool) {P : Type 0} → Tells r P → Tells s P → r ≡ s
one_answer true true t u = refl
one_answer true false t u = absurd (false≢true (u.1 (t.0 refl)))
one_answer false true t u = absurd (false≢true (t.1 (u.0 refl)))
one_answer false false t u = refl

-- two answers joined tell both things
pub both_told : (r s : Bool) {P Q : Type 0} → Tells r P → Tells s Q → Tells (r && s) (P × Q)
both_told true s t u = (λ yes. (t.0 refl, u.0 yes), λ pq. u.1 pq.1)
both_told false s t u = (λ yes. absurd (false≢true yes), λ pq. absurd (false≢true (t.1 pq.0)))

-- where the first of two joined answers is known
pub known_first : (s : Bool) {r t : Bool} → r ≡ t → (t && s) ≡ (r && s)
known_first s e = ap (λ (t : Bool). t && s) (sym e)
