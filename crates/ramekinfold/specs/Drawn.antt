-- An answer, a place and a commitment.
use Rattle.std.specs.Prelude.{Result, List, ℕ}
use Rattle.answers.specs.Number.{digest_or_zeros}
use Rattle.draw.specs.declared.answer.DrawError.{DrawError}
use Rattle.draw.specs.Answer.{draw_number, draw_place}
use Rattle.ramekinfold.specs.declared.draws.Drawn.{Drawn}

abbrev pub handed : ℕ → ℕ → List ℕ → Drawn
handed a p c = record { answer = a; place = p; commitment = c }

-- what a draw hands back, as C holds it
abbrev pub of_drawn : Result (List ℕ) DrawError → Drawn
of_drawn d = handed (draw_number d) (draw_place d) (digest_or_zeros d)
