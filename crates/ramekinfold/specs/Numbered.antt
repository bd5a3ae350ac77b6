-- An answer and a number.
use Rattle.std.specs.Prelude.{Result, ℕ}
use Rattle.nearness.specs.declared.near.NearError.{NearError}
use Rattle.nearness.specs.Near.{near_number, bits_in}
use Rattle.ramekinfold.specs.declared.places.Numbered.{Numbered}

abbrev pub numbered : ℕ → ℕ → Numbered
numbered a n = record { answer = a; number = n }

-- an answer on nearness, as C holds it
abbrev pub of_near : Result ℕ NearError → Numbered
of_near near = numbered (near_number near) (bits_in near)
