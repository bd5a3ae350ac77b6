-- A stretch of a lent buffer.
use Rattle.std.specs.Prelude.{ℕ}
use Rattle.records.specs.declared.rank.Choice.{Choice}
use Rattle.records.specs.declared.rank.Choice.TheVariants.{First, Second, Neither}
use Rattle.ramekinfold.specs.declared.chunks.Part.{Part}

abbrev pub part : ℕ → ℕ → Part
part start size = record { start = start; length = size }

-- one of two records, as C is told: 0 the first, 1 the second, and all of its 145 bytes; or an empty part of the first
abbrev pub of_choice : Choice → Part
of_choice First = part 0 145
of_choice Second = part 1 145
of_choice Neither = part 0 0
