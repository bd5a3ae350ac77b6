-- `verdict::machines::agree` meets its contract.
use Rattle.std.proofs.Common.{rules}
use Rattle.verdict.specs.Agree.{agreed}
use Rattle.verdict.proofs.Told.{row_of_four}
use Rattle.verdict.proofs.machines.agree.Goals as goal
use Rattle.verdict.proofs.machines.agree.Goals.{then-one_hash, else-one_hash}

pub returns-then-one_hash-2 : goal.returns-then-one_hash-2
unfolding agreed
returns-then-one_hash-2 g c =
    elim c.if-one_hash.branch [ then-one_hash w ↦ search (rules, row_of_four) | else-one_hash w ↦ search rules ]

pub returns-else-one_hash-2 : goal.returns-else-one_hash-2
unfolding agreed
returns-else-one_hash-2 g c =
    elim c.if-one_hash.branch [ then-one_hash w ↦ search (rules, row_of_four) | else-one_hash w ↦ search (rules, row_of_four) ]
