-- The bytes handed back, and whose they are, by the verdict.
use native.Mathlib.Nat.{zero-add}
use Rattle.records.specs.Choice.{higher_of, place_of}
use Rattle.records.proofs.rank.higher.Goals as goal

pub returns-in-First : goal.returns-in-First
unfolding higher_of place_of
returns-in-First c =
    record { result_value = rw (← c.choose.ensures, c.in-First.is); ref_ptr_value = rw (← c.choose.ensures, c.in-First.is) }

pub returns-in-Second : goal.returns-in-Second
unfolding higher_of place_of
returns-in-Second c =
    record { result_value = rw (← c.choose.ensures, c.in-Second.is); ref_ptr_value = rw (← c.choose.ensures, c.in-Second.is) }

pub returns-in-Neither : goal.returns-in-Neither
unfolding higher_of place_of
returns-in-Neither c =
    record { result_value = rw (← c.choose.ensures, c.in-Neither.is); ref_ptr_value = rw (← c.choose.ensures, c.in-Neither.is) (λ i. (c.args.first.ref_ptr.0, zero-add c.args.first.ref_ptr.1 i)) }
