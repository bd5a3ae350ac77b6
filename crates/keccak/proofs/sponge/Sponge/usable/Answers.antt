-- `keccak::Sponge::usable` meets its contract.
use mathlib.Core.Path.{sym}
use Rattle.std.proofs.Common.{rules}
use Rattle.keccak.proofs.Step.{usable_in, usable_out, fresh_sound}
use Rattle.keccak.proofs.sponge.Sponge.usable.Goals as goal

pub returns-then-self-lt-RATE : goal.returns-then-self-lt-RATE
returns-then-self-lt-RATE c =
    (sym (usable_in c.args.self c.if-self-lt-RATE.true), record { lanes25 = search rules; in_block = c.if-self-lt-RATE.true })

pub returns-else-self-lt-RATE : goal.returns-else-self-lt-RATE
returns-else-self-lt-RATE c = rw c.new.ensures (sym (usable_out c.args.self c.if-self-lt-RATE.false), fresh_sound)
