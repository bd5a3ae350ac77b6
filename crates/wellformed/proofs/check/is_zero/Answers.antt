use mathlib.Core.Bool.{Bool, true, false, ◌&&◌}
use mathlib.Core.Path.{◌≡◌, refl, sym, ◌∙◌}
use lib.Dec.{eqb}
use Rattle.wellformed.proofs.Tests
use Rattle.wellformed.proofs.check.is_zero.Goals as goal

pub loop-byte-preserved : goal.loop-byte-preserved
loop-byte-preserved c = c.loop-byte.invariant ∙ Tests.byte_joined c.args.s.now c.loop-byte.byte-index c.loop-byte.joined c.loop-byte-test.true

pub returns : goal.returns
returns c =
    sym (c.loop-byte.invariant ∙ rw (Tests.none_left c.args.s.now c.loop-byte.byte-index c.loop-byte-test.false) (whole (eqb c.loop-byte.joined 0)))
  where
    whole : (b : Bool) → (b && true) ≡ b
    whole true = refl
    whole false = refl
