-- Each branch is a half of the definition.
use mathlib.Core.Path.{sym}
use native.Mathlib.Omega.{arith}
use Rattle.digits.proofs.Letters
use Rattle.digits.proofs.spelling.digit.Goals as goal

pub returns-then-d-lt10 : goal.returns-then-d-lt10
returns-then-d-lt10 c = sym (Letters.digit_number c.args.d (omega arith))

pub returns-else-d-lt10 : goal.returns-else-d-lt10
returns-else-d-lt10 c = sym (Letters.digit_letter c.args.d (omega arith))
