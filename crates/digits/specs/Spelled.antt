-- A number's digits in twenty bytes: zeros, then the digits; and where the digits begin.
use Rattle.std.specs.Prelude.{◌++◌, ℕ, ◌-◌, length, replicate}
use Rattle.digits.specs.declared.spelling.Decimal.{Decimal}
use Rattle.digits.specs.Field.{decimal}

unfoldable pub spelled : ℕ → Decimal
spelled n = record { bytes = replicate (20 - length (decimal n)) 0 ++ decimal n; from = 20 - length (decimal n) }
