-- Each contract of this crate allows one result.
use Rattle.std.specs.Prelude.{List, [], ◌∷◌, ◌≡◌, ℕ}
use Rattle.std.proofs.Common.{◌∙◌, sym}
use Rattle.digits.specs.declared.spelling.Decimal.{Decimal}
use Rattle.digits.specs.Field.{hex}
use Rattle.digits.specs.Spelled.{spelled}

pub decimal_of_determined : (n : ℕ) (r s : Decimal) → r ≡ spelled n → s ≡ spelled n → r ≡ s
decimal_of_determined n r s p q = p ∙ sym q

pub hex_of_determined : (a b c d : ℕ) (r s : List ℕ) → r ≡ hex (a ∷ b ∷ c ∷ d ∷ []) → s ≡ hex (a ∷ b ∷ c ∷ d ∷ []) → r ≡ s
hex_of_determined a b c d r s p q = p ∙ sym q
