-- Each contract of this crate allows one result, and one content of the lent bytes afterwards.
use Rattle.std.specs.Prelude.{Result, List, ◌≡◌, ℕ}
use Rattle.std.proofs.Common.{◌∙◌, sym}
use Rattle.draw.specs.declared.answer.DrawError.{DrawError}
use Rattle.draw.specs.Answer.{error_number, draw_number, draw_place}
use Rattle.draw.specs.Draw.{drawn, sample_after}

-- r and s are results, t and u what stands in the buffer afterwards
pub draw_determined : (book shelf anchor sample : List ℕ) (r s : Result (List ℕ) DrawError) (t u : List ℕ)
    → r ≡ drawn book shelf anchor sample → t ≡ sample_after book shelf anchor sample
    → s ≡ drawn book shelf anchor sample → u ≡ sample_after book shelf anchor sample
    → (r ≡ s) × (t ≡ u)
draw_determined book shelf anchor sample r s t u p a q b = (p ∙ sym q, a ∙ sym b)

pub draw_number_determined : (answer : Result (List ℕ) DrawError) (r s : ℕ) → r ≡ draw_number answer → s ≡ draw_number answer → r ≡ s
draw_number_determined answer r s p q = p ∙ sym q

pub draw_place_determined : (answer : Result (List ℕ) DrawError) (r s : ℕ) → r ≡ draw_place answer → s ≡ draw_place answer → r ≡ s
draw_place_determined answer r s p q = p ∙ sym q

pub error_number_determined : (error : DrawError) (r r' : ℕ) → r ≡ error_number error → r' ≡ error_number error → r ≡ r'
error_number_determined error r r' p q = p ∙ sym q
