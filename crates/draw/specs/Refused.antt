-- An answer of 1 or from 10 up is a refusal: it hands back zeros for a commitment and leaves every lent byte as it was.
use Rattle.std.specs.Prelude.{Result, Ok, Err, List, [], ◌≡◌, refl, ℕ, replicate}
use Rattle.std.proofs.Common.{◌∙◌, ap, subst}
use Rattle.answers.specs.Number.{digest_or_zeros}
use Rattle.merkle.specs.Refusal.{Refusal, done_is_none}
use Rattle.draw.specs.declared.answer.DrawError.{DrawError}
use Rattle.draw.specs.Answer.{draw_number, and_then, only_done}
use Rattle.sample.specs.Sample.{written, commitment_of}
use Rattle.draw.specs.Draw.{sixteen_drawn, draw_answer, drawn, sample_after}

-- by what is answered: zeros, and the buffer as it was
refused : (a : Result (Unit {0}) DrawError) (hash written sample : List ℕ) → Refusal (draw_number (and_then a (Ok hash)))
    → (digest_or_zeros (and_then a (Ok hash)) ≡ replicate 32 0) × (only_done a written sample ≡ sample)
refused (Ok value) hash written sample h = done_is_none h
refused (Err error) hash written sample h = (refl, refl)

untouched : (a : Result (Unit {0}) DrawError) (done kept : List ℕ) → Refusal (draw_number a) → only_done a done kept ≡ kept
untouched (Ok value) done kept h = done_is_none h
untouched (Err error) done kept h = refl

module _ (book shelf anchor sample : List ℕ) where
  zeros : Refusal (draw_number (drawn book shelf anchor sample)) → digest_or_zeros (drawn book shelf anchor sample) ≡ replicate 32 0
  unfolding drawn
  zeros h = (refused (draw_answer book shelf anchor sample) (commitment_of (sixteen_drawn book shelf anchor)) [] [] h).0

  kept : Refusal (draw_number (drawn book shelf anchor sample)) → sample_after book shelf anchor sample ≡ sample
  unfolding drawn sample_after
  kept h = (refused (draw_answer book shelf anchor sample) (commitment_of (sixteen_drawn book shelf anchor)) (written (sixteen_drawn book shelf anchor)) sample h).1

-- r is the result, and t what stands in the buffer afterwards
pub draw_refused : (book shelf anchor sample : List ℕ) (r : Result (List ℕ) DrawError) (t : List ℕ)
    → r ≡ drawn book shelf anchor sample → t ≡ sample_after book shelf anchor sample
    → Refusal (draw_number r) → (digest_or_zeros r ≡ replicate 32 0) × (t ≡ sample)
draw_refused book shelf anchor sample r t e f h =
    let there = subst (λ (x : Result (List ℕ) DrawError). Refusal (draw_number x)) e h in
    (ap digest_or_zeros e ∙ zeros book shelf anchor sample there, f ∙ kept book shelf anchor sample there)
