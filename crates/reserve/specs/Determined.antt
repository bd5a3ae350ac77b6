-- Each contract determines its function: two results, or two buffers at exit, that it allows are equal.
use Rattle.std.specs.Prelude.{◌≡◌, List, ℕ, Result}
use Rattle.std.proofs.Common.{sym, ◌∙◌}
use Rattle.reserve.specs.declared.offer.Filed.{Filed}
use Rattle.reserve.specs.declared.offer.OfferError.{OfferError}
use Rattle.reserve.specs.Answer.{error_number, filed_number, offer_number, one_number_one_answer}
use Rattle.reserve.specs.Offer.{Ended, offered}

pub offer_answer_determined : (a : Result Filed OfferError) (r r' : ℕ) → r ≡ offer_number a → r' ≡ offer_number a → r ≡ r'
offer_answer_determined a r r' p q = p ∙ sym q

pub filed_number_determined : (filed : Filed) (r r' : ℕ) → r ≡ filed_number filed → r' ≡ filed_number filed → r ≡ r'
filed_number_determined filed r r' p q = p ∙ sym q

pub error_number_determined : (error : OfferError) (r r' : ℕ) → r ≡ error_number error → r' ≡ error_number error → r ≡ r'
error_number_determined error r r' p q = p ∙ sym q

module _ (book batches address stamp account : List ℕ) where
  abbrev ended : Ended
  ended = offered book batches address stamp account

  -- no two answers have one number
  pub offer_determined : (r r' : Result Filed OfferError) (t t' : List ℕ)
      → (offer_number r ≡ ended.number) × (t ≡ ended.bytes) → (offer_number r' ≡ ended.number) × (t' ≡ ended.bytes) → (r ≡ r') × (t ≡ t')
  offer_determined r r' t t' p q = (one_number_one_answer r r' (p.0 ∙ sym q.0), p.1 ∙ sym q.1)
