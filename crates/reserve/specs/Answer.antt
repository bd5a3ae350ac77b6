-- The answers of an offer, and document 01's number for each.
use Rattle.std.specs.Prelude.{◌≡◌, refl, cond, ℕ, eqb, Result, Ok, Err}
use Rattle.std.proofs.Common.{sym, ap, ◌∙◌}
use Rattle.answers.specs.Number.{answer_number}
use Rattle.postage.specs.declared.rules.StampError.{StampError}
use Rattle.postage.specs.declared.rules.StampError.TheVariants as Stamp
use Rattle.wellformed.specs.declared.check.BookError.{BookError}
use Rattle.wellformed.specs.declared.check.BookError.TheVariants as Check
use Rattle.reserve.specs.declared.offer.Filed.{Filed}
use Rattle.reserve.specs.declared.offer.Filed.TheVariants.{Kept, Dropped, Burst}
use Rattle.reserve.specs.declared.offer.OfferError.{OfferError}
use Rattle.reserve.specs.declared.offer.OfferError.TheVariants.{WrongLength, NotWellFormed, Overfull, BadList, NoBatch, OtherBucket, IndexPast, NotOwner, Outside, Held, Outranked}

-- of a record that is filed
abbrev pub filed_number : Filed → ℕ
filed_number Kept = 0
filed_number Dropped = 2
filed_number Burst = 3

-- of a refusal
abbrev pub error_number : OfferError → ℕ
error_number WrongLength = 10
error_number NotWellFormed = 13
error_number Overfull = 14
error_number BadList = 15
error_number NoBatch = 16
error_number OtherBucket = 17
error_number IndexPast = 18
error_number NotOwner = 19
error_number Outside = 20
error_number Held = 21
error_number Outranked = 22

abbrev pub offer_number : Result Filed OfferError → ℕ
offer_number = answer_number filed_number error_number

-- what a stamp is refused for, its offer is refused for
abbrev pub of_stamp : StampError → OfferError
of_stamp Stamp.BadList = BadList
of_stamp Stamp.WrongLength = WrongLength
of_stamp Stamp.NoBatch = NoBatch
of_stamp Stamp.OtherBucket = OtherBucket
of_stamp Stamp.IndexPast = IndexPast
of_stamp Stamp.NotOwner = NotOwner

-- and so is any offer to bytes that are no book
abbrev pub of_book : BookError → OfferError
of_book Check.NotWellFormed = NotWellFormed

-- no two answers have one number: each is found again by its own
named : ℕ → Result Filed OfferError
named n =
    cond (eqb n 0) (Ok Kept)
    (cond (eqb n 2) (Ok Dropped)
    (cond (eqb n 3) (Ok Burst)
    (cond (eqb n 10) (Err WrongLength)
    (cond (eqb n 13) (Err NotWellFormed)
    (cond (eqb n 14) (Err Overfull)
    (cond (eqb n 15) (Err BadList)
    (cond (eqb n 16) (Err NoBatch)
    (cond (eqb n 17) (Err OtherBucket)
    (cond (eqb n 18) (Err IndexPast)
    (cond (eqb n 19) (Err NotOwner)
    (cond (eqb n 20) (Err Outside)
    (cond (eqb n 21) (Err Held)
    (Err Outranked)))))))))))))

named_again : (r : Result Filed OfferError) → r ≡ named (offer_number r)
unfolding named
named_again (Ok Kept) = refl
named_again (Ok Dropped) = refl
named_again (Ok Burst) = refl
named_again (Err WrongLength) = refl
named_again (Err NotWellFormed) = refl
named_again (Err Overfull) = refl
named_again (Err BadList) = refl
named_again (Err NoBatch) = refl
named_again (Err OtherBucket) = refl
named_again (Err IndexPast) = refl
named_again (Err NotOwner) = refl
named_again (Err Outside) = refl
named_again (Err Held) = refl
named_again (Err Outranked) = refl

pub one_number_one_answer : (r r' : Result Filed OfferError) → offer_number r ≡ offer_number r' → r ≡ r'
one_number_one_answer r r' e = named_again r ∙ ap named e ∙ sym (named_again r')
