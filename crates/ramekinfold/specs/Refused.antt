-- An answer of 1 or from 10 up is a refusal: it leaves every lent byte as it was, and hands back zeros for a commitment. The calls of
-- books and the draw; those of chunks and stamps have their own in crates/chunk and crates/signing.
use Rattle.std.specs.Prelude.{Result, Ok, Err, List, ◌≡◌, refl, ℕ, ◌≤◌, replicate}
use Rattle.std.proofs.Common.{inl, inr, ◌∙◌, sym, ap, subst, arith}
use Rattle.octets.specs.Bytes.{Bytes}
use Rattle.merkle.specs.Refusal.{Refusal}
use Rattle.postage.specs.declared.rules.StampError.{StampError}
use Rattle.postage.specs.declared.rules.StampError.TheVariants.{BadList, WrongLength, NoBatch, OtherBucket, IndexPast, NotOwner}
use Rattle.postage.specs.Rules.{stamp_number, checked}
use Rattle.settling.specs.Meaning.{Given, kept, dropped, bursts, already, outside, very, outranked}
use Rattle.opening.specs.declared.open.OpenError.{OpenError}
use Rattle.opening.specs.declared.open.OpenError.TheVariants as Opening
use Rattle.opening.specs.Open.{open_answer, open_bytes, open_number}
use Rattle.opening.specs.Determined.{open_refused}
use Rattle.book.specs.Book.{read}
use Rattle.records.specs.Record.{record_of}
use Rattle.reserve.specs.Stamps.{stamp_answer}
use Rattle.reserve.specs.Offer.{shape_of}
use Rattle.histories.specs.Histories.{Offer, ByteOffer, answer, after}
use Rattle.histories.specs.Theorems.{Table, not_well_formed, already_overfull, stamp_refused, settles}
use Rattle.histories.proofs.Theorems.{answers, refused_changes_nothing}
use Rattle.draw.specs.Draw.{drawn, sample_after}
use Rattle.draw.specs.Refused.{draw_refused}
use Rattle.ramekinfold.specs.declared.draws.Drawn.{Drawn}
use Rattle.ramekinfold.specs.Drawn.{of_drawn}

-- ---- opening: r is the answer, and t what stands in the buffer afterwards

pub rkf_open_refused : (book overlay : List ℕ) (capacity starting : ℕ) (r : ℕ) (t : List ℕ)
    → r ≡ open_number (open_answer book overlay capacity starting) → t ≡ open_bytes book overlay capacity starting → Refusal r → t ≡ book
rkf_open_refused book overlay capacity starting r t e f h =
    f ∙ open_refused book overlay capacity starting (from_ten (open_answer book overlay capacity starting) (subst Refusal e h))
  where
    from_ten : (a : Result (Unit {0}) OpenError) → Refusal (open_number a) → 10 ≤ open_number a
    from_ten a (inr h) = h
    from_ten (Ok done) (inl h) = absurd (omega arith)
    from_ten (Err Opening.OutOfRange) (inl h) = absurd (omega arith)
    from_ten (Err Opening.WrongLength) (inl h) = absurd (omega arith)

-- ---- an offer, which never answers 1

stamped_not_one : (a : Result (Unit {0}) StampError) → stamp_number a ≡ 1 → ⊥
stamped_not_one (Ok done) e = absurd (omega arith)
stamped_not_one (Err BadList) e = absurd (omega arith)
stamped_not_one (Err WrongLength) e = absurd (omega arith)
stamped_not_one (Err NoBatch) e = absurd (omega arith)
stamped_not_one (Err OtherBucket) e = absurd (omega arith)
stamped_not_one (Err IndexPast) e = absurd (omega arith)
stamped_not_one (Err NotOwner) e = absurd (omega arith)

module _ (batches book : List ℕ) (o : Offer) where
  settled_not_one : (n : ℕ) → Given (shape_of (read book)) (read book).state (record_of o.address o.stamp) n → n ≡ 1 → ⊥
  settled_not_one n (kept p q) e = absurd (omega arith)
  settled_not_one n (dropped p q) e = absurd (omega arith)
  settled_not_one n (bursts p q) e = absurd (omega arith)
  settled_not_one n (already p) e = absurd (omega arith)
  settled_not_one n (outside p) e = absurd (omega arith)
  settled_not_one n (very p) e = absurd (omega arith)
  settled_not_one n (outranked p) e = absurd (omega arith)

  not_one : (n : ℕ) → Table batches book o n → n ≡ 1 → ⊥
  unfolding stamp_answer
  not_one n (not_well_formed p) e = absurd (omega arith)
  not_one n (already_overfull p q) e = absurd (omega arith)
  not_one n (stamp_refused m p q s d) e = stamped_not_one (checked batches o.address o.stamp o.account) (s ∙ e)
  not_one n (settles m p q s g) e = settled_not_one n g e

pub rkf_offer_refused : (book batches : List ℕ) (o : Offer) (r : ℕ) (t : List ℕ) → Bytes book → ByteOffer o
    → r ≡ answer batches book o → t ≡ after batches book o → Refusal r → t ≡ book
rkf_offer_refused book batches o r t byte ob e f (inr h) = f ∙ (refused_changes_nothing batches book o byte ob).0 (rw (← e) h)
rkf_offer_refused book batches o r t byte ob e f (inl h) = absurd (not_one batches book o 1 ((answers batches book o 1 byte ob).0 (sym e ∙ h)) refl)

-- ---- the draw: r is the result, and t what stands in the buffer afterwards

pub rkf_draw_refused : (book shelf anchor sample : List ℕ) (r : Drawn) (t : List ℕ)
    → r ≡ of_drawn (drawn book shelf anchor sample) → t ≡ sample_after book shelf anchor sample
    → Refusal r.answer → (r.commitment ≡ replicate 32 0) × (t ≡ sample)
rkf_draw_refused book shelf anchor sample r t e f h =
    let below = draw_refused book shelf anchor sample (drawn book shelf anchor sample) t refl f (subst (λ (x : Drawn). Refusal x.answer) e h) in
    (ap (λ (x : Drawn). x.commitment) e ∙ below.0, below.1)
