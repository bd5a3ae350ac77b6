-- Each contract of the C face allows one result.
use Rattle.std.specs.Prelude.{List, [], ◌≡◌, ℕ, length}
use Rattle.std.proofs.Common.{◌∙◌, sym}
use Rattle.keccak.specs.declared.sponge.Sponge.{Sponge}
use Rattle.keccak.specs.Hash.{keccak256}
use Rattle.keccak.specs.Sponge.{fresh, usable, absorbed, finished}
use Rattle.chunk.specs.Answer.{addressed, anchored_addressed}
use Rattle.proving.specs.Answer.{made_number, made, written}
use Rattle.verifying.specs.Answer.{checked_number, checked}
use Rattle.merkle.specs.Segment.{segment_count, segment_start, segment_of}
use Rattle.merkle.specs.Proof.{proof_of}
use Rattle.nearness.specs.Near.{nearness_of}
use Rattle.signing.specs.Digest.{stamp_digest}
use Rattle.postage.specs.Rules.{stamp_number, checked as stampChecked}
use Rattle.opening.specs.Open.{open_answer, open_bytes, open_number}
use Rattle.wellformed.specs.Check.{checked as bookChecked, book_number}
use Rattle.records.specs.Choice.{choice}
use Rattle.reserve.specs.Offer.{Ended, offered}
use Rattle.draw.specs.Draw.{drawn, sample_after}
use Rattle.ramekinfold.specs.declared.hashing.Digested.{Digested}
use Rattle.ramekinfold.specs.declared.chunks.Part.{Part}
use Rattle.ramekinfold.specs.declared.places.Numbered.{Numbered}
use Rattle.ramekinfold.specs.declared.draws.Drawn.{Drawn}
use Rattle.ramekinfold.specs.Digested.{digested, of_addressed, of_stamp_digested}
use Rattle.ramekinfold.specs.Part.{part, of_choice}
use Rattle.ramekinfold.specs.Numbered.{of_near}
use Rattle.ramekinfold.specs.Drawn.{of_drawn}

-- ---- hashing

pub rkf_keccak256_determined : (message : List ℕ) (r s : Digested) → r ≡ digested 0 (keccak256 message) → s ≡ digested 0 (keccak256 message) → r ≡ s
rkf_keccak256_determined message r s p q = p ∙ sym q

pub rkf_sponge_determined : (r s : Sponge) → r ≡ fresh → s ≡ fresh → r ≡ s
rkf_sponge_determined r s p q = p ∙ sym q

pub rkf_absorb_determined : (sponge : Sponge) (part : List ℕ) (r s : Sponge) → r ≡ absorbed (usable sponge) part → s ≡ absorbed (usable sponge) part → r ≡ s
rkf_absorb_determined sponge part r s p q = p ∙ sym q

pub rkf_finish_determined : (sponge : Sponge) (r s : Digested) → r ≡ digested 0 (finished (usable sponge)) → s ≡ digested 0 (finished (usable sponge)) → r ≡ s
rkf_finish_determined sponge r s p q = p ∙ sym q

-- ---- chunks

pub rkf_address_determined : (span chunk : List ℕ) (r s : Digested) → r ≡ of_addressed (addressed [] span chunk) → s ≡ of_addressed (addressed [] span chunk) → r ≡ s
rkf_address_determined span chunk r s p q = p ∙ sym q

pub rkf_anchored_address_determined : (anchor span chunk : List ℕ) (r s : Digested)
    → r ≡ of_addressed (anchored_addressed anchor span chunk) → s ≡ of_addressed (anchored_addressed anchor span chunk) → r ≡ s
rkf_anchored_address_determined anchor span chunk r s p q = p ∙ sym q

pub rkf_segment_count_determined : (chunk : List ℕ) (r s : ℕ) → r ≡ segment_count (length chunk) → s ≡ segment_count (length chunk) → r ≡ s
rkf_segment_count_determined chunk r s p q = p ∙ sym q

pub rkf_segment_determined : (chunk : List ℕ) (index : ℕ) (r s : Part)
    → r ≡ part (segment_start (length chunk) index) (length (segment_of chunk index)) → s ≡ part (segment_start (length chunk) index) (length (segment_of chunk index)) → r ≡ s
rkf_segment_determined chunk index r s p q = p ∙ sym q

-- the answer, and the lent bytes afterwards
pub rkf_make_proof_determined : (span chunk : List ℕ) (index : ℕ) (proof : List ℕ) (r s : ℕ) (after again : List ℕ)
    → (r ≡ made_number (made span chunk index proof)) × (after ≡ written (made span chunk index proof) (proof_of [] span chunk index) proof)
    → (s ≡ made_number (made span chunk index proof)) × (again ≡ written (made span chunk index proof) (proof_of [] span chunk index) proof)
    → (r ≡ s) × (after ≡ again)
rkf_make_proof_determined span chunk index proof r s after again p q = (p.0 ∙ sym q.0, p.1 ∙ sym q.1)

pub rkf_check_proof_determined : (address : List ℕ) (index : ℕ) (proof : List ℕ) (r s : ℕ)
    → r ≡ checked_number (checked [] address index proof) → s ≡ checked_number (checked [] address index proof) → r ≡ s
rkf_check_proof_determined address index proof r s p q = p ∙ sym q

-- ---- where a chunk belongs

pub rkf_nearness_determined : (first second : List ℕ) (r s : Numbered) → r ≡ of_near (nearness_of first second) → s ≡ of_near (nearness_of first second) → r ≡ s
rkf_nearness_determined first second r s p q = p ∙ sym q

pub rkf_stamp_digest_determined : (address stamp : List ℕ) (r s : Digested) → r ≡ of_stamp_digested (stamp_digest address stamp) → s ≡ of_stamp_digested (stamp_digest address stamp) → r ≡ s
rkf_stamp_digest_determined address stamp r s p q = p ∙ sym q

pub rkf_check_stamp_determined : (batches address stamp account : List ℕ) (r s : ℕ)
    → r ≡ stamp_number (stampChecked batches address stamp account) → s ≡ stamp_number (stampChecked batches address stamp account) → r ≡ s
rkf_check_stamp_determined batches address stamp account r s p q = p ∙ sym q

-- ---- books, and a draw from one: the answer, and the lent bytes afterwards where any may be written

pub rkf_open_determined : (book overlay : List ℕ) (capacity starting : ℕ) (r s : ℕ) (after again : List ℕ)
    → (r ≡ open_number (open_answer book overlay capacity starting)) × (after ≡ open_bytes book overlay capacity starting)
    → (s ≡ open_number (open_answer book overlay capacity starting)) × (again ≡ open_bytes book overlay capacity starting)
    → (r ≡ s) × (after ≡ again)
rkf_open_determined book overlay capacity starting r s after again p q = (p.0 ∙ sym q.0, p.1 ∙ sym q.1)

pub rkf_check_book_determined : (book : List ℕ) (r s : ℕ) → r ≡ book_number (bookChecked book) → s ≡ book_number (bookChecked book) → r ≡ s
rkf_check_book_determined book r s p q = p ∙ sym q

pub rkf_higher_determined : (first second : List ℕ) (r s : Part) → r ≡ of_choice (choice first second) → s ≡ of_choice (choice first second) → r ≡ s
rkf_higher_determined first second r s p q = p ∙ sym q

module _ (book batches address stamp account : List ℕ) where
  abbrev ended : Ended
  ended = offered book batches address stamp account

  pub rkf_offer_determined : (r s : ℕ) (after again : List ℕ)
      → (r ≡ ended.number) × (after ≡ ended.bytes) → (s ≡ ended.number) × (again ≡ ended.bytes) → (r ≡ s) × (after ≡ again)
  rkf_offer_determined r s after again p q = (p.0 ∙ sym q.0, p.1 ∙ sym q.1)

pub rkf_draw_determined : (book shelf anchor sample : List ℕ) (r s : Drawn) (after again : List ℕ)
    → (r ≡ of_drawn (drawn book shelf anchor sample)) × (after ≡ sample_after book shelf anchor sample)
    → (s ≡ of_drawn (drawn book shelf anchor sample)) × (again ≡ sample_after book shelf anchor sample)
    → (r ≡ s) × (after ≡ again)
rkf_draw_determined book shelf anchor sample r s after again p q = (p.0 ∙ sym q.0, p.1 ∙ sym q.1)
