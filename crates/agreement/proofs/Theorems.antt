-- The sentences of specs/Theorems.antt, proved.
use mathlib.Core.Path.{◌≡◌, refl, sym, ap, ◌∙◌}
use mathlib.Core.Logic.{⊎_elim}
use mathlib.Core.List.Memᴰ
use mathlib.Core.List.{List}
use Prim.Native.Nat.{ℕ}
use Rattle.settling.specs.Meaning.{Each}
use Rattle.settling.proofs.Members.{each_member}
use Rattle.histories.specs.Histories.{Offer, ByteOffer, heard, opened}
use Rattle.histories.proofs.Theorems.{same_members_same_bytes}
use Rattle.draw.specs.Draw.{addresses_in}
use Rattle.draw.proofs.Theorems.{one_anchor_one_hash, one_hash_one_sample}
use Rattle.agreement.specs.Theorems.{Became, SameOffersSameBytes, EveryOpening, OrderAndRepeats, SameOffersSameHash, SameHashSamePairs, TheSample, Demand3}
use Rattle.agreement.proofs.Fresh.{fresh_bytes, fresh_openable, opens_within, each_of}
use Rattle.agreement.proofs.Drawn.{got_drawn, sampled}

pub became : (overlay : List ℕ) (capacity starting : ℕ) (batches : List ℕ) (s : List Offer) (book : List ℕ)
    → Became overlay capacity starting batches s book → book ≡ heard batches (opened overlay capacity starting) s
became overlay capacity starting batches s book h =
    h.end ∙ ap (λ (b : List ℕ). heard batches b s) (fresh_bytes h.buffer overlay capacity starting h.opened)

pub same_offers_same_bytes : SameOffersSameBytes
same_offers_same_bytes overlay capacity starting batches s t book book' byte bs h k same =
    let bt : Each ByteOffer t = each_of ByteOffer t (λ o m. each_member ByteOffer o s bs (same.back o m)) in
    became overlay capacity starting batches s book h
    ∙ same_members_same_bytes overlay capacity starting batches s t (fresh_openable h.buffer overlay capacity starting h.opened byte) bs bt
    (λ o r e m. same.there o m) (λ o r e m. same.back o m)
    ∙ sym (became overlay capacity starting batches t book' k)

pub every_opening : EveryOpening
every_opening overlay capacity starting batches s buffer p q r h k =
    record { buffer = buffer; opened = opens_within buffer overlay capacity starting p q r h k; end = refl }

pub order_and_repeats : OrderAndRepeats
order_and_repeats s t = record {
  there = λ o m. Memᴰ.append_right t m;
  back = λ o m. ⊎_elim (λ k. Memᴰ.append_right s k) (λ k. k) (Memᴰ.append_cases t m);
}

pub same_offers_same_hash : SameOffersSameHash
same_offers_same_hash overlay capacity starting batches s t book book' byte bs h k same shelf shelf' anchor sample sample' e f =
    one_anchor_one_hash book shelf sample book' shelf' sample' anchor
    (ap addresses_in (same_offers_same_bytes overlay capacity starting batches s t book book' byte bs h k same))
    (got_drawn book shelf anchor sample e) (got_drawn book' shelf' anchor sample' f)

pub same_hash_same_pairs : SameHashSamePairs
same_hash_same_pairs book shelf anchor sample book' shelf' anchor' sample' e f =
    one_hash_one_sample book shelf anchor sample book' shelf' anchor' sample'
    (got_drawn book shelf anchor sample e) (got_drawn book' shelf' anchor' sample' f)

pub the_sample : TheSample
the_sample book shelf anchor sample e = sampled book shelf anchor sample (got_drawn book shelf anchor sample e)

pub demand_3 : Demand3
demand_3 = record {
  same_bytes = same_offers_same_bytes;
  same_hash = same_offers_same_hash;
  same_pairs = same_hash_same_pairs;
  sample = the_sample;
}
