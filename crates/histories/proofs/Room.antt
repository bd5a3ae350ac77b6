-- Room in a good book is used.
use mathlib.Core.Path.{◌≡◌, refl, sym, ap, ◌∙◌, subst}
use mathlib.Core.Logic.{inl, inr}
use mathlib.Core.List.{List}
use Prim.Native.Nat.{ℕ, suc, ◌≤◌, ◌<◌}
use lib.ListN.{length}
use Rattle.octets.specs.Bytes.{Bytes}
use Rattle.settling.specs.Book.{State, good}
use Rattle.settling.specs.Book as settling
use Rattle.settling.specs.Answer.{outcome}
use Rattle.settling.specs.Meaning.{Sound, Added}
use Rattle.settling.proofs.Theorems as theorems
use Rattle.records.specs.Record.{slot, near_of, record_of, Fitting}
use Rattle.book.specs.Layout.{depth_in, overlay_in, capacity_in, records_in, WellFormed}
use Rattle.book.specs.Lawful.{Lawful}
use Rattle.book.specs.Book.{Book, in_state, read, write}
use Rattle.reserve.specs.Offer.{shape_of}
use Rattle.histories.specs.Histories.{Offer, ByteOffer, after, answer}
use Rattle.histories.specs.Theorems.{Roomy, AddedTo}
use Rattle.book.proofs.Cuts.{counted}
use Rattle.book.proofs.Slots.{near_inside}
use Rattle.book.proofs.Soundness.{lawful_sound}
use Rattle.book.proofs.Roundtrip.{read_good, read_lawful, write_well_formed, read_write}
use Rattle.reserve.proofs.Stamped.{stamp_fits, stamp_address}
use Rattle.histories.proofs.Heard.{lawful_offer, flag_there}
use Rattle.histories.proofs.Answered.{enters_number, enters_bytes}

pub depth_there : (b : Book) (d : ℕ) (l : List (List ℕ)) → depth_in (write (in_state b (good d l))) ≡ d
unfolding write
depth_there b d l = refl

good_records : (d e : ℕ) (l m : List (List ℕ)) → ◌≡◌ {A = State (List ℕ)} (good d l) (good e m) → l ≡ m
good_records d e l m q = cc

-- the records of a good book's bytes
pub records_there : (b : Book) (d : ℕ) (l : List (List ℕ)) → Lawful (in_state b (good d l)) → records_in (write (in_state b (good d l))) ≡ l
records_there b d l p =
    let s = write (in_state b (good d l)) in
    good_records (depth_in s) d (records_in s) l (sym (read_good s (flag_there (in_state b (good d l)))) ∙ ap (λ (x : Book). x.state) (read_write (in_state b (good d l)) p))

module _ (batches book : List ℕ) (o : Offer) (byte : Bytes book) (ob : ByteOffer o) (v : Roomy batches book o) where
  abbrev r : List ℕ
  r = record_of o.address o.stamp

  abbrev b : Book
  b = read book

  fits : Fitting r
  fits = stamp_fits batches o.address o.stamp o.account ob.address ob.stamp v.stamped

  state : b.state ≡ good (depth_in book) (records_in book)
  state = read_good book v.good

  sound : Sound (shape_of b) (good (depth_in book) (records_in book))
  sound = subst (Sound (shape_of b)) state (lawful_sound (read book) (read_lawful book byte v.formed))

  near_enough : depth_in book ≤ near_of (overlay_in book) (slot r)
  near_enough =
      near_inside (overlay_in book) r fits (depth_in book) v.formed.depth
      (rw (stamp_address batches o.address o.stamp o.account v.stamped) v.inside)

  added : Added (shape_of b) (depth_in book) (records_in book) r
  unfolding read
  added =
      let few : length (records_in book) < capacity_in book = rw (counted book) v.room in
      theorems.room_is_used (shape_of b) (depth_in book) (records_in book) r sound near_enough v.vacant few

  ends : after batches book o ≡ write (in_state b (good (depth_in book) added.list))
  ends =
      enters_bytes batches book o byte ob v.formed v.good v.stamped
      ∙ ap (λ (c : State (List ℕ)). write (in_state b c)) (ap (λ (c : State (List ℕ)). settling.offer (shape_of b) c r) state ∙ added.ends)

  proper : Lawful (in_state b (good (depth_in book) added.list))
  proper =
      subst (λ c. Lawful (in_state b c)) (ap (λ (c : State (List ℕ)). settling.offer (shape_of b) c r) state ∙ added.ends)
      (lawful_offer b b.state r fits (read_lawful book byte v.formed))

  records : records_in (after batches book o) ≡ added.list
  records = ap records_in ends ∙ records_there b (depth_in book) added.list proper

  pub room_used : AddedTo batches book o
  room_used =
      record {
        number = enters_number batches book o byte ob v.formed v.good v.stamped ∙ ap (λ (c : State (List ℕ)). outcome (shape_of b) c r) state ∙ added.answer;
        formed = subst WellFormed (sym ends) (write_well_formed (in_state b (good (depth_in book) added.list)) proper).0;
        depth = ap depth_in ends ∙ depth_there b (depth_in book) added.list;
        count = sym (counted (after batches book o)) ∙ ap length records ∙ added.one_more ∙ ap suc (counted book);
        held = rw records ((added.members r).1 (inl refl));
        still = λ x m. rw records ((added.members x).1 (inr m));
      }
