-- What an offer to any bytes answers and leaves, by the ways that it can go.
use mathlib.Core.Path.{◌≡◌, refl, sym, ap, ◌∙◌}
use mathlib.Core.Logic.{◌↔◌}
use mathlib.Core.List.{List}
use Prim.Native.Nat.{ℕ, ◌≤◌}
use native.Mathlib.Omega.{arith}
use Rattle.octets.specs.Bytes.{Bytes}
use Rattle.settling.specs.Book.{State, good}
use Rattle.settling.specs.Book as settling
use Rattle.settling.specs.Answer.{outcome}
use Rattle.settling.specs.Meaning.{Sound, Holds, Given, kept, dropped, bursts, already, outside, very, outranked}
use Rattle.settling.proofs.Theorems as theorems
use Rattle.records.specs.Record.{record_of}
use Rattle.book.specs.Layout.{state_in, WellFormed}
use Rattle.book.specs.Lawful.{Lawful}
use Rattle.book.specs.Book.{Book, in_state, read, write}
use Rattle.reserve.specs.Stamps.{stamp_answer}
use Rattle.reserve.specs.Offer.{shape_of, entered}
use Rattle.histories.specs.Histories.{Offer, ByteOffer, after, answer}
use Rattle.histories.specs.Theorems.{Table, not_well_formed, already_overfull, stamp_refused, settles, VeryRecordHeld}
use Rattle.book.proofs.Soundness.{lawful_sound}
use Rattle.book.proofs.Roundtrip.{read_good, read_lawful, write_read, read_write}
use Rattle.reserve.proofs.Stamped.{stamp_fits}
use Rattle.reserve.proofs.Ways.{number_after, bytes_after, Way, ill, burst, unstamped, enters, way, way_ill, way_overfull, way_stamp, way_enters}
use Rattle.histories.proofs.Heard.{lawful_offer}

entered_number : (b : Book) (r : List ℕ) → (entered b r).number ≡ outcome (shape_of b) b.state r
unfolding entered
entered_number b r = refl

entered_bytes : (b : Book) (r : List ℕ) → (entered b r).bytes ≡ write (in_state b (settling.offer (shape_of b) b.state r))
unfolding entered
entered_bytes b r = refl

module _ (batches book : List ℕ) (o : Offer) (byte : Bytes book) (ob : ByteOffer o) where
  abbrev r : List ℕ
  r = record_of o.address o.stamp

  abbrev b : Book
  b = read book

  abbrev verdict : ℕ
  verdict = stamp_answer batches o.address o.stamp o.account

  sound : WellFormed book → Sound (shape_of b) b.state
  sound w = lawful_sound (read book) (read_lawful book byte w)

  module _ (w : WellFormed book) (z : state_in book ≡ 0) (s : verdict ≡ 0) where
    pub enters_number : answer batches book o ≡ outcome (shape_of b) b.state r
    enters_number = ap number_after (way_enters book batches o.address o.stamp o.account w z s) ∙ entered_number b r

    pub enters_bytes : after batches book o ≡ write (in_state b (settling.offer (shape_of b) b.state r))
    enters_bytes = ap bytes_after (way_enters book batches o.address o.stamp o.account w z s) ∙ entered_bytes b r

  by_table : (n : ℕ) → answer batches book o ≡ n → Table batches book o n
  by_table n e = go (way book batches o.address o.stamp o.account byte)
    where
      go : Way book batches o.address o.stamp o.account → Table batches book o n
      go (ill u f) = let m : 13 ≡ n = sym (ap number_after (way_ill book batches o.address o.stamp o.account f)) ∙ e in rw (← m) (not_well_formed u)
      go (burst w z) = let m : 14 ≡ n = sym (ap number_after (way_overfull book batches o.address o.stamp o.account w z)) ∙ e in rw (← m) (already_overfull w z)
      go (unstamped w z k j) =
          let no-pass : verdict ≡ 0 → ⊥ = λ f. omega (arith, k, f) in
          let m : verdict ≡ n = sym (ap number_after (way_stamp book batches o.address o.stamp o.account w z no-pass)) ∙ e in
          stamp_refused n w z m (λ f. omega (arith, k, m, f))
      go (enters w z s) = settles n w z s ((theorems.answers (shape_of b) b.state r n (sound w)).0 (sym (enters_number w z s) ∙ e))

  from_table : (n : ℕ) → Table batches book o n → answer batches book o ≡ n
  from_table n (not_well_formed u) = go (way book batches o.address o.stamp o.account byte)
    where
      go : Way book batches o.address o.stamp o.account → answer batches book o ≡ 13
      go (ill v f) = ap number_after (way_ill book batches o.address o.stamp o.account f)
      go (burst w z) = absurd (u w)
      go (unstamped w z k j) = absurd (u w)
      go (enters w z s) = absurd (u w)
  from_table n (already_overfull w z) = ap number_after (way_overfull book batches o.address o.stamp o.account w z)
  from_table n (stamp_refused m w z e f) = ap number_after (way_stamp book batches o.address o.stamp o.account w z (λ k. f (sym e ∙ k))) ∙ e
  from_table n (settles m w z s g) = enters_number w z s ∙ (theorems.answers (shape_of b) b.state r m (sound w)).1 g

  pub answers_table : (n : ℕ) → (answer batches book o ≡ n) ↔ Table batches book o n
  answers_table n = (by_table n, from_table n)

  -- a number from 10 up
  same_bytes : WellFormed book → write (in_state b b.state) ≡ book
  same_bytes w = write_read book byte w

  pub refused_same : 10 ≤ answer batches book o → after batches book o ≡ book
  refused_same h = go (way book batches o.address o.stamp o.account byte)
    where
      go : Way book batches o.address o.stamp o.account → after batches book o ≡ book
      go (ill u f) = ap bytes_after (way_ill book batches o.address o.stamp o.account f)
      go (burst w z) = ap bytes_after (way_overfull book batches o.address o.stamp o.account w z)
      go (unstamped w z k j) = ap bytes_after (way_stamp book batches o.address o.stamp o.account w z (λ f. omega (arith, k, f)))
      go (enters w z s) =
          let n : 10 ≤ outcome (shape_of b) b.state r = rw (← enters_number w z s) h in
          enters_bytes w z s
          ∙ ap (λ (c : State (List ℕ)). write (in_state b c)) ((theorems.refused_changes_nothing (shape_of b) b.state r (sound w)).0 n)
          ∙ same_bytes w

  pub same_refused : after batches book o ≡ book → 10 ≤ answer batches book o
  same_refused h = go (way book batches o.address o.stamp o.account byte)
    where
      go : Way book batches o.address o.stamp o.account → 10 ≤ answer batches book o
      go (ill u f) = rw (ap number_after (way_ill book batches o.address o.stamp o.account f)) (omega arith)
      go (burst w z) = rw (ap number_after (way_overfull book batches o.address o.stamp o.account w z)) (omega arith)
      go (unstamped w z k j) = rw (ap number_after (way_stamp book batches o.address o.stamp o.account w z (λ f. omega (arith, k, f)))) k
      go (enters w z s) =
          let p : Lawful (in_state b (settling.offer (shape_of b) b.state r)) = lawful_offer b b.state r (stamp_fits batches o.address o.stamp o.account ob.address ob.stamp s) (read_lawful book byte w) in
          let q : in_state b (settling.offer (shape_of b) b.state r) ≡ b = sym (read_write (in_state b (settling.offer (shape_of b) b.state r)) p) ∙ ap read (sym (enters_bytes w z s) ∙ h) in
          rw (enters_number w z s) ((theorems.refused_changes_nothing (shape_of b) b.state r (sound w)).1 (ap (λ (x : Book). x.state) q))

  -- 21
  given_21 : (st : State (List ℕ)) (n : ℕ) → Given (shape_of b) st r n → n ≡ 21 → Holds (shape_of b) st r
  given_21 st n (kept p q) e = absurd (omega arith)
  given_21 st n (dropped p q) e = absurd (omega arith)
  given_21 st n (bursts p q) e = absurd (omega arith)
  given_21 st n (already p) e = absurd (omega arith)
  given_21 st n (outside p) e = absurd (omega arith)
  given_21 st n (very p) e = p
  given_21 st n (outranked p) e = absurd (omega arith)

  pub very_held : answer batches book o ≡ 21 → VeryRecordHeld batches book o
  very_held e = go (way book batches o.address o.stamp o.account byte)
    where
      go : Way book batches o.address o.stamp o.account → VeryRecordHeld batches book o
      go (ill u f) = absurd (omega (arith, ap number_after (way_ill book batches o.address o.stamp o.account f), e))
      go (burst w z) = absurd (omega (arith, ap number_after (way_overfull book batches o.address o.stamp o.account w z), e))
      go (unstamped w z k j) = absurd (omega (arith, ap number_after (way_stamp book batches o.address o.stamp o.account w z (λ f. omega (arith, k, f))), j, e))
      go (enters w z s) =
          let g : Given (shape_of b) b.state r 21 = (theorems.answers (shape_of b) b.state r 21 (sound w)).0 (sym (enters_number w z s) ∙ e) in
          record { formed = w; good = z; stamped = s; held = rw (read_good book z) at (given_21 b.state 21 g refl) }

  pub held_very : VeryRecordHeld batches book o → answer batches book o ≡ 21
  held_very h =
      let there : Holds (shape_of b) b.state r = rw (read_good book h.good) h.held in
      enters_number h.formed h.good h.stamped ∙ (theorems.answers (shape_of b) b.state r 21 (sound h.formed)).1 (very there)
