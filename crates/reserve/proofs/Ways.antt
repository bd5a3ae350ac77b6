-- The ways that an offer to any bytes can go: one equation each.
use mathlib.Core.Path.{◌≡◌, refl, sym, ◌∙◌}
use mathlib.Core.Bool.{Bool, true, false, false≢true}
use mathlib.Core.Logic.{◌⊎◌, inl, inr}
use mathlib.Core.List.{List}
use Prim.Native.Nat.{ℕ, zero, suc, ◌≤◌}
use native.Mathlib.Omega.{arith}
use lib.Dec.{eqb}
use borrow.Author.Tests.{eq-eqb, ne_eqb}
use Rattle.octets.specs.Bytes.{Bytes}
use Rattle.records.specs.Record.{record_of}
use Rattle.book.specs.Layout.{state_in, WellFormed}
use Rattle.book.specs.Book.{read}
use Rattle.wellformed.specs.declared.check.BookError.{BookError}
use Rattle.wellformed.specs.declared.check.BookError.TheVariants.{NotWellFormed}
use Rattle.wellformed.specs.Check.{well_formed}
use Rattle.reserve.specs.Stamps.{stamp_answer}
use Rattle.reserve.specs.Answer.{error_number, of_book}
use Rattle.reserve.specs.Offer.{Ended, refused, entered, offered}
use Rattle.wellformed.proofs.Tested.{said as untested, heard as tested}
use Rattle.reserve.proofs.Stamped.{stamp_range}

-- an offer to what is no book is refused by the number that the book is
pub as_book : (e : BookError) → error_number (of_book e) ≡ 13
as_book NotWellFormed = refl

-- what is handed back, and what is left
abbrev pub number_after : Ended → ℕ
number_after e = e.number

abbrev pub bytes_after : Ended → List ℕ
bytes_after e = e.bytes

-- a good book's state
pub is_good : (s : List ℕ) → WellFormed s → (state_in s ≡ 1 → ⊥) → state_in s ≡ 0
is_good s w h = go (state_in s) w.state h
  where
    go : (n : ℕ) → n ≤ 1 → (n ≡ 1 → ⊥) → n ≡ 0
    go zero k h = refl
    go (suc zero) k h = absurd (h refl)
    go (suc (suc n)) k h = absurd (omega arith)

module _ (book batches address stamp account : List ℕ) where
  pub way_ill : well_formed book ≡ false → offered book batches address stamp account ≡ refused book batches address stamp account 13
  unfolding offered
  way_ill e = rw e

  module _ (formed : WellFormed book) where
    pub way_overfull : state_in book ≡ 1 → offered book batches address stamp account ≡ refused book batches address stamp account 14
    unfolding offered
    way_overfull e = rw (tested book formed, eq-eqb (state_in book) 1 e)

    module _ (fine : state_in book ≡ 0) where
      not_one : eqb (state_in book) 1 ≡ false
      not_one = ne_eqb (state_in book) 1 (λ f. omega (arith, fine, f))

      pub way_stamp : (stamp_answer batches address stamp account ≡ 0 → ⊥) → offered book batches address stamp account ≡ refused book batches address stamp account (stamp_answer batches address stamp account)
      unfolding offered
      way_stamp h = rw (tested book formed, not_one, ne_eqb (stamp_answer batches address stamp account) 0 h)

      pub way_enters : stamp_answer batches address stamp account ≡ 0 → offered book batches address stamp account ≡ entered (read book) (record_of address stamp)
      unfolding offered
      way_enters h = rw (tested book formed, not_one, eq-eqb (stamp_answer batches address stamp account) 0 h)

  pub data Way : Type 0 where
    ill : (WellFormed book → ⊥) → well_formed book ≡ false → Way
    burst : WellFormed book → state_in book ≡ 1 → Way
    unstamped : WellFormed book → state_in book ≡ 0 → 10 ≤ stamp_answer batches address stamp account → stamp_answer batches address stamp account ≤ 19 → Way
    enters : WellFormed book → state_in book ≡ 0 → stamp_answer batches address stamp account ≡ 0 → Way

  pub way : Bytes book → Way
  way h = go (well_formed book) refl stamp_way
    where
      stamp_way : WellFormed book → state_in book ≡ 0 → Way
      stamp_way w z = pick (stamp_range batches address stamp account)
        where
          pick : (stamp_answer batches address stamp account ≡ 0) ⊎ ((10 ≤ stamp_answer batches address stamp account) × (stamp_answer batches address stamp account ≤ 19)) → Way
          pick (inl e) = enters w z e
          pick (inr e) = unstamped w z e.0 e.1

      state_way : WellFormed book → (state_in book ≡ 0 → Way) → (n : ℕ) → state_in book ≡ n → n ≤ 1 → Way
      state_way w f zero e k = f e
      state_way w f (suc zero) e k = burst w e
      state_way w f (suc (suc n)) e k = absurd (omega arith)

      go : (b : Bool) → well_formed book ≡ b → (WellFormed book → state_in book ≡ 0 → Way) → Way
      go false e f = ill (λ w. false≢true (sym e ∙ tested book w)) e
      go true e f = let w = untested book h e in state_way w (f w) (state_in book) refl w.state
