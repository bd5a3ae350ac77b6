-- What is answered of the book and the lengths.
use Rattle.std.specs.Prelude.{Ok, Err, Bool, true, false, cond, ◌&&◌, List, ◌≡◌, refl, ℕ, eqb, length}
use borrow.Author.Tests.{eq-eqb, ne_eqb}
use Rattle.book.specs.Layout.{state_in}
use Rattle.wellformed.specs.declared.check.BookError.{BookError}
use Rattle.wellformed.specs.declared.check.BookError.TheVariants as Checked
use Rattle.wellformed.specs.Check.{well_formed, checked}
use Rattle.draw.specs.declared.answer.DrawError.TheVariants.{NotWellFormed, Overfull, WrongLength}
use Rattle.draw.specs.Answer.{Done}
use Rattle.draw.specs.Draw.{lent_answer}

pub not_formed : (book : List ℕ) (error : BookError) → checked book ≡ Err error → well_formed book ≡ false
unfolding checked
not_formed book error = by (well_formed book)
  where
    by : (b : Bool) → cond b (Ok (tt {0})) (Err Checked.NotWellFormed) ≡ Err error → b ≡ false
    by true e = cc
    by false e = refl

pub is_formed_lem : (book : List ℕ) (value : Unit {0}) → checked book ≡ Ok value → well_formed book ≡ true
unfolding checked
is_formed_lem book value = by (well_formed book)
  where
    by : (b : Bool) → cond b (Ok (tt {0})) (Err Checked.NotWellFormed) ≡ Ok value → b ≡ true
    by true e = refl
    by false e = cc

module _ (book anchor sample : List ℕ) where
  pub lent_bad : well_formed book ≡ false → Err NotWellFormed ≡ lent_answer book anchor sample
  unfolding lent_answer
  lent_bad w = rw w

  module _ (w : well_formed book ≡ true) where
    pub lent_overfull : eqb (state_in book) 1 ≡ true → Err Overfull ≡ lent_answer book anchor sample
    unfolding lent_answer
    lent_overfull o = rw (w, o)

    module _ (o : eqb (state_in book) 1 ≡ false) where
      pub lent_sample : (length sample ≡ 1024 → ⊥) → Err WrongLength ≡ lent_answer book anchor sample
      unfolding lent_answer
      lent_sample k = rw (w, o, ne_eqb _ _ k) (by (eqb (length anchor) 32))
        where
          by : (a : Bool) → Err WrongLength ≡ cond (a && false) Done (Err WrongLength)
          by true = refl
          by false = refl

      pub lent_anchor : (length anchor ≡ 32 → ⊥) → Err WrongLength ≡ lent_answer book anchor sample
      unfolding lent_answer
      lent_anchor h = rw (w, o, ne_eqb _ _ h)

      pub lent_fine : length anchor ≡ 32 → length sample ≡ 1024 → Done ≡ lent_answer book anchor sample
      unfolding lent_answer
      lent_fine h k = rw (w, o, eq-eqb _ _ h, eq-eqb _ _ k)

pub ruleset lents = (not_formed, is_formed_lem, lent_bad, lent_overfull, lent_sample, lent_anchor, lent_fine)
