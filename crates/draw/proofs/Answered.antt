-- What holds where a hash is drawn.
use mathlib.Core.Bool.{Bool, true, false, cond, ◌&&◌}
use mathlib.Core.Path.{◌≡◌, refl, ap, ◌∙◌}
use mathlib.Core.Logic.{⊎_elim}
use mathlib.Core.List.Memᴰ
use mathlib.Core.List.{List, [], ◌∷◌, map}
use Prim.Native.Nat.{ℕ, ◌≤◌}
use native.Mathlib.Omega.{arith}
use lib.Dec.{eqb, ltb}
use lib.ListN.{length, length-take, length-map}
use borrow.Author.Tests.{ltb-false, eqb-true}
use Rattle.records.specs.Record.{address_in}
use Rattle.book.specs.Layout.{state_in, count_in, records_in}
use Rattle.wellformed.specs.Check.{well_formed}
use Rattle.book.proofs.Cuts.{counted}
use Rattle.std.specs.Prelude.{Result, Ok, Err}
use Rattle.answers.specs.Number.{digest_or_zeros}
use Rattle.draw.specs.declared.answer.DrawError.{DrawError}
use Rattle.draw.specs.declared.answer.DrawError.TheVariants.{NotWellFormed, Overfull, WrongLength, TooFew}
use Rattle.draw.specs.Answer.{Done, only_done, and_then}
use Rattle.shelf.specs.Cell.{Cell, pair_of}
use Rattle.shelf.proofs.Pairs.{pair_length}
use Rattle.draw.specs.Shelf.{shelf_answer}
use Rattle.sample.specs.Sample.{gathered, sixteen, written, commitment_of}
use Rattle.draw.specs.Draw.{addresses_in, cells_drawn, pairs_drawn, sixteen_drawn, lent_answer, draw_answer, drawn, sample_after}
use Rattle.draw.proofs.Shelves.{both_done}
use Rattle.sample.proofs.Gathering.{take_member, all_from}
use Rattle.sample.proofs.Laying.{Sized}

pub record Lent (book anchor sample : List ℕ) : Type 0 where
  pub formed : well_formed book ≡ true
  pub anchor32 : length anchor ≡ 32
  pub sample1024 : length sample ≡ 1024

pub lent_done : (book anchor sample : List ℕ) → lent_answer book anchor sample ≡ Done → Lent book anchor sample
unfolding lent_answer
lent_done book anchor sample = by (well_formed book) (eqb (state_in book) 1) (eqb (length anchor) 32) (eqb (length sample) 1024) refl refl refl
  where
    by : (w o a s : Bool) → well_formed book ≡ w → eqb (length anchor) 32 ≡ a → eqb (length sample) 1024 ≡ s
        → cond w (cond o (Err Overfull) (cond (a && s) Done (Err WrongLength))) (Err NotWellFormed) ≡ Done → Lent book anchor sample
    by true true a s w x y e = cc
    by true false true true w x y e = record { formed = w; anchor32 = eqb-true _ _ x; sample1024 = eqb-true _ _ y }
    by true false true false w x y e = cc
    by true false false s w x y e = cc
    by false o a s w x y e = cc

pub record Good (book shelf anchor sample : List ℕ) : Type 0 where
  pub lent : Lent book anchor sample
  pub read : shelf_answer 0 (addresses_in book) shelf ≡ Done
  pub enough : length (sixteen_drawn book shelf anchor) ≡ 16

most : (pairs : List (List ℕ)) → length (sixteen pairs) ≤ 16
unfolding sixteen
most pairs = omega (arith, length-take 16 (gathered [] pairs))

pub sixteen_most : (book shelf anchor : List ℕ) → length (sixteen_drawn book shelf anchor) ≤ 16
unfolding sixteen_drawn
sixteen_most book shelf anchor = most (pairs_drawn book shelf anchor)

pub draw_good : (book shelf anchor sample : List ℕ) → draw_answer book shelf anchor sample ≡ Done → Good book shelf anchor sample
unfolding draw_answer
draw_good book shelf anchor sample e =
    let few = cond (ltb (length (sixteen_drawn book shelf anchor)) 16) (Err TooFew) Done in
    let first = both_done (lent_answer book anchor sample) (and_then (shelf_answer 0 (addresses_in book) shelf) few) e in
    let second = both_done (shelf_answer 0 (addresses_in book) shelf) few first.1 in
    record {
      lent = lent_done book anchor sample first.0;
      read = second.0;
      enough = by (ltb (length (sixteen_drawn book shelf anchor)) 16) refl second.1;
    }
  where
    by : (b : Bool) → ltb (length (sixteen_drawn book shelf anchor)) 16 ≡ b → cond b (Err TooFew) Done ≡ Done → length (sixteen_drawn book shelf anchor) ≡ 16
    by true h k = cc
    by false h k = omega (arith, ltb-false (length (sixteen_drawn book shelf anchor)) 16 h, sixteen_most book shelf anchor)

-- ---- what is handed back then

pub drawn_commitment : (book shelf anchor sample : List ℕ) → draw_answer book shelf anchor sample ≡ Done
    → digest_or_zeros (drawn book shelf anchor sample) ≡ commitment_of (sixteen_drawn book shelf anchor)
unfolding drawn
drawn_commitment book shelf anchor sample e = ap (λ (a : Result (Unit {0}) DrawError). digest_or_zeros (and_then a (Ok (commitment_of (sixteen_drawn book shelf anchor))))) e

pub drawn_sample : (book shelf anchor sample : List ℕ) → draw_answer book shelf anchor sample ≡ Done
    → sample_after book shelf anchor sample ≡ written (sixteen_drawn book shelf anchor)
unfolding sample_after
drawn_sample book shelf anchor sample e = ap (λ (a : Result (Unit {0}) DrawError). only_done a (written (sixteen_drawn book shelf anchor)) sample) e

-- ---- lengths

pub addresses_length : (book : List ℕ) → length (addresses_in book) ≡ count_in book
addresses_length book = length-map (records_in book) address_in ∙ counted book

cells_sized : (anchor : List ℕ) (cells : List Cell) → Sized (map (pair_of anchor) cells)
cells_sized anchor [] p m = absurd (Memᴰ.not-nil m)
cells_sized anchor (c ∷ cells) p m = ⊎_elim (λ e. ap length e ∙ pair_length anchor c) (λ k. cells_sized anchor cells p k) (Memᴰ.cases_cons m)

pub sixteen_sized : (book shelf anchor : List ℕ) → Sized (sixteen_drawn book shelf anchor)
unfolding sixteen_drawn sixteen pairs_drawn
sixteen_sized book shelf anchor p m =
    let pairs = map (pair_of anchor) (cells_drawn book shelf) in
    cells_sized anchor (cells_drawn book shelf) p (all_from pairs p (take_member 16 (gathered [] pairs) p m))
