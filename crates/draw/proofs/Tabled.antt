-- What a draw answers, by the rows of document 01's table: every input has a row, and the row's number and place are the answer's.
use mathlib.Core.Bool.{Bool, true, false, cond, ◌&&◌, false≢true}
use mathlib.Core.Path.{◌≡◌, refl, sym, ap, ◌∙◌}
use mathlib.Core.Logic.{◌⊎◌, ◌↔◌, inl, inr}
use mathlib.Core.List.{List, []}
use Prim.Native.Nat.{ℕ, zero, suc, ◌≤◌, ◌<◌}
use native.Mathlib.Decide.{dec_le, ℕ_discrete}
use native.Mathlib.Omega.{arith}
use lib.Dec.{eqb, ltb}
use lib.ListN.{length, get_or, drop, drop_of_length-le}
use borrow.Author.Tests.{lt-ltb, le-ltb, eq-eqb, ne_eqb}
use Rattle.octets.specs.Bytes.{Bytes}
use Rattle.book.specs.Layout.{state_in, count_in, WellFormed}
use Rattle.wellformed.specs.Check.{well_formed}
use Rattle.wellformed.proofs.Tested.{said as untested, heard as tested}
use Rattle.std.specs.Prelude.{Result, Err}
use Rattle.draw.specs.declared.answer.DrawError.{DrawError}
use Rattle.draw.specs.declared.answer.DrawError.TheVariants.{NotWellFormed, Overfull, WrongLength, Left, TooFew}
use Rattle.draw.specs.Answer.{Done, draw_number, and_then}
use Rattle.draw.specs.Shelf.{shelf_answer}
use Rattle.draw.specs.Draw.{addresses_in, pairs_drawn, sixteen_drawn, lent_answer, draw_answer}
use Rattle.draw.specs.Theorems.{shelf_from, SixteenAmong, Ready, AllSound, DrawTable, not_well_formed, already_overfull, wrong_length, wrong_cell, bytes_left, too_few, done}
use Rattle.draw.proofs.Answered.{addresses_length, sixteen_most}
use Rattle.draw.proofs.Different.{enough_among, among_enough}
use Rattle.draw.proofs.Judging.{Says, says_as, stops, wrong_refused, past, shelf_wrong, Walked, wrong_at, through, walked}

-- ---- before the shelf

module _ (book anchor sample : List ℕ) where
  lent_ill : Bytes book → (WellFormed book → ⊥) → lent_answer book anchor sample ≡ Err NotWellFormed
  unfolding lent_answer
  lent_ill byte never = rw (go (well_formed book) refl)
    where
      go : (b : Bool) → well_formed book ≡ b → b ≡ false
      go true e = absurd (never (untested book byte e))
      go false e = refl

  lent_overfull : WellFormed book → state_in book ≡ 1 → lent_answer book anchor sample ≡ Err Overfull
  unfolding lent_answer
  lent_overfull w e = rw (tested book w, eq-eqb (state_in book) 1 e)

  not_one : state_in book ≡ 0 → eqb (state_in book) 1 ≡ false
  not_one z = ne_eqb (state_in book) 1 (λ e. omega (arith, z, e))

  lent_length : WellFormed book → state_in book ≡ 0 → (length anchor ≡ 32 → ⊥) ⊎ (length sample ≡ 1024 → ⊥) → lent_answer book anchor sample ≡ Err WrongLength
  unfolding lent_answer
  lent_length w z h = rw (tested book w, not_one z) (go h (eqb (length anchor) 32) refl)
    where
      go : (length anchor ≡ 32 → ⊥) ⊎ (length sample ≡ 1024 → ⊥) → (b : Bool) → eqb (length anchor) 32 ≡ b
          → cond (b && eqb (length sample) 1024) Done (Err WrongLength) ≡ Err WrongLength
      go (inl other) true e = absurd (false≢true (sym (ne_eqb (length anchor) 32 other) ∙ e))
      go (inr other) true e = rw (ne_eqb (length sample) 1024 other)
      go h false e = refl

  lent_ready : Ready book anchor sample → lent_answer book anchor sample ≡ Done
  unfolding lent_answer
  lent_ready r = rw (tested book r.formed, not_one r.good, eq-eqb (length anchor) 32 r.anchored, eq-eqb (length sample) 1024 r.output)

module _ (book shelf anchor sample : List ℕ) where
  abbrev few : Result (Unit {0}) DrawError
  few = cond (ltb (length (sixteen_drawn book shelf anchor)) 16) (Err TooFew) Done

  at_once : (a : Result (Unit {0}) DrawError) → 10 ≤ draw_number a → lent_answer book anchor sample ≡ a → draw_answer book shelf anchor sample ≡ a
  unfolding draw_answer
  at_once a h e =
      let later = and_then (shelf_answer 0 (addresses_in book) shelf) few in
      ap (λ (x : Result (Unit {0}) DrawError). and_then x later) e ∙ stops a later h

  past_lent : Ready book anchor sample → draw_answer book shelf anchor sample ≡ and_then (shelf_answer 0 (addresses_in book) shelf) few
  unfolding draw_answer
  past_lent r = ap (λ (x : Result (Unit {0}) DrawError). and_then x (and_then (shelf_answer 0 (addresses_in book) shelf) few)) (lent_ready book anchor sample r)

  -- ---- behind the last cell

  module _ (h : AllSound book shelf anchor sample) where
    ending : shelf_answer 0 (addresses_in book) shelf ≡ cond (eqb (length (shelf_from (count_in book) shelf)) 0) Done (Err Left)
    unfolding shelf_answer
    ending =
        let most : count_in book ≤ length (addresses_in book) = omega (arith, addresses_length book) in
        let none : drop (count_in book) (addresses_in book) ≡ [] = drop_of_length-le (addresses_in book) {i = count_in book} (omega (arith, addresses_length book)) in
        past (addresses_in book) shelf (count_in book) most h.sound
        ∙ ap (λ (l : List (List ℕ)). shelf_answer (count_in book) l (shelf_from (count_in book) shelf)) none

    left_answer : 0 < length (shelf_from (count_in book) shelf) → draw_answer book shelf anchor sample ≡ Err Left
    left_answer k =
        let left = ne_eqb (length (shelf_from (count_in book) shelf)) 0 (λ e. omega (arith, k, e)) in
        past_lent h.ready ∙ ap (λ (x : Result (Unit {0}) DrawError). and_then x few) (ending ∙ ap (λ (b : Bool). cond b Done (Err Left)) left)

    full_answer : length (shelf_from (count_in book) shelf) ≡ 0 → draw_answer book shelf anchor sample ≡ few
    full_answer e =
        let none = eq-eqb (length (shelf_from (count_in book) shelf)) 0 e in
        past_lent h.ready ∙ ap (λ (x : Result (Unit {0}) DrawError). and_then x few) (ending ∙ ap (λ (b : Bool). cond b Done (Err Left)) none)

  enough : SixteenAmong (pairs_drawn book shelf anchor) → 16 ≤ length (sixteen_drawn book shelf anchor)
  unfolding sixteen_drawn
  enough h = among_enough (pairs_drawn book shelf anchor) h

  some : 16 ≤ length (sixteen_drawn book shelf anchor) → SixteenAmong (pairs_drawn book shelf anchor)
  unfolding sixteen_drawn
  some h = enough_among (pairs_drawn book shelf anchor) (omega (arith, h, sixteen_most book shelf anchor))

  sixteen? : Dec (SixteenAmong (pairs_drawn book shelf anchor))
  sixteen? = go (dec_le 16 (length (sixteen_drawn book shelf anchor)))
    where
      go : Dec (16 ≤ length (sixteen_drawn book shelf anchor)) → Dec (SixteenAmong (pairs_drawn book shelf anchor))
      go (yes h) = yes (some h)
      go (no f) = no (λ s. f (enough s))

  fewer : (SixteenAmong (pairs_drawn book shelf anchor) → ⊥) → length (sixteen_drawn book shelf anchor) < 16
  fewer never = go (dec_le 16 (length (sixteen_drawn book shelf anchor)))
    where
      go : Dec (16 ≤ length (sixteen_drawn book shelf anchor)) → length (sixteen_drawn book shelf anchor) < 16
      go (yes h) = absurd (never (some h))
      go (no f) = omega (arith, f)

  -- ---- a row's answer

  module _ (byte : Bytes book) where
    from_table : (n p : ℕ) → DrawTable book shelf anchor sample n p → Says (draw_answer book shelf anchor sample) n p
    from_table n p (not_well_formed u) = says_as (at_once (Err NotWellFormed) (omega arith) (lent_ill book anchor sample byte u)) (refl, refl)
    from_table n p (already_overfull w e) = says_as (at_once (Err Overfull) (omega arith) (lent_overfull book anchor sample w e)) (refl, refl)
    from_table n p (wrong_length w z h) = says_as (at_once (Err WrongLength) (omega arith) (lent_length book anchor sample w z h)) (refl, refl)
    from_table n p (wrong_cell m i r h sound w) =
        let a = shelf_answer 0 (addresses_in book) shelf in
        let says = shelf_wrong (addresses_in book) shelf m i (omega (arith, h, addresses_length book)) sound w in
        let refused : 10 ≤ draw_number a = omega (arith, says.0, wrong_refused (get_or (addresses_in book) i []) (shelf_from i shelf) m w) in
        says_as (past_lent r ∙ stops a few refused) says
    from_table n p (bytes_left h k) = says_as (left_answer h k) (refl, refl)
    from_table n p (too_few h e never) =
        says_as (full_answer h e ∙ ap (λ (b : Bool). cond b (Err TooFew) Done) (lt-ltb (length (sixteen_drawn book shelf anchor)) 16 (fewer never))) (refl, refl)
    from_table n p (done h e s) =
        says_as (full_answer h e ∙ ap (λ (b : Bool). cond b (Err TooFew) Done) (le-ltb (length (sixteen_drawn book shelf anchor)) 16 (enough s))) (refl, refl)

    -- ---- every input has a row

    record Row : Type 0 where
      number : ℕ
      place : ℕ
      given : DrawTable book shelf anchor sample number place

    counted : AllSound book shelf anchor sample → Row
    counted h = go (ℕ_discrete (length (shelf_from (count_in book) shelf)) 0) sixteen?
      where
        go : Dec (length (shelf_from (count_in book) shelf) ≡ 0) → Dec (SixteenAmong (pairs_drawn book shelf anchor)) → Row
        go (no f) d = record { number = 25; place = 0; given = bytes_left h (omega (arith, f)) }
        go (yes e) (yes s) = record { number = 0; place = 0; given = done h e s }
        go (yes e) (no never) = record { number = 26; place = 0; given = too_few h e never }

    celled : Ready book anchor sample → Row
    celled r = go (walked (addresses_in book) shelf (length (addresses_in book)) 0 (omega arith) (λ j h. absurd (omega arith)))
      where
        go : Walked (addresses_in book) shelf → Row
        go (wrong_at i h sound w) =
            record { number = w.number; place = i; given = wrong_cell w.number i r (omega (arith, h, addresses_length book)) sound w.wrong }
        go (through sound) = counted (record { ready = r; sound = λ j h. sound j (omega (arith, h, addresses_length book)) })

    lengthed : WellFormed book → state_in book ≡ 0 → Row
    lengthed w z = go (ℕ_discrete (length anchor) 32) (ℕ_discrete (length sample) 1024)
      where
        go : Dec (length anchor ≡ 32) → Dec (length sample ≡ 1024) → Row
        go (no f) d = record { number = 10; place = 0; given = wrong_length w z (inl f) }
        go (yes e) (no f) = record { number = 10; place = 0; given = wrong_length w z (inr f) }
        go (yes e) (yes f) = celled (record { formed = w; good = z; anchored = e; output = f })

    formed : WellFormed book → Row
    formed w = go (state_in book) refl w.state
      where
        go : (s : ℕ) → state_in book ≡ s → s ≤ 1 → Row
        go zero e k = lengthed w e
        go (suc zero) e k = record { number = 14; place = 0; given = already_overfull w e }
        go (suc (suc s)) e k = absurd (omega arith)

    row : Row
    row = go (well_formed book) refl
      where
        go : (b : Bool) → well_formed book ≡ b → Row
        go true e = formed (untested book byte e)
        go false e = record { number = 13; place = 0; given = not_well_formed (λ w. false≢true (sym e ∙ tested book w)) }

    by_table : (n p : ℕ) → Says (draw_answer book shelf anchor sample) n p → DrawTable book shelf anchor sample n p
    by_table n p s =
        let there = from_table row.number row.place row.given in
        let e : row.number ≡ n = sym there.0 ∙ s.0 in
        let f : row.place ≡ p = sym there.1 ∙ s.1 in
        rw (← e, ← f) row.given

    pub answers_table : (n p : ℕ) → Says (draw_answer book shelf anchor sample) n p ↔ DrawTable book shelf anchor sample n p
    answers_table n p = (by_table n p, from_table n p)
