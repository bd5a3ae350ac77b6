-- What holds along the shelf: what is left to answer and to gather is what there was at the start.
use Rattle.std.specs.Prelude.{Result, Ok, Err, Bool, true, false, cond, List, [], ◌≡◌, refl, ℕ, ◌+◌, ◌-◌, ◌≤◌, ◌<◌, eqb, ltb, length, take, drop}
use Rattle.std.proofs.Common.{sym, ap, ap₂, ◌∙◌, arith}
use borrow.Author.Tests.{lt-ltb, le-ltb, eq-eqb, ne_eqb}
use Rattle.std.proofs.lemmas.List.{take_rest}
use Rattle.octets.proofs.Pieces.{length_pieces, pieces_none}
use Rattle.records.specs.Record.{address_in}
use Rattle.book.specs.Layout.{count_in, record_in}
use Rattle.shelf.specs.declared.cell.CellError.{CellError}
use Rattle.shelf.specs.Read.{cell_answer}
use Rattle.draw.specs.declared.answer.DrawError.{DrawError}
use Rattle.draw.specs.declared.answer.DrawError.TheVariants.{Left, TooFew}
use Rattle.draw.specs.declared.smallest.Smallest.{Smallest}
use Rattle.draw.specs.Answer.{Done, of_cell, and_then}
use Rattle.draw.specs.Shelf.{behind, shelf_answer}
use Rattle.draw.specs.Draw.{addresses_in, sixteen_drawn}
use Rattle.draw.specs.Inside.{told, pairs_in, Taken, walk_answer}
use Rattle.draw.proofs.Walking.{addresses_from, answer_turn, answer_last, ahead_of, sixteen_ahead, ahead_turn, ahead_last, behind_is}

-- what is answered behind the shelf
abbrev few : List ℕ → List ℕ → List ℕ → Result (Unit {0}) DrawError
few book shelf anchor = cond (ltb (length (sixteen_drawn book shelf anchor)) 16) (Err TooFew) Done

-- at record i, with this rest of the shelf
pub record Walked (book shelf anchor rest : List ℕ) (smallest : Smallest) (i : ℕ) : Type 0 where
  pub to_answer : shelf_answer 0 (addresses_in book) shelf ≡ shelf_answer i (addresses_from i book) rest
  pub to_gather : sixteen_drawn book shelf anchor ≡ ahead_of anchor (pairs_in smallest) (count_in book - i) rest

module _ (book shelf anchor : List ℕ) where
  pub walk_starts : (smallest : Smallest) → smallest.held ≡ 0 → Walked book shelf anchor shelf smallest 0
  walk_starts smallest none = record {
    to_answer = refl;
    to_gather =
        let nothing : pairs_in smallest ≡ [] = rw none (pieces_none 64 smallest.pairs) in
        let all : count_in book ≡ count_in book - 0 = omega arith in
        sixteen_ahead book shelf anchor ∙ ap₂ (λ (l : List (List ℕ)) (n : ℕ). ahead_of anchor l n shelf) (sym nothing) all;
  }

  module _ (rest : List ℕ) (smallest : Smallest) (i : ℕ) (w : Walked book shelf anchor rest smallest i) where
    -- the cell there against its record, as it was told
    module _ (more : i < count_in book) (record_at : List ℕ) (there : record_at ≡ record_in book i) (r : Result ℕ CellError)
        (answered : told r ≡ cell_answer (address_in record_at) rest) where
      abbrev further : Result (Unit {0}) DrawError
      further = shelf_answer (i + 1) (addresses_from (i + 1) book) (behind rest)

      first : shelf_answer 0 (addresses_in book) shelf ≡ and_then (of_cell i (told r)) further
      first =
          w.to_answer ∙ answer_turn i book rest more
          ∙ ap (λ (x : Result (Unit {0}) CellError). and_then (of_cell i x) further) (sym (answered ∙ ap (λ (x : List ℕ). cell_answer (address_in x) rest) there))

      -- it is passed
      pub walk_turn : (size : ℕ) (next : Smallest) → r ≡ Ok size → Taken rest anchor smallest next size
          → Walked book shelf anchor (take (length rest - size) (drop size rest)) next (i + 1)
      walk_turn size next e taken =
          let moved : behind rest ≡ take (length rest - size) (drop size rest) = behind_is size rest taken.measured ∙ sym (take_rest rest size) in
          record {
            to_answer =
                first ∙ ap (λ (x : Result ℕ CellError). and_then (of_cell i (told x)) further) e
                ∙ ap (shelf_answer (i + 1) (addresses_from (i + 1) book)) moved;
            to_gather =
                w.to_gather ∙ ahead_turn anchor (pairs_in smallest) (count_in book) i rest more
                ∙ ap₂ (λ (l : List (List ℕ)) (s : List ℕ). ahead_of anchor l (count_in book - (i + 1)) s) (sym taken.kept) moved;
          }

      -- or it is wrong
      pub walk_wrong : (error : DrawError) → of_cell i r ≡ Err error → Err error ≡ walk_answer book shelf anchor
      unfolding walk_answer
      walk_wrong error e = sym (ap (λ (x : Result (Unit {0}) DrawError). and_then x (few book shelf anchor)) (first ∙ stopped r e))
        where
          stopped : (x : Result ℕ CellError) → of_cell i x ≡ Err error → and_then (of_cell i (told x)) further ≡ Err error
          stopped (Ok size) f = cc
          stopped (Err cell) f = cc

    module _ (over : count_in book ≤ i) where
      nothing_left : (b : Bool) → eqb (length rest) 0 ≡ b → shelf_answer 0 (addresses_in book) shelf ≡ cond b Done (Err Left)
      unfolding shelf_answer
      nothing_left b e = w.to_answer ∙ answer_last i book rest over ∙ ap (λ (x : Bool). cond x Done (Err Left)) e

      pub walk_left : (length rest ≡ 0 → ⊥) → Err Left ≡ walk_answer book shelf anchor
      unfolding walk_answer
      walk_left h = sym (ap (λ (x : Result (Unit {0}) DrawError). and_then x (few book shelf anchor)) (nothing_left false (ne_eqb (length rest) 0 h)))

      module _ (through : length rest ≡ 0) (most : smallest.held ≤ 16) where
        all_held : pairs_in smallest ≡ sixteen_drawn book shelf anchor
        all_held = sym (w.to_gather ∙ ahead_last anchor (pairs_in smallest) (count_in book) i rest over (omega (arith, length_pieces 64 smallest.held smallest.pairs, most)))

        number : length (sixteen_drawn book shelf anchor) ≡ smallest.held
        number = ap length (sym all_held) ∙ length_pieces 64 smallest.held smallest.pairs

        counted_out : (b : Bool) → ltb (length (sixteen_drawn book shelf anchor)) 16 ≡ b → walk_answer book shelf anchor ≡ cond b (Err TooFew) Done
        unfolding walk_answer
        counted_out b e =
            ap (λ (x : Result (Unit {0}) DrawError). and_then x (few book shelf anchor)) (nothing_left true (eq-eqb (length rest) 0 through))
            ∙ ap (λ (x : Bool). cond x (Err TooFew) Done) e

        pub walk_few : smallest.held < 16 → Err TooFew ≡ walk_answer book shelf anchor
        walk_few h = sym (counted_out true (lt-ltb (length (sixteen_drawn book shelf anchor)) 16 (omega (arith, number))))

        pub walk_ends : 16 ≤ smallest.held → (Done ≡ walk_answer book shelf anchor) × ((smallest.held ≡ 16) × (pairs_in smallest ≡ sixteen_drawn book shelf anchor))
        walk_ends h = (sym (counted_out false (le-ltb (length (sixteen_drawn book shelf anchor)) 16 (omega (arith, number)))), (omega arith, all_held))
