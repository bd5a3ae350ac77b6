-- What a draw left where it answered 0.
use mathlib.Core.Path.{◌≡◌, refl, sym, ap, ◌∙◌, subst}
use mathlib.Core.List.Memᴰ
use mathlib.Core.List.{List, [], map, Memᴰ}
use Prim.Native.Nat.{ℕ, ◌*◌}
use native.Mathlib.Omega.{arith}
use lib.ListN.{length}
use Rattle.merkle.specs.Tree.{address_of}
use Rattle.records.specs.Record.{address_in}
use Rattle.book.specs.Layout.{records_in}
use Rattle.std.specs.Prelude.{Result, Ok, Err}
use Rattle.answers.specs.Number.{digest_or_zeros}
use Rattle.draw.specs.declared.answer.DrawError.{DrawError}
use Rattle.draw.specs.declared.answer.DrawError.TheVariants.{NotWellFormed, Overfull, WrongLength, ShelfEnds, TooLong, Mismatch, Left, TooFew}
use Rattle.draw.specs.Answer.{Done, error_number, draw_number, and_then}
use Rattle.shelf.specs.Cell.{own_address, pair_of}
use Rattle.sample.specs.Sample.{written, sample_span, commitment_of}
use Rattle.draw.specs.Draw.{cells_drawn, pairs_drawn, sixteen_drawn, draw_answer, drawn, sample_after}
use Rattle.sample.proofs.Laying.{written_length}
use Rattle.draw.proofs.Answered.{drawn_commitment, drawn_sample, sixteen_sized}
use Rattle.draw.proofs.Theorems as draws
use Rattle.agreement.specs.Theorems.{GotHash, OfRecord, Sampled}

-- 0 is the number of no other answer
zero_error : {A : Type 0} (error : DrawError) → error_number error ≡ 0 → A
zero_error NotWellFormed e = absurd (omega (arith, e))
zero_error Overfull e = absurd (omega (arith, e))
zero_error WrongLength e = absurd (omega (arith, e))
zero_error (ShelfEnds place) e = absurd (omega (arith, e))
zero_error (TooLong place) e = absurd (omega (arith, e))
zero_error (Mismatch place) e = absurd (omega (arith, e))
zero_error Left e = absurd (omega (arith, e))
zero_error TooFew e = absurd (omega (arith, e))

zero_done : (a : Result (Unit {0}) DrawError) (hash : List ℕ) → draw_number (and_then a (Ok hash)) ≡ 0 → a ≡ Done
zero_done (Ok value) hash e = refl
zero_done (Err error) hash e = zero_error error e

pub got_drawn : (book shelf anchor sample : List ℕ) → GotHash book shelf anchor sample → draw_answer book shelf anchor sample ≡ Done
unfolding drawn
got_drawn book shelf anchor sample = zero_done (draw_answer book shelf anchor sample) (commitment_of (sixteen_drawn book shelf anchor))

-- ---- the sample

module _ (book shelf anchor sample : List ℕ) (e : draw_answer book shelf anchor sample ≡ Done) where
  abbrev chosen : List (List ℕ)
  chosen = sixteen_drawn book shelf anchor

  shelved : map own_address (cells_drawn book shelf) ≡ map address_in (records_in book)
  shelved = draws.each_hashes_to_its_record book shelf anchor sample e

  of_record : (pair : List ℕ) → Memᴰ pair (pairs_drawn book shelf anchor) → OfRecord book shelf anchor pair
  unfolding pairs_drawn
  of_record pair m =
      let c = Memᴰ.of_map (pair_of anchor) (cells_drawn book shelf) m in
      let there = subst (λ (l : List (List ℕ)). Memᴰ (own_address c.0) l) shelved (Memᴰ.map own_address c.1) in
      let r = Memᴰ.of_map address_in (records_in book) there in
      record { held = r.0; chunk = c.0; in_book = r.1; on_shelf = c.1; hashes = sym r.2; is_pair = sym c.2 }

  bytes : sample_after book shelf anchor sample ≡ written chosen
  bytes = drawn_sample book shelf anchor sample e

  committed : digest_or_zeros (drawn book shelf anchor sample) ≡ commitment_of chosen
  committed = drawn_commitment book shelf anchor sample e

  pub sampled : Sampled book shelf anchor (sample_after book shelf anchor sample) (digest_or_zeros (drawn book shelf anchor sample))
  unfolding commitment_of
  sampled =
      let small = draws.the_sixteen_smallest book shelf anchor sample e in
      record {
        shelved = shelved;
        smallest = small;
        of_records = λ p m. of_record p (small.among p m);
        bytes = bytes;
        size = ap length bytes ∙ written_length chosen (sixteen_sized book shelf anchor) ∙ ap (λ (n : ℕ). 64 * n) small.number;
        commitment = committed ∙ ap (λ (t : List ℕ). address_of [] sample_span t) (sym bytes);
      }
