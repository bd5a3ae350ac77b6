-- What is handed back, by where the draw ended.
use Rattle.std.specs.Prelude.{Result, Ok, Err, List, ◌≡◌, ℕ, ◌+◌, ◌*◌, ◌≤◌, length}
use Rattle.std.proofs.Common.{ap, ◌∙◌}
use Rattle.octets.specs.Pieces.{pieces}
use Rattle.book.specs.Layout.{count_in}
use Rattle.sample.specs.Sample.{written, commitment_of}
use Rattle.sample.specs.Kept.{committed, written_over}
use Rattle.sample.proofs.Held.{sixteen_out}
use Rattle.draw.specs.declared.answer.DrawError.{DrawError}
use Rattle.draw.specs.Answer.{Done, and_then, only_done}
use Rattle.draw.specs.Draw.{sixteen_drawn, lent_answer, draw_answer, drawn, sample_after}
use Rattle.draw.specs.Inside.{walk_answer}
use Rattle.draw.proofs.Answered.{lent_done}
use Rattle.draw.proofs.Walking.{formed_long}

module _ (book shelf anchor sample : List ℕ) where
  drawn_by : (a : Result (Unit {0}) DrawError) → draw_answer book shelf anchor sample ≡ a
      → drawn book shelf anchor sample ≡ and_then a (Ok (commitment_of (sixteen_drawn book shelf anchor)))
  unfolding drawn
  drawn_by a e = ap (λ (x : Result (Unit {0}) DrawError). and_then x (Ok (commitment_of (sixteen_drawn book shelf anchor)))) e

  left_by : (a : Result (Unit {0}) DrawError) → draw_answer book shelf anchor sample ≡ a
      → sample_after book shelf anchor sample ≡ only_done a (written (sixteen_drawn book shelf anchor)) sample
  unfolding sample_after
  left_by a e = ap (λ (x : Result (Unit {0}) DrawError). only_done x (written (sixteen_drawn book shelf anchor)) sample) e

  -- ---- refused before the shelf

  by_lent : (error : DrawError) → lent_answer book anchor sample ≡ Err error → draw_answer book shelf anchor sample ≡ Err error
  unfolding draw_answer walk_answer
  by_lent error e = ap (λ (x : Result (Unit {0}) DrawError). and_then x (walk_answer book shelf anchor)) e

  pub drawn_lent : (error : DrawError) → lent_answer book anchor sample ≡ Err error → drawn book shelf anchor sample ≡ Err error
  drawn_lent error e = drawn_by (Err error) (by_lent error e)

  pub left_lent : (error : DrawError) → lent_answer book anchor sample ≡ Err error → sample_after book shelf anchor sample ≡ sample
  left_lent error e = left_by (Err error) (by_lent error e)

  -- ---- past that as the walk along the shelf

  module _ (lent : lent_answer book anchor sample ≡ Done) where
    past_lent : draw_answer book shelf anchor sample ≡ walk_answer book shelf anchor
    unfolding draw_answer walk_answer
    past_lent = ap (λ (x : Result (Unit {0}) DrawError). and_then x (walk_answer book shelf anchor)) lent

    pub drawn_wrong : (error : DrawError) → walk_answer book shelf anchor ≡ Err error → drawn book shelf anchor sample ≡ Err error
    drawn_wrong error e = drawn_by (Err error) (past_lent ∙ e)

    pub left_wrong : (error : DrawError) → walk_answer book shelf anchor ≡ Err error → sample_after book shelf anchor sample ≡ sample
    left_wrong error e = left_by (Err error) (past_lent ∙ e)

    pub drawn_done : walk_answer book shelf anchor ≡ Done → drawn book shelf anchor sample ≡ Ok (commitment_of (sixteen_drawn book shelf anchor))
    drawn_done e = drawn_by Done (past_lent ∙ e)

    pub left_done : walk_answer book shelf anchor ≡ Done → sample_after book shelf anchor sample ≡ written (sixteen_drawn book shelf anchor)
    left_done e = left_by Done (past_lent ∙ e)

pub formed : (book anchor sample : List ℕ) → lent_answer book anchor sample ≡ Done → (48 + 145 * count_in book ≤ length book) × (count_in book ≤ 65536)
formed book anchor sample e = formed_long book (lent_done book anchor sample e).formed

pub lent_room : (book anchor sample : List ℕ) → lent_answer book anchor sample ≡ Done → length sample ≡ 1024
lent_room book anchor sample e = (lent_done book anchor sample e).sample1024

-- ---- the sixteen, handed on

module _ (book shelf anchor sample pairs : List ℕ) (held : ℕ) (all : held ≡ 16) (kept : pieces 64 held pairs ≡ sixteen_drawn book shelf anchor)
    (room : length pairs ≡ 1024) (lent : length sample ≡ 1024) where
  sixteen : pieces 64 16 pairs ≡ sixteen_drawn book shelf anchor
  sixteen = rw all at kept

  pub committed_is : committed pairs held sample ≡ commitment_of (sixteen_drawn book shelf anchor)
  committed_is = (sixteen_out pairs held sample all room lent).0 ∙ ap commitment_of sixteen

  pub written_is : written_over pairs held sample ≡ written (sixteen_drawn book shelf anchor)
  written_is = (sixteen_out pairs held sample all room lent).1 ∙ ap written sixteen

pub ruleset hands = (drawn_lent, left_lent, drawn_wrong, left_wrong, drawn_done, left_done, formed, lent_room, committed_is, written_is)
