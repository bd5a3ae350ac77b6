-- What a shelf answers by its cells: the first that is wrong speaks.
use mathlib.Core.Path.{◌≡◌, refl, ap, ◌∙◌}
use mathlib.Core.Logic.{◌⊎◌, inl, inr}
use mathlib.Core.List.{List, [], List-discrete}
use Prim.Native.Nat.{ℕ, zero, suc, ◌+◌, ◌≤◌, ◌<◌}
use native.Mathlib.Decide.{dec_le, ℕ_discrete}
use native.Mathlib.Omega.{arith}
use lib.ListN.{length, get_or, drop}
use lib.Seq.{drop-cons}
use borrow.Author.Tests.{lt-ltb, le-ltb}
use Rattle.octets.specs.Order.{byte_order}
use Rattle.std.specs.declared.cmp.Ordering.{Ordering}
use Rattle.std.specs.declared.cmp.Ordering.TheVariants as Ordered
use Rattle.octets.proofs.Ordered.{order_self, same_equal}
use Rattle.std.specs.Prelude.{Result, Ok, Err}
use Rattle.draw.specs.declared.answer.DrawError.{DrawError}
use Rattle.draw.specs.Answer.{Done, draw_number, draw_place, of_cell, and_then}
use Rattle.shelf.specs.Cell.{own_address, size_in, cell_in}
use Rattle.shelf.specs.Read.{matching, cell_answer}
use Rattle.draw.specs.Shelf.{shelf_answer}
use Rattle.draw.specs.Theorems.{shelf_from, SoundCell, SoundBefore, WrongCell, no_length, too_long, cut_short, mismatch}

-- an answer's number and place
abbrev pub Says : Result (Unit {0}) DrawError → ℕ → ℕ → Type 0
Says a n p = (draw_number a ≡ n) × (draw_place a ≡ p)

pub says_as : {a b : Result (Unit {0}) DrawError} {n p : ℕ} → a ≡ b → Says b n p → Says a n p
says_as e s = (ap draw_number e ∙ s.0, ap draw_place e ∙ s.1)

-- behind a refusal nothing is asked
pub stops : (a b : Result (Unit {0}) DrawError) → 10 ≤ draw_number a → and_then a b ≡ a
stops (Ok value) b h = absurd (omega arith)
stops (Err error) b h = refl

-- ---- one cell

module _ (place : ℕ) (address rest : List ℕ) where
  sound_answer : SoundCell address rest → of_cell place (cell_answer address rest) ≡ Done
  unfolding cell_answer
  sound_answer w =
      let same : byte_order (own_address (cell_in rest)) address ≡ Ordered.Equal = ap (λ (a : List ℕ). byte_order a address) w.own ∙ order_self address in
      rw (le-ltb (length rest) 10 w.headed, le-ltb 4096 (size_in rest) w.bounded, le-ltb (length rest) (10 + size_in rest) w.whole, same)

  wrong_answer : (n : ℕ) → WrongCell address rest n → Says (of_cell place (cell_answer address rest)) n place
  unfolding cell_answer
  wrong_answer n (no_length h) = rw (lt-ltb (length rest) 10 h) (refl, refl)
  wrong_answer n (too_long h k) = rw (le-ltb (length rest) 10 h, lt-ltb 4096 (size_in rest) k) (refl, refl)
  wrong_answer n (cut_short h k j) =
      rw (le-ltb (length rest) 10 h, le-ltb 4096 (size_in rest) k, lt-ltb (length rest) (10 + size_in rest) j) (refl, refl)
  wrong_answer n (mismatch h k j other) =
      rw (le-ltb (length rest) 10 h, le-ltb 4096 (size_in rest) k, le-ltb (length rest) (10 + size_in rest) j) (go (byte_order (own_address (cell_in rest)) address) refl)
    where
      go : (o : Ordering) → byte_order (own_address (cell_in rest)) address ≡ o → Says (of_cell place (matching o)) 24 place
      go Ordered.Less e = (refl, refl)
      go Ordered.Equal e = absurd (other (same_equal _ _ e))
      go Ordered.Greater e = (refl, refl)

pub wrong_refused : (address rest : List ℕ) (n : ℕ) → WrongCell address rest n → 10 ≤ n
wrong_refused address rest n (no_length h) = omega arith
wrong_refused address rest n (too_long h k) = omega arith
wrong_refused address rest n (cut_short h k j) = omega arith
wrong_refused address rest n (mismatch h k j other) = omega arith

pub record Wrong (address rest : List ℕ) : Type 0 where
  pub number : ℕ
  pub wrong : WrongCell address rest number

judged : (address rest : List ℕ) → SoundCell address rest ⊎ Wrong address rest
judged address rest = start (dec_le 10 (length rest))
  where
    hashes : 10 ≤ length rest → size_in rest ≤ 4096 → 10 + size_in rest ≤ length rest → Dec (own_address (cell_in rest) ≡ address)
        → SoundCell address rest ⊎ Wrong address rest
    hashes h k j (yes e) = inl (record { headed = h; bounded = k; whole = j; own = e })
    hashes h k j (no other) = inr (record { number = 24; wrong = mismatch h k j other })

    ends : 10 ≤ length rest → size_in rest ≤ 4096 → Dec (10 + size_in rest ≤ length rest) → SoundCell address rest ⊎ Wrong address rest
    ends h k (yes j) = hashes h k j (List-discrete ℕ_discrete (own_address (cell_in rest)) address)
    ends h k (no f) = inr (record { number = 23; wrong = cut_short h k (omega (arith, f)) })

    measured : 10 ≤ length rest → Dec (size_in rest ≤ 4096) → SoundCell address rest ⊎ Wrong address rest
    measured h (yes k) = ends h k (dec_le (10 + size_in rest) (length rest))
    measured h (no f) = inr (record { number = 12; wrong = too_long h (omega (arith, f)) })

    start : Dec (10 ≤ length rest) → SoundCell address rest ⊎ Wrong address rest
    start (yes h) = measured h (dec_le (size_in rest) 4096)
    start (no f) = inr (record { number = 23; wrong = no_length (omega (arith, f)) })

-- ---- the shelf

module _ (addresses : List (List ℕ)) (shelf : List ℕ) where
  turn : (i : ℕ) → i < length addresses
      → shelf_answer i (drop i addresses) (shelf_from i shelf)
      ≡ and_then (of_cell i (cell_answer (get_or addresses i []) (shelf_from i shelf))) (shelf_answer (suc i) (drop (suc i) addresses) (shelf_from (suc i) shelf))
  unfolding shelf_answer shelf_from
  turn i h = ap (λ (l : List (List ℕ)). shelf_answer i l (shelf_from i shelf)) (drop-cons addresses i [] h)

  -- past sound cells
  pub past : (i : ℕ) → i ≤ length addresses → SoundBefore addresses shelf i → shelf_answer 0 addresses shelf ≡ shelf_answer i (drop i addresses) (shelf_from i shelf)
  unfolding shelf_from
  past zero h sound = refl
  past (suc i) h sound =
      past i (omega arith) (λ j k. sound j (omega arith))
      ∙ turn i h
      ∙ ap (λ (a : Result (Unit {0}) DrawError). and_then a (shelf_answer (suc i) (drop (suc i) addresses) (shelf_from (suc i) shelf)))
      (sound_answer i (get_or addresses i []) (shelf_from i shelf) (sound i (omega arith)))

  pub shelf_wrong : (n i : ℕ) → i < length addresses → SoundBefore addresses shelf i → WrongCell (get_or addresses i []) (shelf_from i shelf) n
      → Says (shelf_answer 0 addresses shelf) n i
  shelf_wrong n i h sound w =
      let a = of_cell i (cell_answer (get_or addresses i []) (shelf_from i shelf)) in
      let says = wrong_answer i (get_or addresses i []) (shelf_from i shelf) n w in
      let refused : 10 ≤ draw_number a = omega (arith, says.0, wrong_refused (get_or addresses i []) (shelf_from i shelf) n w) in
      says_as (past i (omega arith) sound ∙ turn i h ∙ stops a (shelf_answer (suc i) (drop (suc i) addresses) (shelf_from (suc i) shelf)) refused) says

  -- the first cell that is wrong, if there is one
  pub data Walked : Type 0 where
    wrong_at : (i : ℕ) → i < length addresses → SoundBefore addresses shelf i → Wrong (get_or addresses i []) (shelf_from i shelf) → Walked
    through : SoundBefore addresses shelf (length addresses) → Walked

  one_more : (i : ℕ) → SoundBefore addresses shelf i → SoundCell (get_or addresses i []) (shelf_from i shelf) → SoundBefore addresses shelf (suc i)
  one_more i sound here j h = go (dec_le (suc j) i)
    where
      go : Dec (j < i) → SoundCell (get_or addresses j []) (shelf_from j shelf)
      go (yes k) = sound j k
      go (no f) = let e : j ≡ i = omega (arith, f) in rw e here

  pub walked : (k i : ℕ) → i + k ≡ length addresses → SoundBefore addresses shelf i → Walked
  walked zero i e sound = through (λ j h. sound j (omega arith))
  walked (suc k) i e sound = go (judged (get_or addresses i []) (shelf_from i shelf)) (λ s. walked k (suc i) (omega arith) s)
    where
      go : SoundCell (get_or addresses i []) (shelf_from i shelf) ⊎ Wrong (get_or addresses i []) (shelf_from i shelf) → (SoundBefore addresses shelf (suc i) → Walked) → Walked
      go (inl here) further = further (one_more i sound here)
      go (inr w) further = wrong_at i (omega arith) sound w
