-- A cell taken: what was read of it, and its pair among those that are held.
use Rattle.std.specs.Prelude.{Ok, List, ◌≡◌, ℕ, ◌≤◌, length, take}
use Rattle.std.proofs.Common.{refl, ap, ◌∙◌, arith}
use Rattle.shelf.specs.declared.cell.CellRead.{CellRead}
use Rattle.shelf.specs.Cell.{pair_of, cell_in}
use Rattle.shelf.specs.Read.{cell_read}
use Rattle.shelf.proofs.Pairs.{pair_length}
use Rattle.shelf.proofs.Cells.{cell_sound, pair_read_lem, read_sound, read_wrong}
use Rattle.sample.specs.Sample.{entered}
use Rattle.sample.specs.Kept.{held_after, best_after}
use Rattle.sample.proofs.Held.{entered_holds}
use Rattle.draw.specs.declared.smallest.Smallest.{Smallest}
use Rattle.draw.specs.Inside.{pairs_in, Taken}

module _ (rest address anchor : List ℕ) (read : CellRead) (found : cell_read rest address anchor ≡ Ok read) (la : length anchor ≡ 32) (before : Smallest)
    (lb : length before.pairs ≡ 1024) (few : before.held ≤ 16) where
  pair : read.pair ≡ pair_of anchor (cell_in rest)
  pair =
      let sound = read_sound rest address anchor read found in
      sound.1.1 ∙ pair_read_lem anchor address rest la (cell_sound address rest sound.0)

  whole : length read.pair ≡ 64
  whole = ap length pair ∙ pair_length anchor (cell_in rest)

  pub few_held : (more : ℕ) → more ≡ held_after read.pair before.held before.pairs → more ≤ 16
  few_held more e = (entered_holds read.pair before.held before.pairs lb whole few more (best_after read.pair before.held before.pairs) e refl).1.0

  pub cell_taken : (after : Smallest) → after.held ≡ held_after read.pair before.held before.pairs → after.pairs ≡ best_after read.pair before.held before.pairs
      → Taken rest anchor before after read.size
  cell_taken after e f =
      let sound = read_sound rest address anchor read found in
      let there = cell_sound address rest sound.0 in
      let holds = entered_holds read.pair before.held before.pairs lb whole few after.held after.pairs e f in
      record {
        measured = sound.1.0;
        there = omega (arith, sound.1.0, there.3);
        kept = holds.1.1 ∙ ap (λ (x : List ℕ). take 16 (entered x (pairs_in before))) pair;
      }

pub ruleset cells = (read_wrong, read_sound)
