-- From the theory's steps to the bytes: what is to be shown where an offer ends.
use mathlib.Core.Path.{◌≡◌, sym, ap, ◌∙◌, subst}
use mathlib.Core.List.{List}
use Prim.Native.Nat.{ℕ, ◌+◌, ◌*◌}
use native.Mathlib.Omega.{arith}
use lib.ListN.{length}
use Rattle.octets.proofs.Parts.{part_length}
use Rattle.settling.specs.Book.{State, good}
use Rattle.settling.specs.Book as settling
use Rattle.settling.specs.Answer.{outcome}
use Rattle.settling.specs.Meaning.{Kept, Sound}
use Rattle.settling.proofs.Inside.{each_map}
use Rattle.settling.proofs.Steps.{Step}
use Rattle.records.specs.Record.{Fitting}
use Rattle.book.specs.Shape.{shape_in}
use Rattle.book.specs.Layout.{depth_in, capacity_in, records_in}
use Rattle.book.specs.Book.{in_state, read, write}
use Rattle.reserve.specs.Edit.{Stands}
use Rattle.reserve.specs.Offer.{shape_of, entered}
use Rattle.reserve.specs.Awaits.{Awaits, Ends}
use Rattle.book.proofs.Cuts.{counted}
use Rattle.book.proofs.Soundness.{lawful_sound}
use Rattle.book.proofs.Roundtrip.{read_good, read_lawful, write_read}

module _ (s r : List ℕ) (w : Awaits s r) where
  pub kept : Kept (shape_in s) (depth_in s) (records_in s)
  unfolding read
  kept = subst (Sound (shape_of (read s))) (read_good s w.good) (lawful_sound (read s) (read_lawful s w.bytes w.formed))

  same : s ≡ write (in_state (read s) (good (depth_in s) (records_in s)))
  same = sym (write_read s w.bytes w.formed) ∙ ap (λ (c : State (List ℕ)). write (in_state (read s) c)) (read_good s w.good)

  pub long : length s ≡ 48 + 145 * capacity_in s
  long = w.formed.size

  pub stands : Stands s (read s) (depth_in s) (records_in s)
  unfolding read
  stands =
      record {
        bytes = same;
        overlay = part_length s 8 32 (omega (arith, long));
        records = each_map Fitting (λ q. length q ≡ 145) (λ q f. f.size) (records_in s) w.formed.fitting;
        count = omega (arith, counted s, w.formed.count);
        most = w.formed.most;
      }

  module _ (c : State (List ℕ)) (n : ℕ) (step : Step (shape_in s) (depth_in s) (records_in s) r c n) where
    pub ends : (t : List ℕ) → t ≡ write (in_state (read s) c) → Ends s r n t
    unfolding entered read
    ends t e =
        record {
          number = sym (ap (λ (x : State (List ℕ)). outcome (shape_in s) x r) (read_good s w.good) ∙ step.answer);
          bytes = e ∙ ap (λ (x : State (List ℕ)). write (in_state (read s) x)) (sym (ap (λ (x : State (List ℕ)). settling.offer (shape_in s) x r) (read_good s w.good) ∙ step.ends));
        }

  -- where nothing changes
  module _ (n : ℕ) (step : Step (shape_in s) (depth_in s) (records_in s) r (good (depth_in s) (records_in s)) n) where
    pub ends_same : Ends s r n s
    ends_same = ends (good (depth_in s) (records_in s)) n step s same
