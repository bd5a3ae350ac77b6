-- A record that is fit is followed by none, or by the one at the next place.
use borrow.Author.Rules.{rules}
use mathlib.Core.Path.{◌≡◌, sym, ap, ◌∙◌}
use mathlib.Core.Bool.{Bool, true, ◌&&◌}
use mathlib.Core.List.{[]}
use Prim.Native.Nat.{◌+◌, ◌<◌}
use native.Mathlib.Omega.{arith}
use lib.ListN.{length, get_or, drop}
use Rattle.batches.specs.Batch.{fit, precedes, below}
use Rattle.batches.proofs.Listed.{last_rises, next_rises}
use Rattle.batches.proofs.check.stands.Goals as goal

pub returns-then-next-records : goal.returns-then-next-records
returns-then-next-records c =
    let l = c.args.records.now in
    let i = c.args.place in
    let f : fit (get_or l i []) ≡ true = search rules in
    sym (ap (λ (b : Bool). b && below (get_or l i []) (drop (i + 1) l)) f ∙ last_rises l i (get_or l i []) (omega arith))

pub returns : goal.returns
returns c =
    let l = c.args.records.now in
    let i = c.args.place in
    let f : fit (get_or l i []) ≡ true = search rules in
    let more : i + 1 < length l = omega arith in
    let rises : c.is_below.result ≡ precedes (get_or l i []) (get_or l (i + 1) []) = search rules in
    rises ∙ sym (ap (λ (b : Bool). b && below (get_or l i []) (drop (i + 1) l)) f ∙ next_rises l i (get_or l i []) more)
