-- What is filled is the front, and nothing behind it.
use mathlib.Core.Path.{ap, ◌∙◌}
use mathlib.Core.List.{List, ◌++◌}
use Prim.Native.Nat.{ℕ}
use lib.ListN.{drop, replicate}
use lib.Seq.{length-take-le}
use Rattle.opening.proofs.open.clear.Goals as goal

pub returns : goal.returns
returns c =
    let a = c.args in
    let front = c.fill.ensures.after (λ y e. e) ∙ ap (λ (n : ℕ). replicate {A = ℕ} n 0) (length-take-le a.end a.book.now c.requires) in
    ap (λ (l : List ℕ). l ++ drop a.end a.book.now) front
