-- The invariant: what is left to answer and to gather is what there was at the start.
use Rattle.draw.proofs.Collecting.{Walked}
use Rattle.draw.proofs.drawing.collect.Given as goal

abbrev pub invariant-loop-place : goal.invariant-loop-place
invariant-loop-place l = Walked l.book l.shelf l.anchor l.rest l.smallest l.place-counter
