-- The loop's invariant: the lines that are yet to be put, behind those that are put, are all.
use Prim.Native.Nat.{◌+◌, ◌*◌, ◌≤◌}
use mathlib.Core.Path.{◌≡◌}
use lib.ListN.{length, drop}
use Rattle.moving.specs.Moving.{over}
use Rattle.listing.specs.Line.{record_lines}
use Rattle.listing.proofs.line.put_records.Given as goal

abbrev pub invariant-loop-held : goal.invariant-loop-held
invariant-loop-held l =
    let all = record_lines l.overlay l.held-items in
    let left = record_lines l.overlay (drop l.held-index l.held-items) in
    let begun = l.initial.text in
    (over l.text.out.now l.text.at left ≡ over begun.out.now begun.at all)
    × (l.text.at + length left ≡ begun.at + length all)
    × (length l.text.out.now ≡ length begun.out.now)
    × (l.text.at ≤ begun.at + 126 * l.held-index)
    × (l.text.out.ghost_name ≡ begun.out.ghost_name)
