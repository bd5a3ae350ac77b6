-- Two passes make one, cut at the place; then the law of the bytes, at the stores.
use mathlib.Core.Path.{ap, ◌∙◌}
use native.Mathlib.Omega.{arith}
use Prim.Native.Nat.{◌+◌, ◌-◌, ◌*◌, ◌≤◌}
use lib.ListN.{length}
use Rattle.octets.specs.Number.{bytes_of}
use Rattle.filing.proofs.Packing.{packed_start}
use Rattle.filing.proofs.Keeping
use Rattle.filing.proofs.keep.close_up.Goals as goal

pub shape_of-book : goal.shape_of-book
shape_of-book c =
    let a = c.args in
    omega (arith, Keeping.same_size c.pack-all.new.book c.clear.new.s c.write.new.s (48 + 145 * c.pack-all.result) (145 * (a.count - c.pack-all.result)) a.depth (bytes_of 4 c.pack-all.result) c.clear.ensures c.write.ensures)

pub returns : goal.returns
returns c =
    let a = c.args in
    let s = a.book.now in
    let room : 48 + 145 * a.count ≤ length s = c.requires.3 in
    let first = c.pack-before.ensures.1 s a.count (omega arith) room (packed_start s a.count a.depth) in
    let all = c.pack-all.ensures.1 s a.count (omega arith) room first in
    record {
      value = first.kept ∙ ap length (Keeping.same_inside s a.count c.requires.2 room a.depth a.at);
      book_after = Keeping.packed_bytes s a.count c.requires.2 room a.depth c.pack-all.new.book c.pack-all.result all c.clear.new.s c.write.new.s c.clear.ensures c.write.ensures;
    }
