-- The invariant: all pairs that were compared are smaller.
use Rattle.std.proofs.Common.{◌*◌, take}
use Rattle.std.specs.Slice.Iter.{chunks_exact_rest, chunks_exact_size}
use Rattle.std.specs.Iterator.Adapters.{enumerate_source, enumerate_count}
use Rattle.sample.proofs.Placing.{Sought}
use Rattle.sample.proofs.keeping.place_of.Given as goal

abbrev pub invariant-loop-place : goal.invariant-loop-place
invariant-loop-place l =
    let chunks = enumerate_source l.place-iterator in
    Sought l.pair (take (64 * l.held) l.best) l.held (chunks_exact_rest chunks) (chunks_exact_size chunks) (enumerate_count l.place-iterator)
