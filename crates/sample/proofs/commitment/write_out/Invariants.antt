-- The invariant: before the place that is reached the sample stands written.
use Rattle.std.specs.Slice.Iter.{chunks_exact_rest, chunks_exact_size}
use Rattle.std.specs.Iterator.Adapters.{enumerate_source, enumerate_count}
use Rattle.sample.proofs.Writing.{Laid}
use Rattle.sample.proofs.commitment.write_out.Given as goal

abbrev pub invariant-loop-place : goal.invariant-loop-place
invariant-loop-place l =
    let chunks = enumerate_source l.place-iterator in
    Laid l.best l.sample (chunks_exact_rest chunks) (chunks_exact_size chunks) (enumerate_count l.place-iterator)
