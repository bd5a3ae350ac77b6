-- Rank in one slot: "later time first; at one time the smaller address; then the smaller signature bytes."
use Rattle.std.specs.Prelude.{Bool, List, ℕ}
use Rattle.std.specs.declared.cmp.Ordering.{Ordering}
use Rattle.std.specs.Ordering.{ordering_then, ordering_reverse, is_lt}
use Rattle.octets.specs.Order.{byte_order}
use Rattle.records.specs.Record.{time_in, address_in, signature_in}

-- Less where a ranks higher than b. The last comparison never decides between two records of one slot, which differ in time, address or
-- signature if they differ at all; it makes the order total on every list, so that the theory need not ask for a length.
unfoldable pub rank_order : List ℕ → List ℕ → Ordering
rank_order a b =
    ordering_then (ordering_reverse (byte_order (time_in a) (time_in b)))
    (ordering_then (byte_order (address_in a) (address_in b))
    (ordering_then (byte_order (signature_in a) (signature_in b))
    (byte_order a b)))

-- a ranks higher than b
unfoldable pub beats : List ℕ → List ℕ → Bool
beats a b = is_lt (rank_order a b)
