-- What postage says of an offer.
use Rattle.std.specs.Prelude.{List, ℕ}
use Rattle.postage.specs.Rules.{stamp_number, checked}

-- 15, 10, 16 to 19; 0 where the stamp passes
unfoldable pub stamp_answer : List ℕ → List ℕ → List ℕ → List ℕ → ℕ
stamp_answer batches address stamp account = stamp_number (checked batches address stamp account)
