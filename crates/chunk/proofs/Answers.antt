-- What is accepted.
use Rattle.std.specs.Prelude.{Ok, List, ◌≡◌, ℕ, ◌≤◌, length}
use borrow.Author.Tests.{eq-eqb, le-ltb}
use Rattle.merkle.specs.Tree.{address_of}
use Rattle.chunk.specs.Answer.{addressed, anchored_addressed}

pub addressed_done : (prefix span chunk : List ℕ) → length span ≡ 8 → length chunk ≤ 4096
    → addressed prefix span chunk ≡ Ok (address_of prefix span chunk)
unfolding addressed
addressed_done prefix span chunk h k = rw (eq-eqb _ _ h, le-ltb _ _ k)

pub anchored_addressed_done : (anchor span chunk : List ℕ) → length anchor ≡ 32 → length span ≡ 8 → length chunk ≤ 4096
    → anchored_addressed anchor span chunk ≡ Ok (address_of anchor span chunk)
unfolding anchored_addressed
anchored_addressed_done anchor span chunk a h k = rw (eq-eqb _ _ a) (addressed_done anchor span chunk h k)
