-- Worked examples, computed from the definitions alone: document 01's three for capacity 16, and one for each rule of an offer. An edit of a
-- definition that keeps the laws' words but changes an answer meets a number here.
use Prim.Native.Nat.{ℕ, zero, suc, ◌+◌, ◌*◌, ◌/◌, ◌%◌}
use native.Mathlib.Omega.{arith}
use mathlib.Core.Path.{◌≡◌, refl}
use mathlib.Core.Bool.{Bool}
use mathlib.Core.List.{List, [], ◌∷◌, ◌++◌}
use lib.ListN.{length}
use lib.Dec.{ltb}
use borrow.Author.Tests.{ltb-true, ltb-false, lt-ltb, le-ltb}
use Rattle.settling.specs.Rank.{Rank, Shape, higher}
use Rattle.settling.specs.Book.{State, overfull, good, enter, inside, settle, offer}
use Rattle.settling.specs.Answer.{holder, taken, against, outcome}
use Rattle.settling.specs.History.{fresh, run}

-- A record is a number: its last digit the time, the rest the slot; the slot's hundreds are the bits it shares. Later time first.
abbrev slot_of : ℕ → ℕ
slot_of r = r / 10

abbrev later : ℕ → ℕ → Bool
later a b = ltb (b % 10) (a % 10)

by_time : Rank slot_of later
by_time = record {
  irrefl = λ a. le-ltb (a % 10) (a % 10) (omega arith);
  trans = λ a b c s r p q. lt-ltb (c % 10) (a % 10) (omega (arith, ltb-true (b % 10) (a % 10) p, ltb-true (c % 10) (b % 10) q));
  total = λ a b s p q. omega (arith, ltb-false (b % 10) (a % 10) p, ltb-false (a % 10) (b % 10) q, s);
}

abbrev sixteen : Shape ℕ
sixteen = record { slot = slot_of; beats = later; near = λ k. k / 100; capacity = 16; top = 16; rank = by_time }

-- n slots from k on, at time 5
slots : ℕ → ℕ → List ℕ
slots zero k = []
slots (suc n) k = (k * 10 + 5) ∷ slots n (suc k)

-- depth, count and the first record; nothing for overfull
shown : State ℕ → List ℕ
shown overfull = []
shown (good d []) = d ∷ 0 ∷ []
shown (good d (r ∷ l)) = d ∷ length (r ∷ l) ∷ r ∷ []

-- the answer to one more offer, and the book after it
after : List ℕ → ℕ → List ℕ
after s a = outcome sixteen (run sixteen (fresh sixteen 0) s) a ∷ shown (run sixteen (fresh sixteen 0) (s ++ (a ∷ [])))

-- Each line: what a fresh book of depth 0 heard and the next offer; its answer, and the book's depth, count and first record after it.
sheet :
    -- document 01: nine slots that share no bit and seven that share one; eight of each; seventeen that share sixteen
    (after (slots 9 0 ++ slots 7 100) 1505 ≡ 0 ∷ 1 ∷ 8 ∷ 1005 ∷ [])
    × (after (slots 8 0 ++ slots 8 100) 505 ≡ 2 ∷ 1 ∷ 8 ∷ 1005 ∷ [])
    × (after (slots 16 1600) 16505 ≡ 3 ∷ [])
    -- overfull for ever
    × (after (slots 17 1600) 16505 ≡ 14 ∷ [])
    -- one step would drop nothing
    × (after (slots 10 300 ++ slots 6 500) 5505 ≡ 0 ∷ 4 ∷ 7 ∷ 5005 ∷ [])
    -- the new one alone goes, and as many as the capacity fit
    × (after (slots 16 300) 5 ≡ 2 ∷ 1 ∷ 16 ∷ 3005 ∷ [])
    -- room freed by a rise is used again; what lies outside since is refused
    × (after (slots 9 0 ++ slots 8 100) 1505 ≡ 0 ∷ 1 ∷ 9 ∷ 1005 ∷ [])
    × (after (slots 9 0 ++ slots 8 100) 505 ≡ 20 ∷ 1 ∷ 8 ∷ 1005 ∷ [])
    -- in one slot a later time, an earlier one, this very record
    × (after (slots 1 300) 3007 ≡ 0 ∷ 0 ∷ 1 ∷ 3007 ∷ [])
    × (after (slots 1 300) 3002 ≡ 22 ∷ 0 ∷ 1 ∷ 3005 ∷ [])
    × (after (slots 1 300) 3005 ≡ 21 ∷ 0 ∷ 1 ∷ 3005 ∷ [])
unfolding after shown slots outcome run fresh offer settle enter inside higher holder taken against
sheet = (refl, refl, refl, refl, refl, refl, refl, refl, refl, refl, refl)
