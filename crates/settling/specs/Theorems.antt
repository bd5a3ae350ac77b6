-- What is proved of the book, a sentence each. proofs/Theorems.antt proves each under the same name in small letters.
use Rattle.std.specs.Prelude.{ℕ, suc, ◌≤◌, ◌<◌, ◌≡◌, ◌↔◌, length}
use Rattle.std.proofs.Math.Option.{Option, some}
use mathlib.Core.List.{List, ◌∷◌, Memᴰ}
use Rattle.settling.specs.Rank.{Shape}
use Rattle.settling.specs.Book.{State, overfull, good, offer}
use Rattle.settling.specs.Answer.{outcome}
use Rattle.settling.specs.History.{fresh, hear, valid, settled}
use Rattle.settling.specs.Meaning.{Sound, Vacant, Settles, Added, Given}

-- Histories of offers of any kind, refused ones and repeats among them
module _ {A : Type 0} (B : Shape A) {O : Type 0} (taking : O → Option A) where
  open B use {top}

  -- A fresh book that heard any offers, one after another, is what the valid ones settle to, taken together.
  abbrev pub Histories : Type 0
  Histories = (start : ℕ) (s : List O) → start ≤ top → hear B taking (fresh B start) s ≡ settled B start (valid taking s)

  -- The same by members: of all valid offers that lie inside, the highest rank of each slot, at the least depth from the starting depth
  -- on at which they fit; or overfull, where they fit at none.
  abbrev pub HistoriesByMembers : Type 0
  HistoriesByMembers = (start : ℕ) (s : List O) → start ≤ top → Settles B start (valid taking s) (hear B taking (fresh B start) s)

  -- Two fresh books of one starting depth end equal, if each valid offer to one of them is an offer to the other.
  abbrev pub OrderDoesNotMatter : Type 0
  OrderDoesNotMatter =
      (start : ℕ) (s t : List O) → start ≤ top
      → ((o : O) (a : A) → taking o ≡ some a → Memᴰ o s → Memᴰ o t)
      → ((o : O) (a : A) → taking o ≡ some a → Memᴰ o t → Memᴰ o s)
      → hear B taking (fresh B start) s ≡ hear B taking (fresh B start) t

  -- Every book on the way is sound, so that the sentences below hold of it.
  abbrev pub AlwaysSound : Type 0
  AlwaysSound = (start : ℕ) (s : List O) → start ≤ top → Sound B (hear B taking (fresh B start) s)

  -- Each answer along the way is the table's.
  abbrev pub AnswersAlongTheWay : Type 0
  AnswersAlongTheWay =
      (start : ℕ) (s : List O) (a : A) (n : ℕ) → start ≤ top
      → (outcome B (hear B taking (fresh B start) s) a ≡ n) ↔ Given B (hear B taking (fresh B start) s) a n

  -- An overfull book stays overfull, whatever it hears.
  abbrev pub OverfullForEver : Type 0
  OverfullForEver = (s : List O) → hear B taking overfull s ≡ overfull

-- One offer to any sound book, also to one that no history leads to
module _ {A : Type 0} (B : Shape A) where
  open B use {slot, near, capacity, top}

  -- What settles is fixed: the reading by members leaves no second book.
  abbrev pub SettlesOnce : Type 0
  SettlesOnce = (from : ℕ) (s : List A) (b c : State A) → Settles B from s b → Settles B from s c → b ≡ c

  -- An offer hands back a number exactly when the table gives it.
  abbrev pub Answers : Type 0
  Answers = (b : State A) (a : A) (n : ℕ) → Sound B b → (outcome B b a ≡ n) ↔ Given B b a n

  -- A number from 10 up changes nothing, and 0, 2 and 3 change the book.
  abbrev pub RefusedChangesNothing : Type 0
  RefusedChangesNothing = (b : State A) (a : A) → Sound B b → (10 ≤ outcome B b a) ↔ (offer B b a ≡ b)

  -- An offer inside the depth: the book settles anew, from its own depth on, to its records with the new one.
  abbrev pub OfferSettles : Type 0
  OfferSettles = (d : ℕ) (l : List A) (a : A) → Sound B (good d l) → d ≤ near (slot a) → Settles B d (a ∷ l) (offer B (good d l) a)

  -- One rise goes to the least depth above at which the records, the new one counted, fit, and no further.
  abbrev pub LeastDepth : Type 0
  LeastDepth = (d : ℕ) (l : List A) (a : A) → Sound B (good d l) → d ≤ near (slot a) → Vacant B l (slot a) → length l ≡ capacity → Settles B (suc d) (a ∷ l) (offer B (good d l) a)

  -- A record for an empty slot inside the depth is added while there is room.
  abbrev pub RoomIsUsed : Type 0
  RoomIsUsed = (d : ℕ) (l : List A) (a : A) → Sound B (good d l) → d ≤ near (slot a) → Vacant B l (slot a) → length l < capacity → Added B d l a

  -- Room freed by a rise is used again: the risen book, while there is room, adds a record at the depth it rose to.
  abbrev pub RoomIsUsedAgain : Type 0
  RoomIsUsedAgain =
      (d : ℕ) (l : List A) (a : A) (e : ℕ) (m : List A) → Sound B (good d l) → offer B (good d l) a ≡ good e m → d < e
      → (x : A) → e ≤ near (slot x) → Vacant B m (slot x) → length m < capacity → Added B e m x
