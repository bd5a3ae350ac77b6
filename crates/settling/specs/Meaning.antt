-- The notions by which the sentences on a book are read: by members, without computing.
use Rattle.std.specs.Prelude.{ℕ, suc, ◌≤◌, ◌<◌, ◌≡◌, true, false, ◌⊎◌, ◌↔◌, length}
use mathlib.Core.List.{List, [], ◌∷◌, Memᴰ}
use Rattle.settling.specs.Rank.{Shape}
use Rattle.settling.specs.Book.{State, overfull, good, offer}
use Rattle.settling.specs.Answer.{outcome}

-- P holds of each member
abbrev pub Each : {A : Type 0} (P : A → Type 0) → List A → Type 0
Each P [] = Unit {0}
Each P (r ∷ l) = P r × Each P l

-- P holds of each record of the book
abbrev pub Every : {A : Type 0} (P : A → Type 0) → State A → Type 0
Every P overfull = Unit {0}
Every P (good d l) = Each P l

module _ {A : Type 0} (B : Shape A) where
  open B use {slot, beats, near, capacity, top}

  -- strictly ascending by slot
  abbrev pub Ascending : List A → Type 0
  Ascending [] = Unit {0}
  Ascending (r ∷ l) = Each (λ q. slot r < slot q) l × Ascending l

  -- what document 01 asks of the depth, the count and the records of a well-formed book that is good
  pub record Kept (d : ℕ) (l : List A) : Type 0 where
    pub shallow : d ≤ top
    pub ascending : Ascending l
    pub inner : Each (λ r. d ≤ near (slot r)) l
    pub fits : length l ≤ capacity

  abbrev pub Sound : State A → Type 0
  Sound overfull = Unit {0}
  Sound (good d l) = Kept d l

  -- the book holds this very record
  abbrev pub Holds : State A → A → Type 0
  Holds overfull a = ⊥
  Holds (good d l) a = Memᴰ a l

  -- shared bits below depth
  abbrev pub Outside : State A → A → Type 0
  Outside overfull a = ⊥
  Outside (good d l) a = near (slot a) < d

  -- the slot of a is held by a higher rank
  pub record Outranked (b : State A) (a : A) : Type 0 where
    pub by : A
    pub held : Holds b by
    pub same_slot : slot by ≡ slot a
    pub higher_rank : beats by a ≡ true

  -- no record has slot k
  abbrev pub Vacant : List A → ℕ → Type 0
  Vacant l k = (r : A) → Memᴰ r l → slot r ≡ k → ⊥

  -- the depth of the second is greater
  abbrev pub Raised : State A → State A → Type 0
  Raised overfull c = ⊥
  Raised (good d l) overfull = ⊥
  Raised (good d l) (good e m) = d < e

  -- a is offered, and no offer of its slot ranks higher
  pub record Wins (s : List A) (a : A) : Type 0 where
    pub offered : Memᴰ a s
    pub unbeaten : (q : A) → Memᴰ q s → slot q ≡ slot a → beats q a ≡ false

  -- l is the list of the winners of s that lie inside depth d
  pub record Winners (s : List A) (d : ℕ) (l : List A) : Type 0 where
    pub ascending : Ascending l
    pub members : (a : A) → Memᴰ a l ↔ (Wins s a × (d ≤ near (slot a)))

  -- the winners of s inside depth d are more than the capacity
  pub record Crowded (s : List A) (d : ℕ) : Type 0 where
    pub list : List A
    pub winning : Winners s d list
    pub more : capacity < length list

  -- What the records s settle to from a depth on: of each slot the highest rank, inside the least depth at which they fit; overfull where
  -- they fit at none.
  pub data Settles (from : ℕ) (s : List A) : State A → Type 0 where
    fitting : (d : ℕ) (l : List A) → from ≤ d → d ≤ top → Winners s d l → length l ≤ capacity → ((c : ℕ) → from ≤ c → c < d → Crowded s c) → Settles from s (good d l)
    bursting : ((c : ℕ) → from ≤ c → c ≤ top → Crowded s c) → Settles from s overfull

  -- the offer of a to this good book added one record, at the same depth
  pub record Added (d : ℕ) (l : List A) (a : A) : Type 0 where
    pub list : List A
    pub ends : offer B (good d l) a ≡ good d list
    pub one_more : length list ≡ suc (length l)
    pub members : (r : A) → Memᴰ r list ↔ ((r ≡ a) ⊎ Memᴰ r l)
    pub answer : outcome B (good d l) a ≡ 0

  -- Document 01's table for the offer of a to the book b: each number, and when it is given.
  pub data Given (b : State A) (a : A) : ℕ → Type 0 where
    kept : (Holds b a → ⊥) → Holds (offer B b a) a → Given b a 0
    dropped : Raised b (offer B b a) → Outside (offer B b a) a → Given b a 2
    bursts : (b ≡ overfull → ⊥) → offer B b a ≡ overfull → Given b a 3
    already : b ≡ overfull → Given b a 14
    outside : Outside b a → Given b a 20
    very : Holds b a → Given b a 21
    outranked : Outranked b a → Given b a 22
