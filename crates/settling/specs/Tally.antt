-- How many records lie how near: what code counts in one pass to find a depth.
use Rattle.std.specs.Prelude.{ℕ, zero, suc, ◌+◌, ◌≤◌, min, ◌≡◌, cond, List, [], ◌∷◌, eqb, leb, length, get_or}
use Rattle.settling.specs.Rank.{Shape}
use Rattle.settling.specs.Book.{inside}

module _ {A : Type 0} (B : Shape A) where
  open B use {slot, near, capacity, top}

  -- a record's nearness; bits past the greatest depth decide nothing, so that a counter for each depth is enough
  unfoldable pub reach : A → ℕ
  reach r = min (near (slot r)) top

  -- how many records reach exactly m
  unfoldable pub tally : ℕ → List A → ℕ
  tally m [] = 0
  tally m (r ∷ l) = cond (eqb (reach r) m) 1 0 + tally m l

  -- t counts the records l
  pub record Counters (t : List ℕ) (l : List A) : Type 0 where
    pub size : length t ≡ suc top
    pub each : (m : ℕ) → m ≤ top → get_or t m 0 ≡ tally m l

  -- Of n depths from d on the least at which those of the records that lie inside it fit; one past the last where there is none.
  unfoldable pub least_fit : ℕ → ℕ → List A → ℕ
  least_fit zero d l = d
  least_fit (suc n) d l = cond (leb (length (inside B d l)) capacity) d (least_fit n (suc d) l)

unfoldable pub total : List ℕ → ℕ
total [] = 0
total (x ∷ t) = x + total t

-- The counters t are those of the depths from c on. The least depth at which the records it keeps fit; one past the last where there is none.
unfoldable pub least : ℕ → ℕ → List ℕ → ℕ
least capacity c [] = c
least capacity c (x ∷ t) = cond (leb (total (x ∷ t)) capacity) c (least capacity (suc c) t)
