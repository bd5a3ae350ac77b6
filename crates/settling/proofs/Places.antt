-- Records by their place in the list, as code finds them: the place of a slot by halving, and what entering, keeping and replacing do there.
use Prim.Native.Nat.{ℕ, zero, suc, ◌+◌, ◌≤◌, ◌<◌}
use native.Mathlib.Omega.{arith}
use native.Mathlib.Numerals.{add-one}
use mathlib.Core.Path.{◌≡◌, refl, sym, ◌∙◌, ap}
use mathlib.Core.List.{List, [], ◌∷◌, ◌++◌, Memᴰ, append-nil}
use mathlib.Core.Option.{some}
use lib.ListN.{length, take, drop, get_or, set, take-append-drop}
use lib.Seq.{take-suc, take-append_seam, drop-append_seam}
use Rattle.settling.specs.Rank.{Shape, higher}
use Rattle.settling.specs.Book.{enter, inside}
use Rattle.settling.specs.Answer.{holder}
use Rattle.settling.specs.Meaning.{Each, Ascending, Vacant}
use Rattle.settling.proofs.Cases.{Side, below, level, above, side}
use Rattle.settling.proofs.Enter.{enter_nil, enter_lt, enter_eq, enter_gt}
use Rattle.settling.proofs.Inside.{inside_nil, inside_in_lem, inside_out, inside_append, above_lower}
use Rattle.settling.proofs.Members.{each_member}
use Rattle.settling.proofs.Holders.{holder_member}

-- the record at a place, where z stands past the end
module _ {A : Type 0} (z : A) where
  pub member_at : (l : List A) (i : ℕ) → i < length l → Memᴰ (get_or l i z) l
  member_at [] i h = absurd (omega arith)
  member_at (r ∷ l) zero h = Memᴰ.head refl
  member_at (r ∷ l) (suc i) h = Memᴰ.tail (member_at l i (omega arith))

  pub each_at : (P : A → Type 0) (l : List A) (i : ℕ) → Each P l → i < length l → P (get_or l i z)
  each_at P l i o h = each_member P (get_or l i z) l o (member_at l i h)

  pub at_each : (P : A → Type 0) (l : List A) → ((i : ℕ) → i < length l → P (get_or l i z)) → Each P l
  at_each P [] f = tt
  at_each P (r ∷ l) f = (f zero (omega arith), at_each P l (λ i h. f (suc i) (omega arith)))

module _ {A : Type 0} (B : Shape A) (z : A) where
  open B use {slot, beats, near}

  -- the slot's number at a place
  abbrev pub slot_at : List A → ℕ → ℕ
  slot_at l i = slot (get_or l i z)

  pub ascending_at : (l : List A) (i j : ℕ) → Ascending B l → i < j → j < length l → slot_at l i < slot_at l j
  ascending_at [] i j o p h = absurd (omega arith)
  ascending_at (r ∷ l) i zero o p h = absurd (omega arith)
  ascending_at (r ∷ l) zero (suc j) o p h = each_at z (λ q. slot r < slot q) l j o.0 (omega arith)
  ascending_at (r ∷ l) (suc i) (suc j) o p h = ascending_at l i j o.1 (omega arith) (omega arith)

  -- a list whose every slot is below the next one's
  pub at_ascending : (l : List A) → ((i : ℕ) → suc i < length l → slot_at l i < slot_at l (suc i)) → Ascending B l
  at_ascending [] f = tt
  at_ascending (r ∷ []) f = (tt, tt)
  at_ascending (r ∷ q ∷ l) f =
      let k : slot r < slot q = f zero (omega arith) in
      let o : Ascending B (q ∷ l) = at_ascending (q ∷ l) (λ i h. f (suc i) (omega arith)) in
      ((k, above_lower B (slot r) (slot q) l (omega arith) o.0), o)

  -- halving: slots before lo are lower than k, slots from hi on are not
  pub record Halving (l : List A) (k lo hi : ℕ) : Type 0 where
    pub ordered : lo ≤ hi
    pub bounded : hi ≤ length l
    pub lower : (j : ℕ) → j < lo → slot_at l j < k
    pub upper : (j : ℕ) → hi ≤ j → j < length l → k ≤ slot_at l j

  pub halving_start : (l : List A) (k : ℕ) → Halving l k 0 (length l)
  halving_start l k = record { ordered = omega arith; bounded = omega arith; lower = λ j h. absurd (omega arith); upper = λ j h p. absurd (omega arith) }

  module _ (l : List A) (k lo hi m : ℕ) (o : Ascending B l) (w : Halving l k lo hi) (from : lo ≤ m) (to : m < hi) where
    in_list : m < length l
    in_list = let b : hi ≤ length l = w.bounded in omega arith

    pub halving_up : slot_at l m < k → Halving l k (m + 1) hi
    halving_up h = record { ordered = omega (arith, to); bounded = w.bounded; lower = λ j q. go j q (side j m); upper = w.upper }
      where
        go : (j : ℕ) → j < m + 1 → Side j m → slot_at l j < k
        go j q (below p) = let x : slot_at l j < slot_at l m = ascending_at l j m o p in_list in omega (arith, x, h)
        go j q (level p) = rw p h
        go j q (above p) = absurd (omega arith)

    pub halving_down : k ≤ slot_at l m → Halving l k lo m
    halving_down h = record { ordered = from; bounded = omega (arith, in_list); lower = w.lower; upper = λ j q p. go j q p (side m j) }
      where
        go : (j : ℕ) → m ≤ j → j < length l → Side m j → k ≤ slot_at l j
        go j q p (below s) = let x : slot_at l m < slot_at l j = ascending_at l m j o s p in omega (arith, x, h)
        go j q p (level s) = rw (← s) h
        go j q p (above s) = absurd (omega arith)

  -- The place i of slot k: where halving ends. It is vacant if the list ends there or a greater slot follows.
  abbrev pub Place : List A → ℕ → ℕ → Type 0
  Place l k i = Halving l k i i

  place_tail : (r : A) (l : List A) (k i : ℕ) → Place (r ∷ l) k (suc i) → Place l k i
  place_tail r l k i w =
      let b : suc i ≤ length (r ∷ l) = w.bounded in
      record { ordered = omega arith; bounded = omega arith; lower = λ j h. w.lower (suc j) (omega arith); upper = λ j h p. w.upper (suc j) (omega arith) (omega arith) }

  pub enter_at : (a : A) (l : List A) (i : ℕ) → Place l (slot a) i → (i < length l → slot a < slot_at l i) → enter B a l ≡ take i l ++ (a ∷ drop i l)
  enter_at a [] zero w v = enter_nil B a
  enter_at a [] (suc i) w v = absurd (omega (arith, w.bounded))
  enter_at a (r ∷ l) zero w v = enter_lt B a r l (v (omega arith))
  enter_at a (r ∷ l) (suc i) w v = enter_gt B a r l (w.lower zero (omega arith)) ∙ ap (λ (t : List A). r ∷ t) (enter_at a l i (place_tail r l (slot a) i w) (λ h. v (omega arith)))

  pub vacant_at : (k : ℕ) (l : List A) (i : ℕ) → Ascending B l → Place l k i → (i < length l → k < slot_at l i) → Vacant B l k
  vacant_at k l zero o w v r m e = absurd (omega (arith, from_first l o v r m))
    where
      from_first : (l : List A) → Ascending B l → (0 < length l → k < slot_at l 0) → (r : A) → Memᴰ r l → k < slot r
      from_first (q ∷ l) o v r (Memᴰ.head e) = rw e (v (omega arith))
      from_first (q ∷ l) o v r (Memᴰ.tail m) = let x : slot q < slot r = each_member (λ y. slot q < slot y) r l o.0 m in let y : k < slot q = v (omega arith) in omega arith
      from_first [] o v r never = elim never [ ]
  vacant_at k [] (suc i) o w v r m e = absurd (omega (arith, w.bounded))
  vacant_at k (q ∷ l) (suc i) o w v r (Memᴰ.head f) e = absurd (omega (arith, w.lower zero (omega arith), ap slot f))
  vacant_at k (q ∷ l) (suc i) o w v r (Memᴰ.tail m) e = vacant_at k l i o.1 (place_tail q l k i w) (λ h. v (omega arith)) r m e

  -- a held slot
  pub enter_at_held : (a : A) (l : List A) (i : ℕ) → Place l (slot a) i → i < length l → slot_at l i ≡ slot a → enter B a l ≡ set l i (higher beats (get_or l i z) a)
  enter_at_held a [] i w h e = absurd (omega arith)
  enter_at_held a (r ∷ l) zero w h e = enter_eq B a r l (sym e)
  enter_at_held a (r ∷ l) (suc i) w h e = enter_gt B a r l (w.lower zero (omega arith)) ∙ ap (λ (t : List A). r ∷ t) (enter_at_held a l i (place_tail r l (slot a) i w) (omega arith) e)

  pub holder_at : (l : List A) (i : ℕ) → Ascending B l → i < length l → holder B (slot_at l i) l ≡ some (get_or l i z)
  holder_at l i o h = holder_member B (get_or l i z) l o (member_at z l i h)

  -- a pass that keeps the records inside depth d, one record more
  pub inside_next_in : (d : ℕ) (l : List A) (i : ℕ) → i < length l → d ≤ near (slot_at l i) → inside B d (take (i + 1) l) ≡ inside B d (take i l) ++ (get_or l i z ∷ [])
  inside_next_in d l i h p = rw (add-one i, take-suc l i z h, inside_append B d (take i l) (get_or l i z ∷ []), inside_in_lem B d (get_or l i z) [] p, inside_nil B d)

  pub inside_next_out : (d : ℕ) (l : List A) (i : ℕ) → i < length l → near (slot_at l i) < d → inside B d (take (i + 1) l) ≡ inside B d (take i l)
  inside_next_out d l i h p = rw (add-one i, take-suc l i z h, inside_append B d (take i l) (get_or l i z ∷ []), inside_out B d (get_or l i z) [] p, inside_nil B d) (append-nil _)

-- those kept before place i, and those kept from there on
module _ {A : Type 0} (B : Shape A) (d : ℕ) (l : List A) (i : ℕ) where
  inside_split : inside B d l ≡ inside B d (take i l) ++ inside B d (drop i l)
  inside_split = ap (inside B d) (sym (take-append-drop i l)) ∙ inside_append B d (take i l) (drop i l)

  pub kept_before : take (length (inside B d (take i l))) (inside B d l) ≡ inside B d (take i l)
  kept_before = rw inside_split (take-append_seam (inside B d (take i l)) (inside B d (drop i l)))

  pub kept_after : drop (length (inside B d (take i l))) (inside B d l) ≡ inside B d (drop i l)
  kept_after = rw inside_split (drop-append_seam (inside B d (take i l)) (inside B d (drop i l)))
