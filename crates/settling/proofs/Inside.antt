-- The records inside a depth, ascending lists, and how entering and dropping go past each other.
use Prim.Native.Nat.{ℕ, ◌≤◌, ◌<◌}
use native.Mathlib.Omega.{arith}
use native.Mathlib.Nat.{le_refl}
use mathlib.Core.Path.{◌≡◌, refl, sym, ◌∙◌, ap}
use mathlib.Core.List.{List, [], ◌∷◌, ◌++◌}
use lib.ListN.{length}
use borrow.Author.Tests.{lt-leb, le-leb}
use Rattle.settling.specs.Rank.{Shape, higher}
use Rattle.settling.specs.Book.{enter, inside}
use Rattle.settling.specs.History.{enter_all}
use Rattle.settling.specs.Meaning.{Each, Ascending}
use Rattle.settling.proofs.Cases.{Side, below, level, above, side, Limit, within, beyond, limit}
use Rattle.settling.proofs.Rank.{higher_slot, Chosen, first, second, chosen}
use Rattle.settling.proofs.Enter.{enter_nil, enter_lt, enter_eq, enter_gt, enter_more, enter_all_enter}

pub each_map : {A : Type 0} (P Q : A → Type 0) → ((a : A) → P a → Q a) → (l : List A) → Each P l → Each Q l
each_map P Q f [] o = tt
each_map P Q f (r ∷ l) o = (f r o.0, each_map P Q f l o.1)

module _ {A : Type 0} (B : Shape A) where
  open B use {slot, beats, near, rank}

  pub inside_nil : (d : ℕ) → inside B d [] ≡ []
  unfolding inside
  inside_nil d = refl

  pub inside_in_lem : (d : ℕ) (r : A) (l : List A) → d ≤ near (slot r) → inside B d (r ∷ l) ≡ r ∷ inside B d l
  unfolding inside
  inside_in_lem d r l p = cc (le-leb d (near (slot r)) p)

  pub inside_out : (d : ℕ) (r : A) (l : List A) → near (slot r) < d → inside B d (r ∷ l) ≡ inside B d l
  unfolding inside
  inside_out d r l p = cc (lt-leb d (near (slot r)) p)

  -- a smaller depth first changes nothing
  pub inside_inside : (e d : ℕ) (l : List A) → e ≤ d → inside B d (inside B e l) ≡ inside B d l
  inside_inside e d [] p = rw (inside_nil e)
  inside_inside e d (r ∷ l) p = go (inside_inside e d l p) (limit e (near (slot r))) (limit d (near (slot r)))
    where
      go : inside B d (inside B e l) ≡ inside B d l → Limit e (near (slot r)) → Limit d (near (slot r)) → inside B d (inside B e (r ∷ l)) ≡ inside B d (r ∷ l)
      go ih (within q) (within k) = rw (inside_in_lem e r l q, inside_in_lem d r l k, inside_in_lem d r (inside B e l) k, ih)
      go ih (within q) (beyond k) = rw (inside_in_lem e r l q, inside_out d r l k, inside_out d r (inside B e l) k, ih)
      go ih (beyond q) (within k) = absurd (omega arith)
      go ih (beyond q) (beyond k) = rw (inside_out e r l q, inside_out d r l k, ih)

  pub inside_append : (d : ℕ) (l m : List A) → inside B d (l ++ m) ≡ inside B d l ++ inside B d m
  inside_append d [] m = rw (inside_nil d)
  inside_append d (r ∷ l) m = go (inside_append d l m) (limit d (near (slot r)))
    where
      go : inside B d (l ++ m) ≡ inside B d l ++ inside B d m → Limit d (near (slot r)) → inside B d (r ∷ (l ++ m)) ≡ inside B d (r ∷ l) ++ inside B d m
      go ih (within p) = rw (inside_in_lem d r (l ++ m) p, inside_in_lem d r l p, ih)
      go ih (beyond p) = rw (inside_out d r (l ++ m) p, inside_out d r l p, ih)

  pub inside_less : (d : ℕ) (l : List A) → length (inside B d l) ≤ length l
  inside_less d [] = rw (inside_nil d) (le_refl _)
  inside_less d (r ∷ l) = go (inside_less d l) (limit d (near (slot r)))
    where
      go : length (inside B d l) ≤ length l → Limit d (near (slot r)) → length (inside B d (r ∷ l)) ≤ length (r ∷ l)
      go ih (within q) = rw (inside_in_lem d r l q) (omega arith)
      go ih (beyond q) = rw (inside_out d r l q) (omega arith)

  -- where all lie inside, all stay; and those that stay lie inside
  pub inside_all : (d : ℕ) (l : List A) → Each (λ r. d ≤ near (slot r)) l → inside B d l ≡ l
  inside_all d [] o = inside_nil d
  inside_all d (r ∷ l) o = inside_in_lem d r l o.0 ∙ ap (λ (m : List A). r ∷ m) (inside_all d l o.1)

  pub inside_inner : (d : ℕ) (l : List A) → Each (λ r. d ≤ near (slot r)) (inside B d l)
  inside_inner d [] = rw (inside_nil d) tt
  inside_inner d (r ∷ l) = go (inside_inner d l) (limit d (near (slot r)))
    where
      go : Each (λ q. d ≤ near (slot q)) (inside B d l) → Limit d (near (slot r)) → Each (λ q. d ≤ near (slot q)) (inside B d (r ∷ l))
      go ih (within q) = rw (inside_in_lem d r l q) (q, ih)
      go ih (beyond q) = rw (inside_out d r l q) ih

  -- what holds of each record goes on to hold
  module _ (P : A → Type 0) where
    pub each_inside : (d : ℕ) (l : List A) → Each P l → Each P (inside B d l)
    each_inside d [] o = rw (inside_nil d) tt
    each_inside d (r ∷ l) o = go (each_inside d l o.1) (limit d (near (slot r)))
      where
        go : Each P (inside B d l) → Limit d (near (slot r)) → Each P (inside B d (r ∷ l))
        go ih (within q) = rw (inside_in_lem d r l q) (o.0, ih)
        go ih (beyond q) = rw (inside_out d r l q) ih

    pub each_enter : (a : A) (l : List A) → P a → Each P l → Each P (enter B a l)
    each_enter a [] p o = rw (enter_nil B a) (p, tt)
    each_enter a (r ∷ l) p o = go (each_enter a l p o.1) (side (slot a) (slot r)) (chosen beats r a)
      where
        go : Each P (enter B a l) → Side (slot a) (slot r) → Chosen beats r a → Each P (enter B a (r ∷ l))
        go ih (below q) c = rw (enter_lt B a r l q) (p, o)
        go ih (level q) (first u e) = rw (enter_eq B a r l q, e) o
        go ih (level q) (second u e) = rw (enter_eq B a r l q, e) (p, o.1)
        go ih (above q) c = rw (enter_gt B a r l q) (o.0, ih)

  -- ascending lists stay ascending
  pub above_lower : (j k : ℕ) (l : List A) → j ≤ k → Each (λ r. k < slot r) l → Each (λ r. j < slot r) l
  above_lower j k l p = each_map (λ r. k < slot r) (λ r. j < slot r) (λ a h. omega arith) l

  pub ascending_inside : (d : ℕ) (l : List A) → Ascending B l → Ascending B (inside B d l)
  ascending_inside d [] o = rw (inside_nil d) tt
  ascending_inside d (r ∷ l) o = go (ascending_inside d l o.1) (limit d (near (slot r)))
    where
      go : Ascending B (inside B d l) → Limit d (near (slot r)) → Ascending B (inside B d (r ∷ l))
      go ih (within q) = rw (inside_in_lem d r l q) (each_inside (λ q. slot r < slot q) d l o.0, ih)
      go ih (beyond q) = rw (inside_out d r l q) ih

  pub ascending_enter : (a : A) (l : List A) → Ascending B l → Ascending B (enter B a l)
  ascending_enter a [] o = rw (enter_nil B a) (tt, tt)
  ascending_enter a (r ∷ l) o = go (ascending_enter a l o.1) (side (slot a) (slot r))
    where
      go : Ascending B (enter B a l) → Side (slot a) (slot r) → Ascending B (enter B a (r ∷ l))
      go ih (below q) = rw (enter_lt B a r l q) ((q, above_lower (slot a) (slot r) l (omega arith) o.0), o)
      go ih (level q) = rw (enter_eq B a r l q) (rw (higher_slot rank r a (sym q)) o.0, o.1)
      go ih (above q) = rw (enter_gt B a r l q) (each_enter (λ x. slot r < slot x) a l q o.0, ih)

  pub ascending_enter_all : (l s : List A) → Ascending B l → Ascending B (enter_all B l s)
  unfolding enter_all
  ascending_enter_all l [] o = o
  ascending_enter_all l (a ∷ s) o = ascending_enter_all (enter B a l) s (ascending_enter a l o)

  pub enter_front : (a : A) (l : List A) → Each (λ r. slot a < slot r) l → enter B a l ≡ a ∷ l
  enter_front a [] o = enter_nil B a
  enter_front a (r ∷ l) o = enter_lt B a r l o.0

  -- an ascending list is what its own records make
  pub enter_all_ascending : (l : List A) → Ascending B l → enter_all B [] l ≡ l
  unfolding enter_all
  enter_all_ascending [] o = refl
  enter_all_ascending (r ∷ l) o = enter_all_enter B r [] l ∙ rw (enter_all_ascending l o.1) (enter_front r l o.0)

  -- a record outside the depth leaves what is inside as it was
  pub inside_enter_out : (d : ℕ) (a : A) (l : List A) → near (slot a) < d → inside B d (enter B a l) ≡ inside B d l
  inside_enter_out d a [] p = rw (enter_nil B a) (inside_out d a [] p)
  inside_enter_out d a (r ∷ l) p = go (inside_enter_out d a l p) (side (slot a) (slot r)) (limit d (near (slot r)))
    where
      go : inside B d (enter B a l) ≡ inside B d l → Side (slot a) (slot r) → Limit d (near (slot r)) → inside B d (enter B a (r ∷ l)) ≡ inside B d (r ∷ l)
      go ih (below q) k = rw (enter_lt B a r l q) (inside_out d a (r ∷ l) p)
      go ih (level q) k =
          let x : near (slot r) < d = rw (← q) p in
          let y : near (slot (higher beats r a)) < d = rw (higher_slot rank r a (sym q)) x in
          rw (enter_eq B a r l q, inside_out d r l x, inside_out d (higher beats r a) l y)
      go ih (above q) (within k) = rw (enter_gt B a r l q, inside_in_lem d r l k, inside_in_lem d r (enter B a l) k, ih)
      go ih (above q) (beyond k) = rw (enter_gt B a r l q, inside_out d r l k, inside_out d r (enter B a l) k, ih)

  -- a record inside the depth may enter before or after the others are dropped
  pub inside_enter_in : (d : ℕ) (a : A) (l : List A) → d ≤ near (slot a) → Ascending B l → inside B d (enter B a l) ≡ enter B a (inside B d l)
  inside_enter_in d a [] p o = rw (enter_nil B a, inside_nil d, inside_in_lem d a [] p, inside_nil d, enter_nil B a)
  inside_enter_in d a (r ∷ l) p o = go (inside_enter_in d a l p o.1) (side (slot a) (slot r)) (limit d (near (slot r)))
    where
      go : inside B d (enter B a l) ≡ enter B a (inside B d l) → Side (slot a) (slot r) → Limit d (near (slot r)) → inside B d (enter B a (r ∷ l)) ≡ enter B a (inside B d (r ∷ l))
      go ih (below q) k =
          let w : Each (λ x. slot a < slot x) (r ∷ l) = (q, above_lower (slot a) (slot r) l (omega arith) o.0) in
          rw (enter_lt B a r l q, inside_in_lem d a (r ∷ l) p) (sym (enter_front a _ (each_inside (λ x. slot a < slot x) d (r ∷ l) w)))
      go ih (level q) k =
          let x : d ≤ near (slot r) = rw (← q) p in
          let y : d ≤ near (slot (higher beats r a)) = rw (higher_slot rank r a (sym q)) x in
          rw (enter_eq B a r l q, inside_in_lem d r l x, inside_in_lem d (higher beats r a) l y, enter_eq B a r (inside B d l) q)
      go ih (above q) (within k) = rw (enter_gt B a r l q, inside_in_lem d r l k, inside_in_lem d r (enter B a l) k, enter_gt B a r (inside B d l) q, ih)
      go ih (above q) (beyond k) = rw (enter_gt B a r l q, inside_out d r l k, inside_out d r (enter B a l) k, ih)

  -- a record more never leaves fewer
  pub inside_more : (d : ℕ) (a : A) (l : List A) → Ascending B l → length (inside B d l) ≤ length (inside B d (enter B a l))
  inside_more d a l o = go (limit d (near (slot a)))
    where
      go : Limit d (near (slot a)) → length (inside B d l) ≤ length (inside B d (enter B a l))
      go (within p) = rw (inside_enter_in d a l p o) (enter_more B a (inside B d l))
      go (beyond p) = rw (inside_enter_out d a l p) (le_refl _)
