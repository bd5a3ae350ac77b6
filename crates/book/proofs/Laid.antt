-- Records one behind the other: where each stands, and that cutting undoes laying.
use mathlib.Core.Path.{◌≡◌, refl, sym, ap, ◌∙◌}
use mathlib.Core.List.{List, [], ◌∷◌, ◌++◌, append_assoc, append-nil}
use Prim.Native.Nat.{ℕ, zero, suc, ◌+◌, ◌*◌, ◌≤◌}
use native.Mathlib.Omega.{arith}
use lib.ListN.{length, take, drop, set, length-append, take-append-drop}
use lib.Seq.{take_at, drop_at, take-add, length-take-le}
use Rattle.octets.specs.Bytes.{Bytes}
use Rattle.octets.specs.Pieces.{pieces}
use Rattle.octets.proofs.Bytes.{bytes_append}
use Rattle.settling.specs.Meaning.{Each}
use Rattle.book.specs.Layout.{laid}

-- 145 bytes long
abbrev pub Sized : List ℕ → Type 0
Sized r = length r ≡ 145

-- what holds of each record of a list holds of each of a part

module _ {A : Type 0} (P : A → Type 0) where
  pub each_append : (k l : List A) → Each P k → Each P l → Each P (k ++ l)
  each_append [] l o p = p
  each_append (r ∷ k) l o p = (o.0, each_append k l o.1 p)

  pub each_take : (i : ℕ) (l : List A) → Each P l → Each P (take i l)
  each_take zero l o = tt
  each_take (suc i) [] o = tt
  each_take (suc i) (r ∷ l) o = (o.0, each_take i l o.1)

  pub each_drop : (i : ℕ) (l : List A) → Each P l → Each P (drop i l)
  each_drop zero l o = o
  each_drop (suc i) [] o = tt
  each_drop (suc i) (r ∷ l) o = each_drop i l o.1

  pub each_set : (i : ℕ) (l : List A) (a : A) → P a → Each P l → Each P (set l i a)
  each_set i [] a p o = tt
  each_set zero (r ∷ l) a p o = (p, o.1)
  each_set (suc i) (r ∷ l) a p o = (o.0, each_set i l a p o.1)

-- records laid

pub laid_nil : laid [] ≡ []
unfolding laid
laid_nil = refl

pub laid_cons : (r : List ℕ) (l : List (List ℕ)) → laid (r ∷ l) ≡ r ++ laid l
unfolding laid
laid_cons r l = refl

pub laid_one : (r : List ℕ) → laid (r ∷ []) ≡ r
unfolding laid
laid_one r = append-nil r

pub laid_append : (k l : List (List ℕ)) → laid (k ++ l) ≡ laid k ++ laid l
unfolding laid
laid_append [] l = refl
laid_append (r ∷ k) l = rw (laid_append k l) (sym (append_assoc r (laid k) (laid l)))

pub length_laid : (l : List (List ℕ)) → Each Sized l → length (laid l) ≡ 145 * length l
unfolding laid
length_laid [] o = refl
length_laid (r ∷ l) o = simp length-append (omega (arith, o.0, length_laid l o.1))

pub bytes_laid : (l : List (List ℕ)) → Each Bytes l → Bytes (laid l)
unfolding laid
bytes_laid [] o = tt
bytes_laid (r ∷ l) o = bytes_append r (laid l) o.0 (bytes_laid l o.1)

-- the records before place i and those from there on, where z follows them
module _ (l : List (List ℕ)) (z : List ℕ) (o : Each Sized l) (i : ℕ) (h : i ≤ length l) where
  parted : laid l ++ z ≡ laid (take i l) ++ (laid (drop i l) ++ z)
  parted =
      ap (λ (k : List (List ℕ)). laid k ++ z) (sym (take-append-drop i l))
      ∙ ap (λ (s : List ℕ). s ++ z) (laid_append (take i l) (drop i l))
      ∙ append_assoc (laid (take i l)) (laid (drop i l)) z

  before : length (laid (take i l)) ≡ 145 * i
  before = length_laid (take i l) (each_take Sized i l o) ∙ ap (λ (n : ℕ). 145 * n) (length-take-le i l h)

  pub take_laid : take (145 * i) (laid l ++ z) ≡ laid (take i l)
  take_laid = rw parted (take_at (laid (take i l)) (laid (drop i l) ++ z) (145 * i) before)

  pub drop_laid : drop (145 * i) (laid l ++ z) ≡ laid (drop i l) ++ z
  drop_laid = rw parted (drop_at (laid (take i l)) (laid (drop i l) ++ z) (145 * i) before)

-- laid again they are the bytes, and cut again the records

pub laid_pieces : (n : ℕ) (s : List ℕ) → laid (pieces 145 n s) ≡ take (145 * n) s
unfolding laid pieces
laid_pieces zero s = refl
laid_pieces (suc n) s =
    let e : 145 * suc n ≡ 145 + 145 * n = omega arith in
    rw (e, take-add 145 (145 * n) s, laid_pieces n (drop 145 s))

pub pieces_laid : (l : List (List ℕ)) (z : List ℕ) → Each Sized l → pieces 145 (length l) (laid l ++ z) ≡ l
unfolding laid pieces
pieces_laid [] z o = refl
pieces_laid (r ∷ l) z o =
    rw (append_assoc, take_at r (laid l ++ z) 145 o.0, drop_at r (laid l ++ z) 145 o.0, pieces_laid l z o.1)
