-- A part with zeros behind it, cut in two, and the root of such a part.
use mathlib.Core.Path.{◌≡◌, refl, sym, ap, ap₂, ◌∙◌}
use mathlib.Core.List.{List, [], ◌∷◌, ◌++◌}
use Prim.Native.Nat.{ℕ, zero, suc, ◌+◌, ◌-◌, ◌≤◌, min}
use native.Mathlib.Nat.{suc-add, zero-add, pow-suc, le_of_suc-le-suc, suc-sub-suc, sub-zero, suc_inj}
use native.Mathlib.Omega.{arith}
use lib.ListN.{length, take, drop, replicate, length-drop}
use lib.Seq.{take-nil, drop-nil, length-take-le}
use Rattle.std.proofs.Math.Nat.{min_comm}
use Rattle.std.proofs.lemmas.List.{take_min, drop_min}
use Rattle.keccak.proofs.Theorems.{digest_length}
use Rattle.merkle.specs.Tree.{pad_to, width, hash, root}

-- ---- zeros behind

pub pad_length : (n : ℕ) (s : List ℕ) → length (pad_to n s) ≡ n
unfolding pad_to
pad_length zero s = refl
pad_length (suc n) [] = ap suc (pad_length n [])
pad_length (suc n) (b ∷ s) = ap suc (pad_length n s)

-- a part of just that many bytes gets none
pub pad_none : (n : ℕ) (s : List ℕ) → length s ≡ n → pad_to n s ≡ s
unfolding pad_to
pad_none zero [] e = refl
pad_none zero (b ∷ s) e = absurd (omega arith)
pad_none (suc n) [] e = absurd (omega arith)
pad_none (suc n) (b ∷ s) e = ap (λ (t : List ℕ). b ∷ t) (pad_none n s (suc_inj e))

pub pad_nothing : (n : ℕ) → pad_to n [] ≡ replicate n 0
unfolding pad_to
pad_nothing zero = refl
pad_nothing (suc n) = ap (λ (t : List ℕ). 0 ∷ t) (pad_nothing n)

-- the zeros are as many as the part lacks
pub pad_behind : (n : ℕ) (s : List ℕ) → length s ≤ n → pad_to n s ≡ s ++ replicate (n - length s) 0
unfolding pad_to
pad_behind zero [] h = refl
pad_behind zero (b ∷ s) h = absurd (omega arith)
pad_behind (suc n) [] h = rw sub-zero (pad_nothing (suc n))
pad_behind (suc n) (b ∷ s) h = rw suc-sub-suc (ap (λ (t : List ℕ). b ∷ t) (pad_behind n s (le_of_suc-le-suc h)))

-- ---- cut in two

pub pad_take : (a b : ℕ) (s : List ℕ) → take a (pad_to (a + b) s) ≡ pad_to a (take a s)
unfolding pad_to
pad_take zero b s = refl
pad_take (suc a) b [] = rw suc-add (ap (λ (t : List ℕ). 0 ∷ t) (pad_take a b [] ∙ ap (pad_to a) (take-nil a)))
pad_take (suc a) b (x ∷ s) = rw suc-add (ap (λ (t : List ℕ). x ∷ t) (pad_take a b s))

pub pad_drop : (a b : ℕ) (s : List ℕ) → drop a (pad_to (a + b) s) ≡ pad_to b (drop a s)
unfolding pad_to
pad_drop zero b s = ap (λ (n : ℕ). pad_to n s) (zero-add b)
pad_drop (suc a) b [] = rw suc-add (pad_drop a b [] ∙ ap (pad_to b) (drop-nil a))
pad_drop (suc a) b (x ∷ s) = rw suc-add (pad_drop a b s)

-- what lies past the first n bytes does not count
pub pad_first : (n : ℕ) (s : List ℕ) → pad_to n (take n s) ≡ pad_to n s
unfolding pad_to
pad_first zero s = refl
pad_first (suc n) [] = refl
pad_first (suc n) (x ∷ s) = ap (λ (t : List ℕ). x ∷ t) (pad_first n s)

-- a cut at n, or at the end where that comes first
pub cut_take : (n : ℕ) (s : List ℕ) → take (min (length s) n) s ≡ take n s
cut_take n s = rw (min_comm (length s) n) (take_min n s)

pub cut_drop : (n : ℕ) (s : List ℕ) → drop (min (length s) n) s ≡ drop n s
cut_drop n s = rw (min_comm (length s) n) (drop_min n s)

-- ---- the root

pub width_suc : (l : ℕ) → width (suc l) ≡ width l + width l
width_suc l = omega (arith, pow-suc 2 l)

pub root_zero : (prefix part : List ℕ) → root prefix 0 part ≡ part
unfolding root
root_zero prefix part = refl

pub root_suc : (prefix : List ℕ) (l : ℕ) (part : List ℕ)
    → root prefix (suc l) part ≡ hash prefix (root prefix l (take (width l) part) ++ root prefix l (drop (width l) part))
unfolding root
root_suc prefix l part = refl

-- the root of a part with zeros behind it, by its halves with zeros behind them
pub root_halves : (prefix : List ℕ) (l : ℕ) (s : List ℕ)
    → root prefix (suc l) (pad_to (width (suc l)) s)
    ≡ hash prefix (root prefix l (pad_to (width l) (take (width l) s)) ++ root prefix l (pad_to (width l) (drop (width l) s)))
root_halves prefix l s =
    root_suc prefix l (pad_to (width (suc l)) s)
    ∙ ap₂ (λ (a b : List ℕ). hash prefix (root prefix l a ++ root prefix l b))
    (ap (λ (n : ℕ). take (width l) (pad_to n s)) (width_suc l) ∙ pad_take (width l) (width l) s)
    (ap (λ (n : ℕ). drop (width l) (pad_to n s)) (width_suc l) ∙ pad_drop (width l) (width l) s)

-- the same, cut at the half or at the end where that comes first
pub root_cut : (prefix : List ℕ) (l : ℕ) (s : List ℕ) (cut : ℕ) → cut ≡ min (length s) (width l)
    → root prefix (suc l) (pad_to (width (suc l)) s)
    ≡ hash prefix (root prefix l (pad_to (width l) (take cut s)) ++ root prefix l (pad_to (width l) (drop cut s)))
root_cut prefix l s cut e =
    root_halves prefix l s
    ∙ ap₂ (λ (a b : List ℕ). hash prefix (root prefix l (pad_to (width l) a) ++ root prefix l (pad_to (width l) b)))
    (sym (ap (λ (n : ℕ). take n s) e ∙ cut_take (width l) s))
    (sym (ap (λ (n : ℕ). drop n s) e ∙ cut_drop (width l) s))

-- a part of nothing but zeros: both halves have one root
pub root_nothing : (prefix : List ℕ) (l : ℕ)
    → root prefix (suc l) (pad_to (width (suc l)) []) ≡ hash prefix (root prefix l (pad_to (width l) []) ++ root prefix l (pad_to (width l) []))
root_nothing prefix l =
    root_halves prefix l []
    ∙ ap₂ (λ (a b : List ℕ). hash prefix (root prefix l (pad_to (width l) a) ++ root prefix l (pad_to (width l) b)))
    (take-nil (width l))
    (drop-nil (width l))

pub root_length : (prefix : List ℕ) (l : ℕ) (part : List ℕ) → length part ≡ width l → length (root prefix l part) ≡ 32
unfolding root
root_length prefix zero part e = e
root_length prefix (suc l) part e = digest_length (prefix ++ (root prefix l (take (width l) part) ++ root prefix l (drop (width l) part)))

-- the halves of a part of the next level
pub left_length : (l : ℕ) (part : List ℕ) → length part ≡ width (suc l) → length (take (width l) part) ≡ width l
left_length l part e = length-take-le (width l) part (omega (arith, width_suc l))

pub right_length : (l : ℕ) (part : List ℕ) → length part ≡ width (suc l) → length (drop (width l) part) ≡ width l
right_length l part e = length-drop (width l) part ∙ omega (arith, width_suc l)
