-- Equal is said of equal things, and of them alone; that machines agree is said where they do, and only there.
use mathlib.Core.Bool.{Bool, true, false, false≢true, ◌&&◌}
use mathlib.Core.List.{List, [], ◌∷◌}
use mathlib.Core.Path.{◌≡◌, refl, ap, subst}
use Prim.Native.Nat.{ℕ}
use native.Mathlib.Omega.{arith}
use lib.Dec.{eqb}
use lib.ListN.{length, get_or}
use lib.Pointwise.{pointwise, bytes_decides}
use borrow.Author.Tests.{eqb-true, eq-eqb}
use Rattle.std.specs.Prelude.{Result, Ok, Err, nat_eq}
use Rattle.verdict.specs.declared.equal.Verdict.TheVariants.{Equal, Differs}
use Rattle.verdict.specs.Equal.{same, same_number, judged_by, Tells, EqualWhere}
use Rattle.verdict.specs.Agree.{one_hash, agreed, all_agreed, OneHash, Agree}
use Rattle.verdict.proofs.Tests.{both_told}

pub number_told : (x y : ℕ) → Tells (same_number x y) (x ≡ y)
number_told x y = (eqb-true x y, eq-eqb x y)

-- std's `==` of two numbers asks what `same_number` asks
pub numbers_compared : (x y : ℕ) → nat_eq x y ≡ same_number x y
numbers_compared x y = refl

-- std's `==` of two strings, and of two digests, asks what `same` asks
pub compared : (a b : List ℕ) → pointwise eqb a b ≡ same a b
unfolding same
compared [] [] = refl
compared [] (y ∷ ys) = refl
compared (x ∷ xs) [] = refl
compared (x ∷ xs) (y ∷ ys) = ap (λ (rest : Bool). eqb x y && rest) (compared xs ys)

pub same_told : (a b : List ℕ) → Tells (same a b) (a ≡ b)
same_told a b = subst (λ (t : Bool). Tells t (a ≡ b)) (compared a b) (bytes_decides a b)

pub differs_apart : Differs ≡ Equal → ⊥
differs_apart e = let z : ◌≡◌ {A = ℕ} 0 1 = cc in omega arith

-- a verdict on a test says of it what the test tells
pub judged_told : (t : Bool) {P : Type 0} → Tells t P → EqualWhere (judged_by t) P
judged_told true told = (λ e. told.0 refl, λ p. refl)
judged_told false told = (λ e. absurd (differs_apart e), λ p. absurd (false≢true (told.1 p)))

-- a verdict by any == that tells equal things from others
pub alike_judged : {T : Type 0} (eq : T → T → Bool) → ((x y : T) → Tells (eq x y) (x ≡ y)) → (x y : T) → EqualWhere (judged_by (eq x y)) (x ≡ y)
alike_judged eq told x y = judged_told (eq x y) (told x y)

pub numbers_judged : (x y : ℕ) → EqualWhere (judged_by (same_number x y)) (x ≡ y)
numbers_judged = alike_judged same_number number_told

pub bytes_judged : (a b : List ℕ) → EqualWhere (judged_by (same a b)) (a ≡ b)
bytes_judged = alike_judged same same_told

pub one_hash_told : {E : Type 0} (a b : Result (List ℕ) E) → Tells (one_hash a b) (OneHash a b)
unfolding one_hash
one_hash_told (Ok first) (Ok second) =
    let told = same_told first second in
    (λ yes. let e : first ≡ second = told.0 yes in (first, refl, cc), λ one. let p = one.1 in let q = one.2 in told.1 cc)
one_hash_told (Ok first) (Err error) = (λ yes. absurd (false≢true yes), λ one. let p = one.2 in cc)
one_hash_told (Err error) b = (λ yes. absurd (false≢true yes), λ one. let p = one.1 in cc)

pub agreed_told : {E : Type 0} (a b c d : Result (List ℕ) E) → Tells (agreed a b c d) (Agree a b c d)
unfolding agreed
agreed_told a b c d = both_told _ _ (one_hash_told a b) (both_told _ _ (one_hash_told a c) (one_hash_told a d))

-- the row of four is the four
pub row_of_four : {E : Type 0} (draws : List (Result (List ℕ) E)) (a b c d : Result (List ℕ) E) → length draws ≡ 4 → all_agreed draws ≡ agreed (get_or draws 0 a) (get_or draws 1 b) (get_or draws 2 c) (get_or draws 3 d)
row_of_four [] a b c d e = cc
row_of_four (s ∷ t ∷ u ∷ v ∷ []) a b c d e = refl
row_of_four (s ∷ []) a b c d e = cc
row_of_four (s ∷ t ∷ []) a b c d e = cc
row_of_four (s ∷ t ∷ u ∷ []) a b c d e = cc
row_of_four (s ∷ t ∷ u ∷ v ∷ w ∷ rest) a b c d e = cc
