-- Laws of tables that a rule makes.
use mathlib.Core.Path.{◌≡◌, refl, ap, ap₂, ◌∙◌, sym}
use mathlib.Core.List.{List, [], ◌∷◌, ◌++◌}
use Prim.Native.Nat.{ℕ, zero, suc, ◌+◌, ◌<◌}
use native.Mathlib.Nat.{not-suc-le-zero, le_of_suc-le-suc, zero-add, suc-add, add-zero, add-suc, le_of_eq}
use native.Mathlib.Numerals.{add-one}
use lib.ListN.{get_or, set, take, length}
use lib.Seq.{take-suc-set, take_all}
use Rattle.tables.specs.Rules.{tab}

tab_from : (f : ℕ → ℕ) (i n k : ℕ) → k < n → get_or (tab f i n) k 0 ≡ f (i + k)
tab_from f i zero k h = absurd (not-suc-le-zero h)
tab_from f i (suc n) zero h = ap f (sym (add-zero i))
tab_from f i (suc n) (suc k) h = tab_from f (suc i) n k (le_of_suc-le-suc h) ∙ ap f (suc-add i k ∙ sym (add-suc i k))

-- entry k of a table that the rule f made is f k
pub tab_at : (f : ℕ → ℕ) (n k : ℕ) → k < n → get_or (tab f 0 n) k 0 ≡ f k
tab_at f n k h = tab_from f 0 n k h ∙ ap f (zero-add k)

pub tab_length : (f : ℕ → ℕ) (i n : ℕ) → length (tab f i n) ≡ n
tab_length f i zero = refl
tab_length f i (suc n) = ap suc (tab_length f (suc i) n)

tab_snoc : (f : ℕ → ℕ) (i n : ℕ) → tab f i (suc n) ≡ tab f i n ++ (f (i + n) ∷ [])
tab_snoc f i zero = ap (λ (k : ℕ). f k ∷ []) (sym (add-zero i))
tab_snoc f i (suc n) =
    ap (λ (r : List ℕ). f i ∷ r)
    (tab_snoc f (suc i) n ∙ ap (λ (k : ℕ). tab f (suc i) n ++ (f k ∷ [])) (suc-add i n ∙ sym (add-suc i n)))

-- a loop that fills a list from the front by the rule f: one more store
pub tab_more : (f : ℕ → ℕ) (l : List ℕ) (i v : ℕ) → i < length l → take i l ≡ tab f 0 i → v ≡ f i → take (i + 1) (set l i v) ≡ tab f 0 (i + 1)
tab_more f l i v h e ev =
    ap (λ (k : ℕ). take k (set l i v)) (add-one i)
    ∙ take-suc-set l i v h
    ∙ ap₂ (λ (r : List ℕ) (k : ℕ). r ++ (k ∷ [])) e (ev ∙ ap f (sym (zero-add i)))
    ∙ sym (tab_snoc f 0 i)
    ∙ ap (tab f 0) (sym (add-one i))

-- the loop's end
pub tab_all : (f : ℕ → ℕ) (l : List ℕ) (i n : ℕ) → length l ≡ n → i ≡ n → take i l ≡ tab f 0 i → l ≡ tab f 0 n
tab_all f l i n hl hi e = sym (take_all n l (le_of_eq hl)) ∙ ap (λ (k : ℕ). take k l) (sym hi) ∙ e ∙ ap (tab f 0) hi
