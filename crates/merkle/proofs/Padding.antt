-- Two data with one padding are those that differ in trailing zeros alone.
use mathlib.Core.Path.{◌≡◌, refl, sym, ap, ◌∙◌}
use mathlib.Core.List.{List, [], ◌∷◌, ◌++◌}
use Prim.Native.Nat.{ℕ, zero, suc, ◌+◌, ◌-◌, ◌≤◌}
use native.Mathlib.Omega.{arith}
use lib.ListN.{length, take, replicate}
use lib.Seq.{take_at, take-append-add}
use Rattle.std.proofs.lemmas.List.{take-replicate}
use Rattle.merkle.specs.Tree.{pad_to}
use Rattle.merkle.proofs.Halves.{pad_behind}

pub pad_zeros : (m : ℕ) (s : List ℕ) (n : ℕ) → pad_to m (s ++ replicate n 0) ≡ pad_to m s
unfolding pad_to
pad_zeros zero s n = refl
pad_zeros (suc m) [] zero = refl
pad_zeros (suc m) [] (suc n) = ap (λ (t : List ℕ). 0 ∷ t) (pad_zeros m [] n)
pad_zeros (suc m) (b ∷ s) n = ap (λ (t : List ℕ). b ∷ t) (pad_zeros m s n)

pub pad_tells : (n : ℕ) (a b : List ℕ) → length a ≤ length b → length b ≤ n → pad_to n a ≡ pad_to n b → b ≡ a ++ replicate (length b - length a) 0
pad_tells n a b h k e =
    let d = length b - length a in
    let zeros : ℕ → List ℕ = λ m. replicate m 0 in
    let at : length b ≡ length a + d = omega arith in
    let joined : b ++ zeros (n - length b) ≡ a ++ zeros (n - length a) = sym (pad_behind n b k) ∙ sym e ∙ pad_behind n a (omega arith) in
    sym (take_at b (zeros (n - length b)) (length b) refl)
    ∙ ap (take (length b)) joined
    ∙ ap (λ (j : ℕ). take j (a ++ zeros (n - length a))) at
    ∙ take-append-add a (zeros (n - length a)) d
    ∙ ap (λ (t : List ℕ). a ++ t) (take-replicate d (n - length a) 0 (omega arith))
