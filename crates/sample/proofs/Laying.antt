-- The 1,024 bytes, and that they are known by their commitment.
use mathlib.Core.Path.{◌≡◌, refl, sym, ap, ap₂, ◌∙◌}
use mathlib.Core.Logic.{◌⊎◌, inl}
use mathlib.Core.List.{List, [], ◌∷◌, ◌++◌, Memᴰ}
use Prim.Native.Nat.{ℕ, ◌-◌, ◌*◌, ◌≤◌}
use native.Mathlib.Omega.{arith}
use lib.ListN.{length, take, drop, replicate, length-append, length-take, length-drop, take-append-drop}
use Rattle.keccak.specs.Collision.{Collision}
use Rattle.merkle.specs.Tree.{pad_to}
use Rattle.merkle.proofs.Halves.{pad_behind}
use Rattle.merkle.proofs.Roots.{chunk_same}
use Rattle.merkle.proofs.Collide.{Among, first_same, second_same, ◌>>=◌}
use Rattle.sample.specs.Sample.{address_first, written, sample_span, commitment_of, commitment_hashed}

-- each pair is of 64 bytes
abbrev pub Sized : List (List ℕ) → Type 0
Sized l = (p : List ℕ) → Memᴰ p l → length p ≡ 64

pub sized_first : (p : List ℕ) (l : List (List ℕ)) → Sized (p ∷ l) → length p ≡ 64
sized_first p l h = h p (Memᴰ.head refl)

pub sized_rest : (p : List ℕ) (l : List (List ℕ)) → Sized (p ∷ l) → Sized l
sized_rest p l h r m = h r (Memᴰ.tail m)

-- the address stands in the last 32 bytes of a pair
pub first_length : (pair : List ℕ) → length pair ≡ 64 → length (address_first pair) ≡ 64
first_length pair h = simp (length-append, length-take, length-drop) (omega arith)

pub first_same_pair : (p q : List ℕ) → length p ≡ 64 → length q ≡ 64 → address_first p ≡ address_first q → p ≡ q
first_same_pair p q hp hq e =
    let k : length (drop 32 p) ≡ length (drop 32 q) = simp length-drop (omega arith) in
    let back = first_same (drop 32 p) (drop 32 q) (take 32 p) (take 32 q) k e in
    let front = second_same (drop 32 p) (drop 32 q) (take 32 p) (take 32 q) k e in
    sym (take-append-drop 32 p) ∙ ap₂ ◌++◌ front back ∙ take-append-drop 32 q

pub written_length : (l : List (List ℕ)) → Sized l → length (written l) ≡ 64 * length l
unfolding written
written_length [] h = refl
written_length (p ∷ l) h = length-append (address_first p) (written l) ∙ omega (arith, first_length p (sized_first p l h), written_length l (sized_rest p l h))

pub written_same : (l m : List (List ℕ)) → length l ≡ length m → Sized l → Sized m → written l ≡ written m → l ≡ m
unfolding written
written_same [] [] k hl hm e = refl
written_same [] (q ∷ m) k hl hm e = absurd (omega arith)
written_same (p ∷ l) [] k hl hm e = absurd (omega arith)
written_same (p ∷ l) (q ∷ m) k hl hm e =
    let one : length (address_first p) ≡ length (address_first q) = first_length p (sized_first p l hl) ∙ sym (first_length q (sized_first q m hm)) in
    let here = first_same_pair p q (sized_first p l hl) (sized_first q m hm) (first_same (address_first p) (address_first q) (written l) (written m) one e) in
    let rest = written_same l m (omega arith) (sized_rest p l hl) (sized_rest q m hm) (second_same (address_first p) (address_first q) (written l) (written m) one e) in
    λ i. here i ∷ rest i

-- ---- one commitment, one sample

unpadded : (n : ℕ) (a b : List ℕ) → length a ≡ length b → length a ≤ n → pad_to n a ≡ pad_to n b → a ≡ b
unpadded n a b h k e =
    first_same a b (replicate (n - length a) 0) (replicate (n - length b) 0) h (sym (pad_behind n a k) ∙ e ∙ pad_behind n b (omega arith))

pub commitment_same : (x y : List (List ℕ)) (hashed : List (List ℕ)) → length x ≡ 16 → length y ≡ 16 → Sized x → Sized y
    → Among (commitment_hashed x) hashed → Among (commitment_hashed y) hashed → commitment_of x ≡ commitment_of y → (x ≡ y) ⊎ Collision hashed
unfolding commitment_of commitment_hashed
commitment_same x y hashed lx ly hx hy wx wy e =
    let sx : length (written x) ≡ 1024 = written_length x hx ∙ ap (λ (n : ℕ). 64 * n) lx in
    let sy : length (written y) ≡ 1024 = written_length y hy ∙ ap (λ (n : ℕ). 64 * n) ly in
    do
      same ← chunk_same [] sample_span (written x) sample_span (written y) hashed refl wx wy e
      inl (written_same x y (lx ∙ sym ly) hx hy (unpadded 4096 (written x) (written y) (sx ∙ sym sy) (omega arith) same.1))
