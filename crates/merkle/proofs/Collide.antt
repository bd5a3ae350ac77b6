-- How two equal digests give two equal messages or a collision.
use mathlib.Core.Path.{◌≡◌, refl, sym, ap, ◌∙◌}
use mathlib.Core.Logic.{◌⊎◌, inl, inr}
use mathlib.Core.List.Memᴰ
use mathlib.Core.List.{List, ◌++◌, Memᴰ, List-discrete, append_cancel_left}
use Prim.Native.Nat.{ℕ}
use native.Mathlib.Decide.{ℕ_discrete}
use lib.ListN.{length, take, drop}
use lib.Seq.{take_at, drop_at}
use Rattle.keccak.specs.Hash.{keccak256}
use Rattle.keccak.specs.Collision.{Collision}
use Rattle.merkle.specs.Tree.{hash}

-- ---- messages among messages

abbrev pub Among : List (List ℕ) → List (List ℕ) → Type 0
Among few many = (m : List ℕ) → Memᴰ m few → Memᴰ m many

pub among_left : (first second : List (List ℕ)) → Among first (first ++ second)
among_left first second m h = Memᴰ.append_left second h

pub among_right : (first second : List (List ℕ)) → Among second (first ++ second)
among_right first second m h = Memᴰ.append_right first h

-- ---- equal, or a collision

-- what a `do` goes by: a collision ends it
pub ◌>>=◌ : {A B C : Type 0} → A ⊎ C → (A → B ⊎ C) → B ⊎ C
◌>>=◌ (inl a) next = next a
◌>>=◌ (inr c) next = inr c

pub messages_same : (hashed : List (List ℕ)) (m n : List ℕ)
    → Memᴰ m hashed → Memᴰ n hashed → keccak256 m ≡ keccak256 n → (m ≡ n) ⊎ Collision hashed
messages_same hashed m n hm hn e = decided (List-discrete ℕ_discrete m n)
  where
    decided : Dec (m ≡ n) → (m ≡ n) ⊎ Collision hashed
    decided (yes same) = inl same
    decided (no other) = inr (record { first = m; second = n; first_hashed = hm; second_hashed = hn; different = other; one_digest = e })

pub behind_same : (prefix : List ℕ) (hashed : List (List ℕ)) (x y : List ℕ) → Memᴰ (prefix ++ x) hashed → Memᴰ (prefix ++ y) hashed
    → hash prefix x ≡ hash prefix y → (x ≡ y) ⊎ Collision hashed
behind_same prefix hashed x y hx hy e = do
  same ← messages_same hashed (prefix ++ x) (prefix ++ y) hx hy e
  inl (append_cancel_left prefix x y same)

-- joined lists that are equal have equal parts where the first parts are of one length
pub first_same : (a b c d : List ℕ) → length a ≡ length b → a ++ c ≡ b ++ d → a ≡ b
first_same a b c d h e = sym (take_at a c (length b) h) ∙ ap (take (length b)) e ∙ take_at b d (length b) refl

pub second_same : (a b c d : List ℕ) → length a ≡ length b → a ++ c ≡ b ++ d → c ≡ d
second_same a b c d h e = sym (drop_at a c (length b) h) ∙ ap (drop (length b)) e ∙ drop_at b d (length b) refl

-- the collision, where the other case is ruled out
pub unless : {A : Type 0} {hashed : List (List ℕ)} → (A → ⊥) → A ⊎ Collision hashed → Collision hashed
unless never (inl a) = absurd (never a)
unless never (inr c) = c
