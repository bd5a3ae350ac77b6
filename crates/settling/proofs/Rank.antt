-- Laws of the rank: inside one slot the choice of the higher record is idempotent, commutative and associative.
use Prim.Native.Nat.{ℕ}
use mathlib.Core.Path.{◌≡◌, refl, sym, ◌∙◌}
use mathlib.Core.Logic.{◌⊎◌, inl, inr}
use mathlib.Core.Bool.{Bool, true, false}
use Rattle.settling.specs.Rank.{Rank, higher}
use Rattle.settling.proofs.Cases.{true_false}

module _ {A : Type 0} (beats : A → A → Bool) where
  -- An equation a case. By `cc`, here and in later modules: a wrong definition then meets first the equation that it makes false.
  pub higher_second : (a b : A) → beats b a ≡ true → higher beats a b ≡ b
  unfolding higher
  higher_second a b e = cc e

  pub higher_first : (a b : A) → beats b a ≡ false → higher beats a b ≡ a
  unfolding higher
  higher_first a b e = cc e

  pub data Chosen (a b : A) : Type 0 where
    first : beats b a ≡ false → higher beats a b ≡ a → Chosen a b
    second : beats b a ≡ true → higher beats a b ≡ b → Chosen a b

  pub chosen : (a b : A) → Chosen a b
  chosen a b = go (beats b a) refl
    where
      go : (t : Bool) → beats b a ≡ t → Chosen a b
      go true e = second e (higher_second a b e)
      go false e = first e (higher_first a b e)

module _ {A : Type 0} {slot : A → ℕ} {beats : A → A → Bool} (R : Rank slot beats) where
  pub higher_slot : (a b : A) → slot a ≡ slot b → slot (higher beats a b) ≡ slot a
  higher_slot a b s = elim (chosen beats a b) [ first t e ↦ rw e | second t e ↦ rw e (sym s) ]

  pub higher_self : (a : A) → higher beats a a ≡ a
  higher_self a = higher_first beats a a (R.irrefl a)

  -- each of two beating the other is absurd
  pub asym : (a b : A) → slot a ≡ slot b → beats a b ≡ true → beats b a ≡ true → false ≡ true
  asym a b s p q = sym (R.irrefl a) ∙ R.trans a b a s (sym s) p q

  pub higher_comm : (a b : A) → slot a ≡ slot b → higher beats a b ≡ higher beats b a
  higher_comm a b s = go (chosen beats a b) (chosen beats b a)
    where
      go : Chosen beats a b → Chosen beats b a → higher beats a b ≡ higher beats b a
      go (first t e) (first u f) = cc (e, R.total a b s u t, f)
      go (first t e) (second u f) = e ∙ sym f
      go (second t e) (first u f) = e ∙ sym f
      go (second t e) (second u f) = cc (asym b a (sym s) t u)

  pub higher_assoc : (a b c : A) → slot a ≡ slot b → slot b ≡ slot c → higher beats (higher beats a b) c ≡ higher beats a (higher beats b c)
  higher_assoc a b c s r = go (chosen beats a b) (chosen beats b c)
    where
      -- b doesn't beat a, nor c b: then c doesn't beat a
      stay : beats b a ≡ false → beats c b ≡ false → Chosen beats a c → Chosen beats b a → higher beats a c ≡ a
      stay t u (first v g) w = g
      stay t u (second v g) (first w k) = cc (R.total a b s w t)
      stay t u (second v g) (second w k) = cc (R.trans c a b (sym r ∙ sym s) s v w)

      go : Chosen beats a b → Chosen beats b c → higher beats (higher beats a b) c ≡ higher beats a (higher beats b c)
      go (first t e) (first u f) = rw (e, f) (stay t u (chosen beats a c) (chosen beats b a) ∙ sym e)
      go (first t e) (second u f) = rw (e, f)
      go (second t e) (first u f) = rw (e, f) (sym e)
      go (second t e) (second u f) = rw (e, f) (sym (higher_second beats a c (R.trans c b a (sym r) (sym s) u t)))

  -- a is b or ranks higher
  abbrev pub AtLeast : A → A → Type 0
  AtLeast a b = (a ≡ b) ⊎ (beats a b ≡ true)

  pub atleast_trans : (a b c : A) → slot a ≡ slot b → slot b ≡ slot c → AtLeast a b → AtLeast b c → AtLeast a c
  atleast_trans a b c s r (inl e) (inl f) = inl (e ∙ f)
  atleast_trans a b c s r (inl e) (inr f) = inr (rw e f)
  atleast_trans a b c s r (inr e) (inl f) = inr (rw f at e)
  atleast_trans a b c s r (inr e) (inr f) = inr (R.trans a b c s r e f)

  -- of two in one slot the one that isn't beaten
  pub unbeaten_atleast : (a b : A) → slot b ≡ slot a → beats b a ≡ false → AtLeast a b
  unbeaten_atleast a b s u = go (beats a b) refl
    where
      go : (t : Bool) → beats a b ≡ t → AtLeast a b
      go true e = inr e
      go false e = inl (R.total a b (sym s) e u)

  -- none beats itself or one that beats it
  pub not_atleast : (a b : A) → slot a ≡ slot b → beats a b ≡ true → AtLeast b a → ⊥
  not_atleast a b s p (inl e) = true_false (sym p ∙ rw e (R.irrefl a))
  not_atleast a b s p (inr q) = true_false (sym (asym a b s p q))
