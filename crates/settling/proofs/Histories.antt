-- Histories: a fresh book run over offers is what they settle to, and offers as they come are run as their valid records.
use Prim.Native.Nat.{ℕ, suc, ◌-◌, ◌≤◌}
use native.Mathlib.Omega.{arith}
use mathlib.Core.Path.{◌≡◌, refl, sym, ◌∙◌}
use mathlib.Core.Logic.{◌⊎◌, inl, inr}
use mathlib.Core.Option.{Option, none, some}
use mathlib.Core.List.Memᴰ
use mathlib.Core.List.{List, [], ◌∷◌, Memᴰ}
use Rattle.settling.specs.Rank.{Shape}
use Rattle.settling.specs.Book.{State, overfull, settle, offer}
use Rattle.settling.specs.History.{fresh, run, winners, settled, hand, hear, also, valid}
use Rattle.settling.specs.Meaning.{Each, Sound}
use Rattle.settling.proofs.Enter.{enter_all_same}
use Rattle.settling.proofs.Inside.{inside_nil}
use Rattle.settling.proofs.Settle.{settle_fits, run_settle, offer_overfull}
use Rattle.settling.proofs.Sound.{run_sound}

module _ {A : Type 0} (B : Shape A) where
  open B use {top}

  fresh_settle : (n d : ℕ) → fresh B d ≡ settle B (suc n) d []
  unfolding fresh
  fresh_settle n d = sym (settle_fits B n d [] (rw (inside_nil B d) (omega arith)) ∙ rw (inside_nil B d))

  pub run_settled : (start : ℕ) (s : List A) → start ≤ top → run B (fresh B start) s ≡ settled B start s
  unfolding settled winners
  run_settled start s p =
      let e : suc top - start ≡ suc (top - start) = omega arith in
      rw (e, fresh_settle (top - start) start) (run_settle B (suc (top - start)) start [] s (omega arith) tt)

  pub settled_same : (start : ℕ) (s t : List A) → ((a : A) → Memᴰ a s → Memᴰ a t) → ((a : A) → Memᴰ a t → Memᴰ a s) → settled B start s ≡ settled B start t
  unfolding settled winners
  settled_same start s t p q = rw (enter_all_same B [] s t p q)

  pub run_overfull : (s : List A) → run B overfull s ≡ overfull
  unfolding run
  run_overfull [] = refl
  run_overfull (a ∷ s) = rw (offer_overfull B a) (run_overfull s)

module _ {A : Type 0} {O : Type 0} (taking : O → Option A) where
  -- an offer of s with the record a
  pub record From (a : A) (s : List O) : Type 0 where
    pub it : O
    pub there : Memᴰ it s
    pub gives : taking it ≡ some a

  pub valid_member : (o : O) (a : A) (s : List O) → Memᴰ o s → taking o ≡ some a → Memᴰ a (valid taking s)
  unfolding valid also
  valid_member o a s (Memᴰ.head {x = p} {xs = r} e) f = let g : taking p ≡ some a = cc in rw g (Memᴰ.head refl)
  valid_member o a s (Memᴰ.tail {x = p} {xs = r} m) f = go (taking p) (valid_member o a r m f)
    where
      go : (t : Option A) → Memᴰ a (valid taking r) → Memᴰ a (also t (valid taking r))
      go none k = k
      go (some b) k = Memᴰ.tail k

  pub valid_from : (a : A) (s : List O) → Memᴰ a (valid taking s) → From a s
  unfolding valid also
  valid_from a [] m = absurd (Memᴰ.not-nil m)
  valid_from a (o ∷ s) m = go (taking o) refl (λ k. valid_from a s k) m
    where
      later : From a s → From a (o ∷ s)
      later f = record { it = f.it; there = Memᴰ.tail f.there; gives = f.gives }

      split : (b : A) → taking o ≡ some b → (Memᴰ a (valid taking s) → From a s) → (a ≡ b) ⊎ Memᴰ a (valid taking s) → From a (o ∷ s)
      split b e ih (inl q) = record { it = o; there = Memᴰ.head refl; gives = rw q e }
      split b e ih (inr k) = later (ih k)

      go : (t : Option A) → taking o ≡ t → (Memᴰ a (valid taking s) → From a s) → Memᴰ a (also t (valid taking s)) → From a (o ∷ s)
      go none e ih k = later (ih k)
      go (some b) e ih k = split b e ih (Memᴰ.cases_cons k)

  pub each_valid : (P : A → Type 0) (s : List O) → ((o : O) (a : A) → taking o ≡ some a → P a) → Each P (valid taking s)
  unfolding valid also
  each_valid P [] f = tt
  each_valid P (o ∷ s) f = go (taking o) refl (each_valid P s f)
    where
      go : (t : Option A) → taking o ≡ t → Each P (valid taking s) → Each P (also t (valid taking s))
      go none e ih = ih
      go (some a) e ih = (f o a e, ih)

  -- the valid offers of one history are offers of the other: so are their records
  pub valid_over : (s t : List O) → ((o : O) (a : A) → taking o ≡ some a → Memᴰ o s → Memᴰ o t) → (a : A) → Memᴰ a (valid taking s) → Memᴰ a (valid taking t)
  valid_over s t h a m = let k : From a s = valid_from a s m in valid_member k.it a t (h k.it a k.gives k.there) k.gives

module _ {A : Type 0} (B : Shape A) {O : Type 0} (taking : O → Option A) where
  open B use {top}

  pub hear_run : (b : State A) (s : List O) → hear B taking b s ≡ run B b (valid taking s)
  unfolding hear valid run hand also
  hear_run b [] = refl
  hear_run b (o ∷ s) = go (taking o) (λ c. hear_run c s)
    where
      go : (t : Option A) → ((c : State A) → hear B taking c s ≡ run B c (valid taking s)) → hear B taking (hand B b t) s ≡ run B b (also t (valid taking s))
      go none ih = ih b
      go (some a) ih = ih (offer B b a)

  pub hear_sound : (b : State A) (s : List O) → Sound B b → Sound B (hear B taking b s)
  hear_sound b s w = rw (hear_run b s) (run_sound B b (valid taking s) w)
