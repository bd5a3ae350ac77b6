-- The least depth by counters is the least at which the records fit, also where code walks the counters from the greatest depth down.
use Prim.Native.Nat.{ℕ, zero, suc, ◌+◌, ◌-◌, ◌≤◌, ◌<◌}
use native.Mathlib.Omega.{arith}
use native.Mathlib.Nat.{le_refl}
use mathlib.Core.Path.{◌≡◌, refl, sym, ◌∙◌, ap}
use mathlib.Core.List.{List, ◌∷◌}
use lib.ListN.{length, drop, get_or, drop_of_length-le}
use lib.Seq.{drop-cons, drop-length}
use borrow.Author.Tests.{le-leb, lt-leb}
use Rattle.settling.specs.Rank.{Shape}
use Rattle.settling.specs.Book.{inside}
use Rattle.settling.specs.Tally.{Counters, least_fit, total, least}
use Rattle.settling.proofs.Cases.{from_next, Limit, within, beyond, limit}
use Rattle.settling.proofs.Settle.{Full}
use Rattle.settling.proofs.Counters.{total_cons, counters_total}

-- over a table of counters alone
module _ (capacity : ℕ) (t : List ℕ) where
  pub least_end : (c : ℕ) → length t ≤ c → least capacity c (drop c t) ≡ c
  unfolding least
  least_end c h = rw (drop_of_length-le t {i = c} h)

  pub least_here : (c : ℕ) → c < length t → total (drop c t) ≤ capacity → least capacity c (drop c t) ≡ c
  unfolding least
  least_here c h p = let q : total (get_or t c 0 ∷ drop (suc c) t) ≤ capacity = rw (← drop-cons t c 0 h) p in rw (drop-cons t c 0 h, le-leb _ capacity q)

  pub least_next : (c : ℕ) → c < length t → capacity < total (drop c t) → least capacity c (drop c t) ≡ least capacity (suc c) (drop (suc c) t)
  unfolding least
  least_next c h p = let q : capacity < total (get_or t c 0 ∷ drop (suc c) t) = rw (← drop-cons t c 0 h) p in rw (drop-cons t c 0 h, lt-leb _ capacity q)

  -- one counter less: the totals fall
  pub total_next : (c : ℕ) → c < length t → total (drop c t) ≡ get_or t c 0 + total (drop (suc c) t)
  total_next c h = rw (drop-cons t c 0 h) (total_cons (get_or t c 0) (drop (suc c) t))

  pub total_falls : (n c e : ℕ) → n + c ≡ e → total (drop e t) ≤ total (drop c t)
  total_falls zero c e q = let p : c ≡ e = omega arith in rw p (le_refl _)
  total_falls (suc n) c e q = go (total_falls n (suc c) e (omega arith)) (limit (length t) c)
    where
      go : total (drop e t) ≤ total (drop (suc c) t) → Limit (length t) c → total (drop e t) ≤ total (drop c t)
      go ih (within h) = rw (drop_of_length-le t {i = e} (omega arith), drop_of_length-le t {i = c} h) (le_refl _)
      go ih (beyond h) = omega (arith, ih, total_next c h)

  -- what the least depth must be
  pub least_at : (n c e : ℕ) → n + c ≡ e → e ≤ length t → ((x : ℕ) → c ≤ x → x < e → capacity < total (drop x t)) → (e < length t → total (drop e t) ≤ capacity) → least capacity c (drop c t) ≡ e
  least_at zero c e q h u f = let p : c ≡ e = omega arith in rw p (go (limit (length t) e))
    where
      go : Limit (length t) e → least capacity e (drop e t) ≡ e
      go (within p) = least_end e p
      go (beyond p) = least_here e p (f p)
  least_at (suc n) c e q h u f = least_next c (omega arith) (u c (omega arith) (omega arith)) ∙ least_at n (suc c) e (omega arith) h (λ x p r. u x (omega arith) r) f

  -- A walk from the last counter down: `kept` records lie inside `depth`, and fit. It stops where one counter more would not.
  pub record Descent (from depth kept : ℕ) : Type 0 where
    pub above : from ≤ depth
    pub inlist : depth ≤ length t
    pub sum : kept ≡ total (drop depth t)
    pub fits : kept ≤ capacity

  pub descent_start : (from : ℕ) → from ≤ length t → Descent from (length t) 0
  unfolding total
  descent_start from h = record { above = h; inlist = le_refl _; sum = rw (drop-length t); fits = omega arith }

  module _ (from depth kept : ℕ) (w : Descent from depth kept) where
    high : from ≤ depth
    high = w.above

    module _ (more : from < depth) where
      total_below : total (drop (depth - 1) t) ≡ get_or t (depth - 1) 0 + kept
      total_below =
          let e : suc (depth - 1) ≡ depth = omega (arith, more) in
          let h : depth ≤ length t = w.inlist in
          total_next (depth - 1) (omega (arith, h, more)) ∙ ap (λ (n : ℕ). get_or t (depth - 1) 0 + n) (rw e (sym w.sum))

      pub descent_next : get_or t (depth - 1) 0 ≤ capacity - kept → Descent from (depth - 1) (kept + get_or t (depth - 1) 0)
      descent_next h = record { above = omega (arith, more); inlist = omega (arith, w.inlist); sum = omega (arith, total_below); fits = omega (arith, h, w.fits) }

      pub descent_stop : capacity - kept < get_or t (depth - 1) 0 → least capacity from (drop from t) ≡ depth
      descent_stop h =
          least_at (depth - from) from depth (omega (arith, more)) w.inlist (λ x p q. omega (arith, h, w.fits, total_below, total_falls (depth - 1 - x) x (depth - 1) (omega (arith, q)))) (λ q. rw (← w.sum) w.fits)

    pub descent_end : depth ≤ from → least capacity from (drop from t) ≡ depth
    descent_end h = least_at zero from depth (omega (arith, h, high)) w.inlist (λ x p q. absurd (omega (arith, h, p, q))) (λ q. rw (← w.sum) w.fits)

module _ {A : Type 0} (B : Shape A) where
  open B use {capacity, top}

  -- what the least depth tells of the records counted
  pub data Counted (s : List A) (c e : ℕ) : Type 0 where
    fits_at : c ≤ e → e ≤ top → length (inside B e s) ≤ capacity → ((x : ℕ) → c ≤ x → x < e → Full B s x) → Counted s c e
    fits_nowhere : e ≡ suc top → ((x : ℕ) → c ≤ x → x ≤ top → Full B s x) → Counted s c e

  fit_none : (c : ℕ) (s : List A) → least_fit B zero c s ≡ c
  unfolding least_fit
  fit_none c s = refl

  fit_here : (n c : ℕ) (s : List A) → length (inside B c s) ≤ capacity → least_fit B (suc n) c s ≡ c
  unfolding least_fit
  fit_here n c s h = rw (le-leb (length (inside B c s)) capacity h)

  fit_next : (n c : ℕ) (s : List A) → capacity < length (inside B c s) → least_fit B (suc n) c s ≡ least_fit B n (suc c) s
  unfolding least_fit
  fit_next n c s h = rw (lt-leb (length (inside B c s)) capacity h)

  pub counted : (n c : ℕ) (s : List A) → n + c ≡ suc top → Counted s c (least_fit B n c s)
  counted zero c s e = rw (fit_none c s) (fits_nowhere (omega arith) (λ x p q. absurd (omega arith)))
  counted (suc n) c s e = go (counted n (suc c) s (omega arith)) (limit (length (inside B c s)) capacity)
    where
      later : Full B s c → Counted s (suc c) (least_fit B n (suc c) s) → Counted s c (least_fit B n (suc c) s)
      later h (fits_at p q f u) = fits_at (omega arith) q f (λ x k m. from_next (Full B s) c h x k (λ j. u x j m))
      later h (fits_nowhere p u) = fits_nowhere p (λ x k m. from_next (Full B s) c h x k (λ j. u x j m))

      go : Counted s (suc c) (least_fit B n (suc c) s) → Limit (length (inside B c s)) capacity → Counted s c (least_fit B (suc n) c s)
      go ih (within h) = rw (fit_here n c s h) (fits_at (omega arith) (omega (arith, e)) h (λ x k m. absurd (omega arith)))
      go ih (beyond h) = rw (fit_next n c s h) (later h ih)

  -- the counters tell it
  pub least_fit_lem : (n c : ℕ) (t : List ℕ) (s : List A) → Counters B t s → n ≡ suc top - c → least capacity c (drop c t) ≡ least_fit B n c s
  least_fit_lem zero c t s w e = let z : length t ≡ suc top = w.size in least_end capacity t c (omega arith) ∙ sym (fit_none c s)
  least_fit_lem (suc n) c t s w e = go (least_fit_lem n (suc c) t s w (omega arith)) (limit (length (inside B c s)) capacity)
    where
      many : total (drop c t) ≡ length (inside B c s)
      many = counters_total B n c t s w (omega arith)

      inlist : c < length t
      inlist = let z : length t ≡ suc top = w.size in omega arith

      go : least capacity (suc c) (drop (suc c) t) ≡ least_fit B n (suc c) s → Limit (length (inside B c s)) capacity → least capacity c (drop c t) ≡ least_fit B (suc n) c s
      go ih (within h) = least_here capacity t c inlist (omega (arith, many, h)) ∙ sym (fit_here n c s h)
      go ih (beyond h) = least_next capacity t c inlist (omega (arith, many, h)) ∙ ih ∙ sym (fit_next n c s h)
