-- Numbers of a type's width: what std makes of their bytes.
use mathlib.Core.Path.{◌≡◌, refl, sym, ap, ◌∙◌}
use mathlib.Core.Bool.{Bool, true, false}
use mathlib.Core.List.{List, [], ◌∷◌}
use Prim.Native.Nat.{ℕ, zero, suc, ◌+◌, ◌-◌, ◌*◌, ◌^◌, ◌≤◌, ◌<◌}
use native.Mathlib.Nat.{zero-add, zero-mul, mul-add, suc_inj, suc-sub-suc, pow-suc}
use native.Mathlib.Omega.{arith}
use lib.ListN.{length, get_or, take, drop, replicate, length-replicate, length-drop}
use borrow.Author.Tests.{le-leb, lt-leb, leb-true}
use Rattle.std.specs.Prelude.{cond, leb, Option, Some, None, MatchOption}
use Rattle.std.specs.Borrow.{Bor}
use Rattle.std.specs.Option.{option_copied, unwrap_or}
use Rattle.std.specs.Array.{IsFirstChunk}
use Rattle.std.specs.List.{slice_range}
use lib.Seq.{take-length}
use Rattle.std.specs.Int.{byte_worth, sum_through}
use Rattle.octets.specs.Number.{big, little, big_at, little_at, part_of}
use Rattle.octets.proofs.Parts.{part_length}

-- a sum by places, its first place taken off
sum_first : (f : ℕ → ℕ) (n : ℕ) → sum_through f (suc n) ≡ f 0 + sum_through (λ i. f (suc i)) n
sum_first f zero = refl
sum_first f (suc n) = omega (arith, sum_first f n)

-- and a factor taken out
sum_times : (c : ℕ) (f : ℕ → ℕ) (n : ℕ) → sum_through (λ i. c * f i) n ≡ c * sum_through f n
sum_times c f zero = refl
sum_times c f (suc n) = rw (sum_times c f n, mul-add)

worth : (i b : ℕ) → byte_worth i b ≡ b * 256 ^ i
worth zero b = omega arith
worth (suc i) b = refl

worth_next : (i b : ℕ) → byte_worth (suc i) b ≡ 256 * byte_worth i b
worth_next i b = rw (worth i b, pow-suc 256 i) (omega arith)

-- the bytes that std reads are the number

pub big_std : (n : ℕ) (xs : List ℕ) → length xs ≡ suc n → sum_through (λ i. byte_worth (n - i) (get_or xs i 0)) n ≡ big xs
unfolding big
big_std n [] e = absurd (omega arith)
big_std zero (x ∷ []) e = omega arith
big_std zero (x ∷ y ∷ xs) e = absurd (omega arith)
big_std (suc n) (x ∷ xs) e =
    let behind : suc n - 0 ≡ length xs = omega (arith, e) in
    sum_first (λ i. byte_worth (suc n - i) (get_or (x ∷ xs) i 0)) n
    ∙ (λ k. byte_worth (behind k) x + sum_through (λ i. byte_worth (suc-sub-suc n i k) (get_or xs i 0)) n)
    ∙ rw (worth (length xs) x, big_std n xs (suc_inj e))

pub little_std : (n : ℕ) (xs : List ℕ) → length xs ≡ suc n → sum_through (λ i. byte_worth i (get_or xs i 0)) n ≡ little xs
unfolding little
little_std n [] e = absurd (omega arith)
little_std zero (x ∷ []) e = omega arith
little_std zero (x ∷ y ∷ xs) e = absurd (omega arith)
little_std (suc n) (x ∷ xs) e =
    sum_first (λ i. byte_worth i (get_or (x ∷ xs) i 0)) n
    ∙ (λ k. x + sum_through (λ i. worth_next i (get_or xs i 0) k) n)
    ∙ rw (sum_times 256 (λ i. byte_worth i (get_or xs i 0)) n, little_std n xs (suc_inj e))

-- zeros are no number
big_zeros : (n : ℕ) → big (replicate n 0) ≡ 0
unfolding big
big_zeros zero = refl
big_zeros (suc n) = rw (zero-mul, zero-add) (big_zeros n)

little_zeros : (n : ℕ) → little (replicate n 0) ≡ 0
unfolding little
little_zeros zero = refl
little_zeros (suc n) = rw (little_zeros n)

module _ (w : ℕ) (s : List ℕ) (at : ℕ) where
  -- what std's `get` and `first_chunk` give is the part

  pub part_not : length s < at + w → None ≡ part_of w s at
  unfolding part_of
  part_not h = rw (lt-leb _ _ h)

  part_fits : at + w ≤ length s → Some (take w (drop at s)) ≡ part_of w s at
  unfolding part_of
  part_fits h = rw (le-leb _ _ h)

  pub first_part : (rest : List ℕ) (r : Option (Bor (List ℕ))) → at ≤ length s → rest ≡ slice_range s at (length s)
      → MatchOption r (length rest < w) (λ y. IsFirstChunk rest y.now w) → option_copied r ≡ part_of w s at
  first_part rest r h e = go r
    where
      all : rest ≡ drop at s
      all = let whole : length s - at ≡ length (drop at s) = sym (length-drop at s) in e ∙ ap (λ n. take n (drop at s)) whole ∙ take-length (drop at s)

      long : length rest + at ≡ length s
      long = rw all (simp length-drop (omega arith))

      go : (r : Option (Bor (List ℕ))) → MatchOption r (length rest < w) (λ y. IsFirstChunk rest y.now w) → option_copied r ≡ part_of w s at
      go None k = part_not (omega (arith, long))
      go (Some y) k = ap Some (k.same ∙ ap (take w) all) ∙ part_fits (omega (arith, k.enough, long))

-- the part, or zeros, is the number there
module _ (n : ℕ) (s : List ℕ) (at : ℕ) (bytes : List ℕ) (part : Option (List ℕ)) (e : bytes ≡ unwrap_or part (replicate (suc n) 0)) (f : part ≡ part_of (suc n) s at) where
  abbrev w : ℕ
  w = suc n

  is : bytes ≡ unwrap_or (part_of w s at) (replicate w 0)
  is = e ∙ ap (λ o. unwrap_or o (replicate w 0)) f

  count : length bytes ≡ w
  unfolding part_of
  count = ap length is ∙ go (leb (at + w) (length s)) (leb-true (at + w) (length s))
    where
      go : (b : Bool) → (b ≡ true → at + w ≤ length s) → length (unwrap_or (cond b (Some (take w (drop at s))) None) (replicate {A = ℕ} w 0)) ≡ w
      go true f = part_length s at w (f refl)
      go false f = length-replicate w 0

  pub big_read : sum_through (λ i. byte_worth (n - i) (get_or bytes i 0)) n ≡ big_at w s at
  unfolding part_of big_at
  big_read = big_std n bytes count ∙ ap big is ∙ go (leb (at + w) (length s))
    where
      go : (b : Bool) → big (unwrap_or (cond b (Some (take w (drop at s))) None) (replicate w 0)) ≡ cond b (big (take w (drop at s))) 0
      go true = refl
      go false = big_zeros w

  pub little_read : sum_through (λ i. byte_worth i (get_or bytes i 0)) n ≡ little_at w s at
  unfolding part_of little_at
  little_read = little_std n bytes count ∙ ap little is ∙ go (leb (at + w) (length s))
    where
      go : (b : Bool) → little (unwrap_or (cond b (Some (take w (drop at s))) None) (replicate w 0)) ≡ cond b (little (take w (drop at s))) 0
      go true = refl
      go false = little_zeros w
