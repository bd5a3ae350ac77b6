-- The pass that counts the records of a book by nearness, and the depth that the counters tell.
use mathlib.Core.Path.{◌≡◌, sym, ap, ◌∙◌, subst}
use mathlib.Core.Bool.{Bool, true, false, cond, ◌&&◌}
use mathlib.Core.List.{List, [], ◌∷◌}
use Prim.Native.Nat.{ℕ, suc, ◌+◌, ◌-◌, ◌/◌, ◌^◌, ◌≤◌, ◌<◌}
use native.Mathlib.Numerals.{add-one}
use native.Mathlib.Omega.{arith}
use lib.Dec.{eqb, leb}
use borrow.Author.Tests.{eq-eqb, le-leb, lt-leb}
use lib.ListN.{length, get_or, take, drop, set}
use lib.Seq.{length-take-le, take_all}
use Rattle.std.specs.Prelude.{Option, Some, None}
use Rattle.octets.specs.Number.{big_at, bytes_of}
use Rattle.octets.proofs.Numbers.{length_bytes_of}
use Rattle.nearness.proofs.Shared.{shared_bits_most}
use Rattle.settling.specs.Rank.{Shape}
use Rattle.settling.specs.Tally.{reach, tally, Counters, least_fit, least}
use Rattle.settling.proofs.Counters.{reach_is, counters_cons, counters_next}
use Rattle.settling.proofs.Cases.{Limit, within, beyond, limit}
use Rattle.settling.proofs.Least.{Descent, descent_end, least_end, least_fit_lem}
use Rattle.records.specs.Record.{slot, near_of}
use Rattle.book.specs.Layout.{depth_in, overlay_in, capacity_in, records_in}
use Rattle.book.specs.Shape.{shape, shape_in}
use Rattle.book.proofs.Fields.{header_overlay, header_capacity, header_capacity_in, header_byte}
use Rattle.filing.specs.Whole.{whole}
use Rattle.nearing.specs.Near.{near_in}
use Rattle.filing.specs.Least.{rising, least_in}
use Rattle.filing.proofs.Wholeness.{whole_room}
use Rattle.nearing.proofs.Nearing.{near_in_lem}

pub near_most : (o : List ℕ) (k n : ℕ) → n ≡ near_of o k → n ≤ 16
unfolding near_of
near_most o k n e = omega (arith, e, shared_bits_most (bytes_of 2 (k / 2 ^ 32)) (take 2 o), length_bytes_of 2 (k / 2 ^ 32))

pub near_few : (s g : List ℕ) (n : ℕ) → n ≡ near_in s g → n ≤ 16
unfolding near_in
near_few s g n e = go (leb 48 (length s) && eqb (length g) 145) e
  where
    go : (b : Bool) → n ≡ cond b (near_of (overlay_in s) (slot g)) 0 → n ≤ 16
    go true f = near_most (overlay_in s) (slot g) n f
    go false f = omega arith

tally_most : {A : Type 0} (B : Shape A) (m : ℕ) (l : List A) → tally B m l ≤ length l
unfolding tally
tally_most B m [] = omega arith
tally_most B m (r ∷ l) = go (eqb (reach B r) m) (tally_most B m l)
  where
    go : (b : Bool) → tally B m l ≤ length l → cond b 1 0 + tally B m l ≤ length (r ∷ l)
    go true h = omega arith
    go false h = omega arith

-- in a book with a header a record's nearness is the counter that it raises
pub reach_near : (s g : List ℕ) (n : ℕ) → 48 ≤ length s → length g ≡ 145 → n ≡ near_in s g → reach (shape_in s) g ≡ n
reach_near s g n h k e =
    let near : n ≡ near_of (overlay_in s) (slot g) = e ∙ near_in_lem s g h k in
    reach_is (shape_in s) g ∙ omega (arith, near, near_most (overlay_in s) (slot g) n near)

module _ (s : List ℕ) (headed : 48 ≤ length s) (t : List ℕ) (l : List (List ℕ)) (i : ℕ) (w : Counters (shape_in s) t (take i l)) where
  -- no counter is above the number of records passed
  pub counter_small : i ≤ length l → (n : ℕ) → n ≤ 16 → get_or t n 0 ≤ i
  counter_small h n k = omega (arith, w.each n k, tally_most (shape_in s) n (take i l), length-take-le i l h)

  pub counted_next : (n : ℕ) → i < length l → length (get_or l i []) ≡ 145 → n ≡ near_in s (get_or l i []) → Counters (shape_in s) (set t n (get_or t n 0 + 1)) (take (i + 1) l)
  counted_next n h k e = rw (← reach_near s (get_or l i []) n headed k e) (counters_next (shape_in s) [] t l i h w)

  pub counted_all : length l ≤ i → (n : ℕ) (a : List ℕ) → length a ≡ 145 → n ≡ near_in s a → Counters (shape_in s) (set t n (get_or t n 0 + 1)) (a ∷ l)
  counted_all h n a k e =
      let all : take i l ≡ l = take_all i l h in
      rw (← reach_near s a n headed k e) (counters_cons (shape_in s) t l a (rw all at w))

pub least_in_lem : (s g : List ℕ) → length g ≡ 145 → whole s ≡ true → least_in s g ≡ least_fit (shape_in s) (16 - depth_in s) (suc (depth_in s)) (g ∷ records_in s)
unfolding least_in
least_in_lem s g k e = rw (eq-eqb (length g) 145 k, e)

-- what the code of it reads and counts
pub least_told : (s g header : List ℕ) (l : List (List ℕ)) (capacity depth r : ℕ) (t : List ℕ) → length g ≡ 145 → whole s ≡ true → header ≡ take 48 s → l ≡ records_in s
    → Counters (shape_in header) t (g ∷ l) → capacity ≡ big_at 4 header 40 → depth ≡ depth_in header → r ≡ least capacity (depth + 1) (drop (depth + 1) t) → r ≡ least_in s g
least_told s g header l capacity depth r t size e head all w ec ed er =
    let headed : 48 ≤ length s = omega (arith, whole_room s e) in
    let room : capacity ≡ capacity_in s = ec ∙ rw head (header_capacity s headed) in
    let same : shape_in header ≡ shape_in s = ap shape_in head ∙ (λ i. shape (header_overlay s i) (header_capacity_in s i)) in
    let counters : Counters (shape_in s) t (g ∷ records_in s) = subst (λ (b : Shape (List ℕ)). Counters b t (g ∷ records_in s)) same (rw all at w) in
    let next : depth + 1 ≡ suc (depth_in s) = ap (λ (m : ℕ). m + 1) (ed ∙ rw head (header_byte s 7 (omega arith))) ∙ add-one (depth_in s) in
    er ∙ (λ i. least (room i) (next i) (drop (next i) t))
    ∙ least_fit_lem (shape_in s) (16 - depth_in s) (suc (depth_in s)) t (g ∷ records_in s) counters (omega arith)
    ∙ sym (least_in_lem s g size e)

-- a number that is a depth is told as it is, one past 16 as none
pub depth_told : (n : ℕ) → n ≤ 16 → Some n ≡ rising n
depth_told n h = rw (le-leb n 16 h)

pub none_told : (n : ℕ) → 16 < n → ◌≡◌ {A = Option ℕ} None (rising n)
none_told n h = rw (lt-leb n 16 h)

-- where the walk down the counters ends without a stop, or never starts
pub walk_end : (capacity : ℕ) (t : List ℕ) (from depth kept : ℕ) → length t ≡ 17 → (from ≤ 17 → Descent capacity t from depth kept) → depth ≤ from → least capacity from (drop from t) ≡ from
walk_end capacity t from depth kept size w h = go (limit from 17)
  where
    go : Limit from 17 → least capacity from (drop from t) ≡ from
    go (within k) = descent_end capacity t from depth kept (w k) h ∙ omega (arith, (w k).above, h)
    go (beyond k) = least_end capacity t from (omega (arith, size, k))
