-- One law for each way that a rise ends: there is a least depth at which the records fit, or there is none.
use mathlib.Core.Path.{◌≡◌, sym, ap, ◌∙◌}
use mathlib.Core.List.{List, [], ◌∷◌, ◌++◌}
use Prim.Native.Nat.{ℕ, suc, ◌+◌, ◌-◌, ◌≤◌, ◌<◌}
use native.Mathlib.Omega.{arith}
use lib.ListN.{length, take, drop, length-take}
use borrow.Author.Tests.{le-leb, lt-leb}
use Rattle.std.specs.Prelude.{Option, Some, None}
use Rattle.octets.specs.Number.{big_at}
use Rattle.settling.specs.Book.{overfull, good, inside}
use Rattle.settling.specs.Tally.{least_fit}
use Rattle.settling.proofs.Cases.{Limit, within, beyond, limit}
use Rattle.settling.proofs.Inside.{inside_in_lem}
use Rattle.settling.proofs.Places as places
use Rattle.settling.proofs.Places.{kept_after}
use Rattle.settling.proofs.Least.{Counted, fits_at, fits_nowhere}
use Rattle.settling.proofs.Least as least_laws
use Rattle.settling.proofs.Steps.{step_bursts, step_dropped, step_risen}
use Rattle.records.specs.Record.{slot, near_of}
use Rattle.book.specs.Shape.{shape_in}
use Rattle.book.specs.Layout.{depth_in, overlay_in, capacity_in, count_in, records_in}
use Rattle.book.specs.Book.{in_state, read, write}
use Rattle.book.proofs.Cuts.{counted}
use Rattle.book.proofs.Fields.{count_there}
use Rattle.filing.specs.Least.{least_in, rising}
use Rattle.filing.specs.Keep.{kept_bytes, staying}
use Rattle.editing.specs.Edit.{added, burst_bytes}
use Rattle.filing.proofs.Counting.{least_in_lem}
use Rattle.reserve.specs.Edit.{Stands}
use Rattle.reserve.specs.Awaits.{Awaits, Free, Ends}
use Rattle.reserve.proofs.Standing.{stands_length, stands_count}
use Rattle.reserve.proofs.Stored.{stands_added}
use Rattle.reserve.proofs.Bursting.{stands_burst}
use Rattle.reserve.proofs.Keeping.{there, kept_stands, kept_before}
use Rattle.reserve.proofs.Steps.{kept, stands, ends}
use Rattle.reserve.proofs.Enters.{free_there}

-- what is said of the least depth, where there is one to rise to and where there is none
pub past : (n : ℕ) → rising n ≡ None → 16 < n
past n e = go (limit n 16)
  where
    go : Limit n 16 → 16 < n
    go (within p) = let q : ◌≡◌ {A = Option ℕ} (Some n) None = rw (le-leb n 16 p) at e in cc
    go (beyond p) = p

pub reached : (n d : ℕ) → rising n ≡ Some d → (d ≡ n) × (n ≤ 16)
reached n d e = go (limit n 16)
  where
    go : Limit n 16 → (d ≡ n) × (n ≤ 16)
    go (within p) = let q : ◌≡◌ {A = Option ℕ} (Some n) (Some d) = rw (le-leb n 16 p) at e in (cc, p)
    go (beyond p) = let q : ◌≡◌ {A = Option ℕ} None (Some d) = rw (lt-leb n 16 p) at e in cc

module _ (s r : List ℕ) (i : ℕ) (w : Free s r i) where
  awaits : Awaits s r
  awaits = w.at.awaits

  bytes : Stands s (read s) (depth_in s) (records_in s)
  bytes = stands s r awaits

  -- e is the least depth for the records and the new one
  module _ (full : capacity_in s ≤ count_in s) (e : ℕ) (found : e ≡ least_in s r) where
    many : capacity_in s ≤ length (records_in s)
    many = omega (arith, counted s, full)

    told : Counted (shape_in s) (r ∷ records_in s) (suc (depth_in s)) e
    told =
        let deep : depth_in s ≤ 16 = awaits.formed.depth in
        let here : e ≡ least_fit (shape_in s) (16 - depth_in s) (suc (depth_in s)) (r ∷ records_in s) = found ∙ least_in_lem s r awaits.fits.size (there s (read s) (depth_in s) bytes e) in
        rw here (least_laws.counted (shape_in s) (16 - depth_in s) (suc (depth_in s)) (r ∷ records_in s) (omega arith))

    pub rise_bursts : 16 < e → (u : List ℕ) → u ≡ burst_bytes s → Ends s r 3 u
    rise_bursts h u q = go told
      where
        go : Counted (shape_in s) (r ∷ records_in s) (suc (depth_in s)) e → Ends s r 3 u
        go (fits_at a b f g) = absurd (omega (arith, h, b))
        go (fits_nowhere a g) =
            ends s r awaits overfull 3
            (step_bursts (shape_in s) [] (depth_in s) (records_in s) r i (kept s r awaits) w.at.inside w.at.place (free_there s r i w) many g)
            u (q ∙ stands_burst s (read s) (depth_in s) (records_in s) bytes)

    -- t are the bytes at that depth
    module _ (upto : e ≤ 16) (t : List ℕ) (left : t ≡ kept_bytes s e) where
      stay : List (List ℕ)
      stay = inside (shape_in s) e (records_in s)

      now_stands : Stands t (read s) e stay
      unfolding stay
      now_stands = rw left (kept_stands s (read s) (depth_in s) bytes e)

      pub rise_drops : near_of (overlay_in s) (slot r) < e → Ends s r 2 t
      rise_drops h = go told
        where
          go : Counted (shape_in s) (r ∷ records_in s) (suc (depth_in s)) e → Ends s r 2 t
          go (fits_at a b f g) =
              ends s r awaits (good e (inside (shape_in s) e (records_in s))) 2
              (step_dropped (shape_in s) [] (depth_in s) (records_in s) r i (kept s r awaits) w.at.inside w.at.place (free_there s r i w) many e a b g f h)
              t (rw left (kept_stands s (read s) (depth_in s) bytes e).bytes)
          go (fits_nowhere a g) = absurd (omega (arith, upto, a))

      -- the record is put in among the n that stay, behind those before its place
      module _ (stays : e ≤ near_of (overlay_in s) (slot r)) (n before : ℕ) (count : n ≡ big_at 4 t 44) (front : before ≡ staying s i e) where
        before_there : before ≡ length (inside (shape_in s) e (take i (records_in s)))
        before_there = front ∙ kept_before s (read s) (depth_in s) bytes e i

        behind_less : before ≤ length stay
        unfolding stay
        behind_less =
            let x = inside (shape_in s) e (take i (records_in s)) in
            let q : length (take (length x) stay) ≡ length x = ap length (places.kept_before (shape_in s) e (records_in s) i) in
            omega (arith, before_there, q, length-take (length x) stay)

        counted_there : length stay ≡ n
        counted_there = sym (count ∙ count_there t (omega (arith, stands_length now_stands)) ∙ stands_count now_stands)

        placed : take before stay ++ (r ∷ drop before stay)
            ≡ inside (shape_in s) e (take i (records_in s)) ++ (r ∷ inside (shape_in s) e (drop i (records_in s)))
        unfolding stay
        placed = rw (before_there, places.kept_before (shape_in s) e (records_in s) i, kept_after (shape_in s) e (records_in s) i)

        room : length stay < capacity_in s
        unfolding stay
        room = go told
          where
            go : Counted (shape_in s) (r ∷ records_in s) (suc (depth_in s)) e → length (inside (shape_in s) e (records_in s)) < capacity_in s
            go (fits_at a b f g) = omega (arith, ap length (inside_in_lem (shape_in s) e r (records_in s) stays), f)
            go (fits_nowhere a g) = absurd (omega (arith, upto, a))

        put_in : added t n before r ≡ write (in_state (read s) (good e (inside (shape_in s) e (take i (records_in s)) ++ (r ∷ inside (shape_in s) e (drop i (records_in s))))))
        unfolding read
        put_in =
            (stands_added t (read s) e stay r before now_stands awaits.fits.size n counted_there (omega (arith, behind_less, counted_there)) (omega (arith, room, counted_there))).bytes
            ∙ ap (λ (m : List (List ℕ)). write (in_state (read s) (good e m))) placed

        pub rise_keeps : (u : List ℕ) → u ≡ added t n before r → Ends s r 0 u
        rise_keeps u q = go told
          where
            go : Counted (shape_in s) (r ∷ records_in s) (suc (depth_in s)) e → Ends s r 0 u
            go (fits_at a b f g) =
                ends s r awaits (good e (inside (shape_in s) e (take i (records_in s)) ++ (r ∷ inside (shape_in s) e (drop i (records_in s))))) 0
                (step_risen (shape_in s) [] (depth_in s) (records_in s) r i (kept s r awaits) w.at.inside w.at.place (free_there s r i w) many e a b g f stays)
                u (q ∙ put_in)
            go (fits_nowhere a g) = absurd (omega (arith, upto, a))
